-- `words::put2` meets its contract. Assumes nothing.
use Rattle.std.proofs.Common.{◌∙◌, arith}
use Rattle.basis.specs.Numbers.{big_endian}
use Rattle.basis.specs.NumberLaws.{big_endian_length}
use Rattle.words.specs.OverLaws.{over_slice}
use Rattle.words.proofs.put2.Goals as goal

pub returns : goal.returns
unfolding big_endian
returns c =
    let a = c.args in
    over_slice a.d.now a.at _ _ (big_endian 2 a.n) 2 (omega arith) (omega (arith, big_endian_length 2 a.n)) (c.copy_from_slice.ensures.after ∙ c.to_be_bytes.ensures)
