-- `words::put4` meets its contract. Assumes nothing.
use Rattle.std.proofs.Common.{◌≡◌, ◌∙◌, ◌/◌, arith}
use Rattle.basis.specs.Numbers.{big_endian}
use Rattle.basis.specs.NumberLaws.{big_endian_length}
use Rattle.words.specs.OverLaws.{over_slice}
use Rattle.words.proofs.put4.Goals as goal

pub returns : goal.returns
unfolding big_endian
returns c =
    let a = c.args in
    let high : a.n / 256 / 256 / 256 ≡ a.n / 16777216 = omega arith in
    let next : a.n / 256 / 256 ≡ a.n / 65536 = omega arith in
    over_slice a.d.now a.at _ _ (big_endian 4 a.n) 4 (omega arith) (omega (arith, big_endian_length 4 a.n)) (c.copy_from_slice.ensures.after ∙ (c.to_be_bytes.ensures ∙ rw (high, next)))
