-- `moves::relocate` meets its contract. Assumes nothing.
use native.Mathlib.Omega.{arith}
use lib.ListN.{length-drop}
use Rattle.basis.specs.Numbers.{big_endian}
use Rattle.basis.specs.NumberLaws.{big_endian_length}
use Rattle.basis.specs.Sizes.{space_width, tuple_size}
use Rattle.moves.specs.SelectedLaws.{over_inner}
use Rattle.moves.proofs.relocate.Goals as goal

pub returns : goal.returns
returns c =
    let wide = big_endian_length space_width c.args.to in
    over_inner _ _ _ _ _ tuple_size (big_endian space_width c.args.to) space_width (omega (arith, c.requires)) (simp length-drop (omega (arith, c.requires))) (omega arith) (omega arith) c.move_row.ensures c.set_space.ensures
