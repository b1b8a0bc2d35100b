-- `sections::field` meets its contract. Assumes nothing.
use native.Mathlib.Omega.{arith}
use Rattle.sections.specs.RowLaws.{row_room}
use Rattle.sections.proofs.field.Goals as goal

pub overflow_mul-i : goal.overflow_mul-i
overflow_mul-i c = omega (arith, row_room _ _ _ _ c.requires.0 c.requires.1)

pub overflow_add-i : goal.overflow_add-i
overflow_add-i c = omega (arith, row_room _ _ _ _ c.requires.0 c.requires.1)

pub number-requires : goal.number-requires
number-requires c = (omega (arith, row_room _ _ _ _ c.requires.0 c.requires.1), c.requires.3)

pub returns : goal.returns
returns c = c.number.ensures.0
