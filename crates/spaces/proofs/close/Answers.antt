-- `spaces::close` meets its contract. Assumes nothing.
use native.Mathlib.Omega.{arith}
use Rattle.sections.specs.Shapes.{holds_section, holds_keep}
use Rattle.spaces.specs.Spaces.{space_shape}
use Rattle.spaces.specs.SpaceLaws.{lacks_number}
use Rattle.spaces.proofs.close.Goals as goal

pub drop_rows-requires : goal.drop_rows-requires
drop_rows-requires c = (holds_section space_shape _ _ _ c.requires, omega arith, omega arith, omega arith)

pub returns : goal.returns
returns c =
    holds_keep space_shape _ _ _ c.requires _ _ (lacks_number _) _ _ (rw c.from.ensures at c.drop_rows.ensures)
