-- `tuples::drop_space` meets its contract. Assumes nothing.
use native.Mathlib.Omega.{arith}
use Rattle.basis.specs.Sizes.{space_width}
use Rattle.sections.specs.Rows.{lacks}
use Rattle.sections.specs.Shapes.{holds_section, holds_keep}
use Rattle.tuples.specs.Section.{tuple_shape, outside}
use Rattle.tuples.specs.SectionLaws.{lacks_space}
use Rattle.tuples.proofs.drop_space.Goals as goal

pub drop_rows-requires : goal.drop_rows-requires
drop_rows-requires c = (holds_section tuple_shape _ _ _ c.requires, omega arith, omega arith, omega arith)

pub returns : goal.returns
returns c =
    holds_keep tuple_shape _ _ _ c.requires (lacks 0 space_width c.args.space) (outside c.args.space) (lacks_space c.args.space) _ _ (rw c.from.ensures at c.drop_rows.ensures)
