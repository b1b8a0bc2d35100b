-- `tuples::remove` meets its contract. Assumes nothing.
use Rattle.sections.specs.Shapes.{holds_section, holds_cut}
use Rattle.tuples.specs.Section.{tuple_shape}
use Rattle.tuples.proofs.remove.Goals as goal

pub cut-requires : goal.cut-requires
cut-requires c = (holds_section tuple_shape _ _ _ c.requires.0, c.requires.1)

pub returns : goal.returns
returns c =
    holds_cut tuple_shape _ _ _ c.requires.0 _ _ c.cut.ensures
