-- `tuples::append` meets its contract. Assumes nothing.
use native.Mathlib.Omega.{arith}
use Rattle.sections.specs.Shapes.{holds_section, holds_length, holds_more}
use Rattle.tuples.specs.Section.{tuple_shape}
use Rattle.tuples.specs.EntryLaws.{entry_length, entry_legal, entry_whole}
use Rattle.tuples.proofs.append.Goals as goal

pub append-requires : goal.append-requires
append-requires c =
    (holds_section tuple_shape _ _ _ c.requires.0, omega (arith, holds_length tuple_shape _ _ _ c.requires.0), omega (arith, entry_length _ c.requires.2))

pub returns : goal.returns
returns c =
    holds_more tuple_shape _ _ _ c.requires.0 _ _ _ c.requires.1 (entry_legal _ c.requires.2) (entry_whole _ c.requires.2) c.append.ensures
