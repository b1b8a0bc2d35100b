-- `sections::append` meets its contract. Assumes nothing.
use Rattle.sections.specs.RowLaws.{rows_more}
use Rattle.sections.proofs.append.Goals as goal

pub returns : goal.returns
returns c =
    rows_more _ _ _ _ _ _ _ c.requires.0 c.requires.2 c.requires.1 c.copy_at.ensures
