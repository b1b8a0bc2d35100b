-- `header::last` meets its contract. Assumes nothing.
use mathlib.Core.Path.{◌∙◌}
use Rattle.header.specs.RowLaws.{last_says}
use Rattle.header.proofs.last.Goals as goal

pub returns : goal.returns
returns c = (c.word4.ensures ∙ last_says _, c.word4.ensures)
