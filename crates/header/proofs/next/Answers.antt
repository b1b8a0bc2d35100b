-- `header::next` meets its contract. Assumes nothing.
use mathlib.Core.Path.{◌∙◌}
use Rattle.header.specs.RowLaws.{next_says}
use Rattle.header.proofs.next.Goals as goal

pub returns : goal.returns
returns c = (c.word4.ensures ∙ next_says _, c.word4.ensures)
