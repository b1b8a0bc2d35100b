-- `header::tuple_count` meets its contract. Assumes nothing.
use mathlib.Core.Path.{◌∙◌}
use Rattle.header.specs.RowLaws.{tuple_count_lem}
use Rattle.header.proofs.tuple_count.Goals as goal

pub returns : goal.returns
returns c = (c.from.ensures ∙ c.word2.ensures ∙ tuple_count_lem _, c.from.ensures ∙ c.word2.ensures)
