-- `tuples::field_count` meets its contract. Assumes nothing.
use mathlib.Core.Path.{◌∙◌}
use Rattle.tuples.specs.PlaceLaws.{count_at_lem}
use Rattle.tuples.proofs.field_count.Goals as goal

pub returns : goal.returns
returns c = c.size.ensures.0 ∙ count_at_lem _ _
