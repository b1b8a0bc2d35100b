-- `tuples::space` meets its contract. Assumes nothing.
use mathlib.Core.Path.{◌∙◌}
use Rattle.tuples.specs.PlaceLaws.{space_at_lem}
use Rattle.tuples.proofs.space.Goals as goal

pub returns : goal.returns
returns c = c.space_number.ensures ∙ space_at_lem _ _
