-- `values::is_within` meets its contract. Assumes nothing.
use mathlib.Core.Path.{sym, ◌∙◌}
use Rattle.model.specs.Value.{is_within}
use Rattle.values.proofs.is_within.Goals as goal

pub returns-then-at_most : goal.returns-then-at_most
unfolding is_within
returns-then-at_most c = rw (sym c.at_most.ensures ∙ c.if-at_most.true) c.at_most-then-at_most.ensures

pub returns-else-at_most : goal.returns-else-at_most
unfolding is_within
returns-else-at_most c = rw (sym c.at_most.ensures ∙ c.if-at_most.false) c.if-at_most.false
