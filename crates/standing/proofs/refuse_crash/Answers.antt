-- `standing::refuse_crash` meets its contract. Assumes nothing.
use mathlib.Core.Path.{sym, ◌∙◌}
use Rattle.order.specs.RefusalLaws.{crash_down, crash_up}
use Rattle.standing.proofs.refuse_crash.Goals as goal

pub returns-then-not-host_is_up : goal.returns-then-not-host_is_up
returns-then-not-host_is_up c = crash_down _ _ (sym c.host_is_up.ensures ∙ c.if-not-host_is_up.true)

pub returns : goal.returns
returns c = crash_up _ _ (sym c.host_is_up.ensures ∙ c.if-not-host_is_up.false)
