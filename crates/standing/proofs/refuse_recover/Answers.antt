-- `standing::refuse_recover` meets its contract. Assumes nothing.
use mathlib.Core.Path.{sym, ◌∙◌}
use Rattle.order.specs.RefusalLaws.{recover_up, recover_down}
use Rattle.standing.proofs.refuse_recover.Goals as goal

pub returns-then-host_is_up : goal.returns-then-host_is_up
returns-then-host_is_up c = recover_up _ _ (sym c.host_is_up.ensures ∙ c.if-host_is_up.true)

pub returns : goal.returns
returns c = recover_down _ _ (sym c.host_is_up.ensures ∙ c.if-host_is_up.false)
