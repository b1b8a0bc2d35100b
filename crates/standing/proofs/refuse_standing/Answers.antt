-- `standing::refuse_standing` meets its contract. Assumes nothing.
use mathlib.Core.Path.{sym, ◌∙◌}
use Rattle.order.specs.RefusalLaws.{down, waits, stands}
use Rattle.standing.proofs.refuse_standing.Goals as goal

pub returns-then-not-host_is_up : goal.returns-then-not-host_is_up
returns-then-not-host_is_up c = down _ _ _ (sym c.host_is_up.ensures ∙ c.if-not-host_is_up.true)

pub returns-then-process_waits : goal.returns-then-process_waits
returns-then-process_waits c = waits _ _ _ (sym c.host_is_up.ensures ∙ c.if-not-host_is_up.false) (sym c.process_waits.ensures ∙ c.if-process_waits.true)

pub returns : goal.returns
returns c = stands _ _ _ (sym c.host_is_up.ensures ∙ c.if-not-host_is_up.false) (sym c.process_waits.ensures ∙ c.if-process_waits.false)
