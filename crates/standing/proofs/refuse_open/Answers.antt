-- `standing::refuse_open` meets its contract. Assumes nothing.
use mathlib.Core.Path.{refl, ◌∙◌}
use Rattle.model.specs.Step.{checks}
use Rattle.order.specs.RefusalLaws.{stops_on, goes}
use Rattle.standing.proofs.refuse_open.Goals as goal

pub returns-in_err-refuse_standing : goal.returns-in_err-refuse_standing
unfolding checks
returns-in_err-refuse_standing c = λ isPrivate. stops_on _ _ _ _ c.in_err-refuse_standing.ensures c.from_residual.result c.from_residual.ensures.1 _

pub returns : goal.returns
unfolding checks
returns c = λ isPrivate. c.refuse_more.ensures ∙ goes _ _ _ _ c.in_ok-refuse_standing.ensures _ refl
