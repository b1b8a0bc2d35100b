-- `refusals::refuse_close` meets its contract. Assumes nothing.
use mathlib.Core.Path.{refl, ap, ◌∙◌}
use Rattle.order.specs.Refusal.{refusal}
use Rattle.order.specs.RefusalLaws.{stops_on, goes, close_checks}
use Rattle.refusals.proofs.refuse_close.Goals as goal

pub returns-in_err-refuse_standing : goal.returns-in_err-refuse_standing
returns-in_err-refuse_standing c = stops_on _ _ _ _ c.in_err-refuse_standing.ensures c.from_residual.result c.from_residual.ensures.1 _ ∙ ap refusal (close_checks _ _ _ _)

pub returns : goal.returns
returns c = c.refuse_space.ensures ∙ goes _ _ _ _ c.in_ok-refuse_standing.ensures _ refl ∙ ap refusal (close_checks _ _ _ _)
