-- `standing::refuse_monitor` meets its contract. Assumes nothing.
use mathlib.Core.Path.{refl, ◌∙◌}
use Rattle.model.specs.Step.{checks}
use Rattle.order.specs.RefusalLaws.{stops_on, goes, monitors_used, monitors_left}
use Rattle.standing.proofs.refuse_monitor.Goals as goal

pub returns-in_err-refuse_standing : goal.returns-in_err-refuse_standing
unfolding checks
returns-in_err-refuse_standing c = stops_on _ _ _ _ c.in_err-refuse_standing.ensures c.from_residual.result c.from_residual.ensures.1 _

pub returns-then-monitors-ge-MOST_MONITORS : goal.returns-then-monitors-ge-MOST_MONITORS
unfolding checks
returns-then-monitors-ge-MOST_MONITORS c =
    monitors_used _ _ c.monitors.ensures.0 c.if-monitors-ge-MOST_MONITORS.true ∙ goes _ _ _ _ c.in_ok-refuse_standing.ensures _ refl

pub returns : goal.returns
unfolding checks
returns c =
    monitors_left _ _ c.monitors.ensures.0 c.if-monitors-ge-MOST_MONITORS.false ∙ goes _ _ _ _ c.in_ok-refuse_standing.ensures _ refl
