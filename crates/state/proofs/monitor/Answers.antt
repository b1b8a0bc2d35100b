-- `state::monitor` meets its contract. Assumes nothing.
use native.Mathlib.Omega.{arith}
use Rattle.layout.specs.States.{decode}
use Rattle.state.specs.HostChanges.{monitors_below, next_monitor_lem, monitored}
use Rattle.state.proofs.monitor.Goals as goal

pub overflow_add-n : goal.overflow_add-n
overflow_add-n c = omega (arith, monitors_below (decode c.args.state.now) c.requires.1, c.monitors-n.ensures.0)

pub set_monitors-requires : goal.set_monitors-requires
set_monitors-requires c = (omega arith, omega (arith, monitors_below (decode c.args.state.now) c.requires.1, c.monitors-n.ensures.0))

pub overflow_cast-result : goal.overflow_cast-result
overflow_cast-result c = omega (arith, monitors_below (decode c.args.state.now) c.requires.1, c.monitors-n.ensures.0)

pub shape_of-state : goal.shape_of-state
shape_of-state c = c.set_monitors.auto.state

pub returns : goal.returns
returns c =
    let b = c.args.state.now in
    (next_monitor_lem (decode b) _ c.monitors-n.ensures.0, monitored b _ _ c.requires.0 c.requires.1 c.monitors-n.ensures.0 c.set_monitors.ensures)
