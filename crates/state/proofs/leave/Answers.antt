-- `state::leave` meets its contract. Assumes nothing.
use native.Mathlib.Omega.{arith}
use Rattle.lent.specs.Sections.{is_queued}
use Rattle.state.specs.QueueChanges.{leaves}
use Rattle.state.proofs.leave.Goals as goal

pub leave-requires : goal.leave-requires
leave-requires c = (is_queued _ _ c.requires.0 c.waiting_count-n.ensures.0, omega (arith, c.requires.1, c.waiting_count-n.ensures.0))

pub overflow_sub-n : goal.overflow_sub-n
overflow_sub-n c = omega (arith, c.requires.1, c.waiting_count-n.ensures.0)

pub set_waiting_count-requires : goal.set_waiting_count-requires
set_waiting_count-requires c = (omega arith, c.leave.ensures.few)

pub returns : goal.returns
returns c =
    leaves c.requires.0 c.waiting_count-n.ensures.0 c.set_waiting_count.ensures c.args.i c.leave.ensures
