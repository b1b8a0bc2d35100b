-- `state::enqueue` meets its contract. Assumes nothing.
use native.Mathlib.Omega.{arith}
use Rattle.lent.specs.Sections.{is_queued}
use Rattle.state.specs.QueueChanges.{enqueues}
use Rattle.state.proofs.enqueue.Goals as goal

pub enqueue-requires : goal.enqueue-requires
enqueue-requires c =
    let n = c.waiting_count-n.ensures.0 in
    (is_queued _ _ c.requires.0 n, omega (arith, n, c.requires.1), c.requires.2)

pub set_waiting_count-requires : goal.set_waiting_count-requires
set_waiting_count-requires c = (omega arith, c.enqueue.ensures.few)

pub returns : goal.returns
returns c =
    enqueues c.requires.0 c.waiting_count-n.ensures.0 c.set_waiting_count.ensures _ c.last-last.ensures.0 c.requires.3 c.enqueue.ensures
