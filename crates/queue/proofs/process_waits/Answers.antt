-- `queue::process_waits` meets its contract. Assumes nothing.
use native.Mathlib.Omega.{arith}
use Rattle.sections.specs.Shapes.{holds_room}
use Rattle.queue.specs.Queue.{waiting_shape}
use Rattle.queue.specs.QueueLaws.{waiting_is}
use Rattle.queue.proofs.process_waits.Goals as goal

pub find-requires : goal.find-requires
find-requires c = (holds_room waiting_shape _ _ _ c.requires, omega arith, omega arith)

pub returns : goal.returns
returns c = rw c.from.ensures at (waiting_is _ _ _ _ _ c.requires c.find.ensures c.is_some.ensures)
