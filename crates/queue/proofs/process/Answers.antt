-- `queue::process` meets its contract. Assumes nothing.
use native.Mathlib.Omega.{arith}
use Rattle.sections.specs.Shapes.{holds_room}
use Rattle.queue.specs.Queue.{waiting_shape}
use Rattle.queue.specs.PlaceLaws.{process_at_lem}
use Rattle.queue.proofs.process.Goals as goal

pub field-requires : goal.field-requires
field-requires c = (holds_room waiting_shape _ _ _ c.requires.0, c.requires.1, omega arith, omega arith)

pub overflow_cast-result : goal.overflow_cast-result
overflow_cast-result c = omega (arith, (process_at_lem _ _ _ c.requires.0 c.requires.1 _ c.field.ensures).1)

pub returns : goal.returns
returns c = (process_at_lem _ _ _ c.requires.0 c.requires.1 _ c.field.ensures).0
