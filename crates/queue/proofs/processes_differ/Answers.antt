-- `queue::processes_differ` meets its contract. Assumes nothing.
use mathlib.Core.Path.{◌∙◌}
use native.Mathlib.Omega.{arith}
use Rattle.sections.specs.Shapes.{holds_room}
use Rattle.queue.specs.Queue.{waiting_shape}
use Rattle.queue.specs.LegalLaws.{processes_are}
use Rattle.queue.proofs.processes_differ.Goals as goal

pub are_apart-requires : goal.are_apart-requires
are_apart-requires c = (holds_room waiting_shape _ _ _ c.requires, omega arith, omega arith)

pub returns : goal.returns
returns c = c.are_apart.ensures ∙ processes_are _ _ c.requires
