-- `validation::waits_ok` meets its contract. Assumes nothing.
use mathlib.Core.Path.{sym, ◌∙◌}
use Rattle.sections.specs.Shapes.{holds_room}
use Rattle.queue.specs.Queue.{waiting_shape}
use Rattle.validation.specs.StateLaws.{no_order, no_process, then_wait}
use Rattle.validation.proofs.waits_ok.Goals as goal
use Rattle.validation.proofs.waits_ok.Goals.{then-in_order, else-in_order}

pub in_order-requires : goal.in_order-requires
in_order-requires c = holds_room waiting_shape _ _ _ c.requires.0

pub processes_differ-requires : goal.processes_differ-requires
processes_differ-requires c = c.requires.0

pub returns-else-processes_differ : goal.returns-else-processes_differ
returns-else-processes_differ c =
    let no = c.if-processes_differ.false in
    elim c.if-in_order.branch [
      | then-in_order w ↦ no ∙ no_process _ _ _ _ _ _ c.in_order.ensures w.if-in_order.true _ w.processes_differ.ensures (sym w.value-is ∙ no)
      | else-in_order w ↦ no ∙ no_order _ _ _ _ _ _ c.in_order.ensures w.if-in_order.false
    ]

pub all_may_wait-requires : goal.all_may_wait-requires
all_may_wait-requires c = (c.requires.0, c.requires.1, c.requires.2, c.requires.3, c.requires.4)

pub returns-then-processes_differ : goal.returns-then-processes_differ
returns-then-processes_differ c =
    elim c.if-in_order.branch [
      | then-in_order w ↦ then_wait _ _ _ _ _ _ c.in_order.ensures w.if-in_order.true _ w.processes_differ.ensures (sym w.value-is ∙ c.if-processes_differ.true) _ c.all_may_wait.ensures
      | else-in_order w ↦ cc
    ]
