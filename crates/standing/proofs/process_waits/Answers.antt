-- `standing::process_waits` meets its contract. Assumes nothing.
use mathlib.Core.Path.{ap, ◌∙◌}
use mathlib.Core.List.{List}
use Rattle.basis.specs.Lists.{any}
use Rattle.model.specs.Run.{Waiting, is_waiting}
use Rattle.queue.specs.Queue.{of_process}
use Rattle.lent.specs.Sections.{queue_read, is_queued}
use Rattle.standing.proofs.process_waits.Goals as goal

pub process_waits-requires : goal.process_waits-requires
process_waits-requires c =
    is_queued _ _ c.requires c.waiting_count-n.ensures.0

pub returns : goal.returns
unfolding is_waiting
returns c =
    c.process_waits.ensures ∙ ap (λ (ws : List Waiting). any (of_process c.args.process) ws) (queue_read _ _ c.requires c.waiting_count-n.ensures.0)
