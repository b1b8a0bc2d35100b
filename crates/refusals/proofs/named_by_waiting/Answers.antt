-- `refusals::named_by_waiting` meets its contract. Assumes nothing.
use mathlib.Core.Path.{ap, ◌∙◌}
use mathlib.Core.List.{List}
use Rattle.basis.specs.Lists.{any}
use Rattle.model.specs.Run.{Waiting}
use Rattle.model.specs.Step.{some_waiting_names}
use Rattle.lent.specs.Sections.{is_listed, is_rising, queue_read, is_queued}
use Rattle.refusals.specs.Naming.{naming}
use Rattle.refusals.proofs.named_by_waiting.Goals as goal

pub some_waiting_names-requires : goal.some_waiting_names-requires
some_waiting_names-requires c =
    let h = c.requires in
    (is_queued _ _ h c.waiting_count-n.ensures.0, is_listed _ _ h c.space_count-m.ensures.0, is_rising _ _ h c.space_count-m.ensures.0)

pub returns : goal.returns
unfolding some_waiting_names
returns c =
    c.some_waiting_names.ensures ∙ ap (λ (ws : List Waiting). any (naming c.args.space) ws) (queue_read _ _ c.requires c.waiting_count-n.ensures.0)
