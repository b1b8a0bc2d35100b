-- `state::drop_waiting` meets its contract. Assumes nothing.
use native.Mathlib.Omega.{arith}
use Rattle.lent.specs.Sections.{is_queued}
use Rattle.state.specs.QueueChanges.{drops}
use Rattle.state.proofs.drop_waiting.Goals as goal

pub drop_host-left-requires : goal.drop_host-left-requires
drop_host-left-requires c = is_queued _ _ c.requires c.waiting_count-n.ensures.0

pub set_waiting_count-requires : goal.set_waiting_count-requires
set_waiting_count-requires c = (omega arith, c.drop_host-left.ensures.few)

pub returns : goal.returns
returns c =
    drops c.requires c.waiting_count-n.ensures.0 c.set_waiting_count.ensures c.args.host c.drop_host-left.ensures
