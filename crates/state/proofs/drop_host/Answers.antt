-- `state::drop_host` meets its contract. Assumes nothing.
use mathlib.Core.Bool.{true}
use Rattle.header.specs.StoredLaws.{said}
use Rattle.state.specs.RecordChanges.{others_kept, still_up, host_dropped}
use Rattle.state.proofs.drop_host.Goals as goal

pub drop_waiting-requires : goal.drop_waiting-requires
drop_waiting-requires c = c.requires.0

pub host_down-requires : goal.host_down-requires
host_down-requires c =
    let k = c.drop_waiting.ensures in
    let a = c.args in
    (said _ _ k, c.requires.1, still_up a.state.now _ _ a.host true k c.requires.2, others_kept a.state.now _ a.host k)

pub returns : goal.returns
returns c =
    let a = c.args in
    host_dropped a.state.now _ _ a.host c.drop_waiting.ensures c.host_down.ensures
