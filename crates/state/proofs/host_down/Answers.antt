-- `state::host_down` meets its contract. Assumes nothing.
use mathlib.Core.Bool.{true}
use Rattle.layout.specs.States.{decode}
use Rattle.state.specs.HostChanges.{up_at, goes_down}
use Rattle.state.proofs.host_down.Goals as goal

pub without_host-requires : goal.without_host-requires
without_host-requires c = (c.requires.1, up_at (decode c.args.state.now) c.hosts-up.result c.args.host true c.hosts-up.ensures.0 c.requires.2)

pub shape_of-state : goal.shape_of-state
shape_of-state c = c.set_hosts.auto.state

pub returns : goal.returns
returns c =
    goes_down c.args.state.now _ c.hosts-up.result _ c.args.host c.requires.0 c.requires.3 c.hosts-up.ensures.0 c.without_host.ensures c.set_hosts.ensures
