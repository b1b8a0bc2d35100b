-- `state::recover` meets its contract. Assumes nothing.
use mathlib.Core.Bool.{false}
use Rattle.layout.specs.States.{decode}
use Rattle.state.specs.HostChanges.{up_at, recovers}
use Rattle.state.proofs.recover.Goals as goal

pub with_host-requires : goal.with_host-requires
with_host-requires c = (c.requires.1, up_at (decode c.args.state.now) c.hosts-up.result c.args.host false c.hosts-up.ensures.0 c.requires.2)

pub shape_of-state : goal.shape_of-state
shape_of-state c = c.set_hosts.auto.state

pub returns : goal.returns
returns c =
    recovers c.args.state.now _ c.hosts-up.result _ c.args.host c.requires.0 c.hosts-up.ensures.0 c.with_host.ensures c.set_hosts.ensures
