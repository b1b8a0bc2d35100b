-- `effects::take_monitor` meets its contract. Assumes nothing.
use Rattle.effects.specs.EffectLaws.{monitor_answered}
use Rattle.effects.proofs.take_monitor.Goals as goal

pub monitor-n-requires : goal.monitor-n-requires
monitor-n-requires c = (c.requires.0, c.requires.1)

pub number_reply-requires : goal.number_reply-requires
number_reply-requires c = c.requires.2

pub shape_of-state : goal.shape_of-state
shape_of-state c = c.monitor-n.auto.state

pub shape_of-out : goal.shape_of-out
shape_of-out c = c.number_reply.auto.out

pub returns : goal.returns
returns c =
    let a = c.args in
    monitor_answered a.state.now _ a.out.now _ a.host a.process _ _ _ c.monitor-n.ensures.1 c.monitor-n.ensures.0 c.last-last.ensures.0 c.number_reply.ensures
