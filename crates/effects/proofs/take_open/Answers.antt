-- `effects::take_open` meets its contract. Assumes nothing.
use Rattle.effects.specs.EffectLaws.{open_answered}
use Rattle.effects.proofs.take_open.Goals as goal

pub open_space-n-requires : goal.open_space-n-requires
open_space-n-requires c = (c.requires.0, c.requires.1)

pub number_reply-requires : goal.number_reply-requires
number_reply-requires c = c.requires.2

pub shape_of-state : goal.shape_of-state
shape_of-state c = c.open_space-n.auto.state

pub shape_of-out : goal.shape_of-out
shape_of-out c = c.number_reply.auto.out

pub returns : goal.returns
returns c =
    let a = c.args in
    open_answered a.state.now _ a.out.now _ a.host a.process a.owned _ _ _ c.open_space-n.ensures.1 c.open_space-n.ensures.0 c.last-last.ensures.0 c.number_reply.ensures
