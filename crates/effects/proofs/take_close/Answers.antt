-- `effects::take_close` meets its contract. Assumes nothing.
use Rattle.effects.specs.EffectLaws.{close_answered}
use Rattle.effects.proofs.take_close.Goals as goal

pub close_space-requires : goal.close_space-requires
close_space-requires c = (c.requires.0, c.requires.1)

pub plain_reply-requires : goal.plain_reply-requires
plain_reply-requires c = c.requires.2

pub shape_of-state : goal.shape_of-state
shape_of-state c = c.close_space.auto.state

pub shape_of-out : goal.shape_of-out
shape_of-out c = c.plain_reply.auto.out

pub returns : goal.returns
returns c =
    let a = c.args in
    close_answered a.state.now _ a.out.now _ a.host a.process a.space _ _ c.close_space.ensures c.last-last.ensures.0 c.plain_reply.ensures
