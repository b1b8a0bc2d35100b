-- `effects::answer_up` meets its contract. Assumes nothing.
use Rattle.effects.specs.EffectLaws.{up_answered}
use Rattle.effects.proofs.answer_up.Goals as goal

pub number_reply-requires : goal.number_reply-requires
number_reply-requires c = c.requires.1

pub shape_of-out : goal.shape_of-out
shape_of-out c = c.number_reply.auto.out

pub returns : goal.returns
returns c =
    let a = c.args in
    up_answered a.state.now a.out.now _ _ _ _ a.host _ c.last-last.ensures.0 c.hosts.ensures.0 c.hosts_up-up.ensures c.number_reply.ensures
