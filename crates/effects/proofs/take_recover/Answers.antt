-- `effects::take_recover` meets its contract. Assumes nothing.
use Rattle.header.specs.StoredLaws.{said}
use Rattle.effects.specs.EffectLaws.{recover_answered}
use Rattle.effects.proofs.take_recover.Goals as goal

pub answer_up-requires : goal.answer_up-requires
answer_up-requires c = (said _ _ c.recover.ensures, c.requires.3)

pub shape_of-state : goal.shape_of-state
shape_of-state c = c.recover.auto.state

pub shape_of-out : goal.shape_of-out
shape_of-out c = c.answer_up.auto.out

pub returns : goal.returns
returns c =
    let a = c.args in
    recover_answered a.state.now _ a.out.now _ a.host _ c.recover.ensures c.answer_up.ensures
