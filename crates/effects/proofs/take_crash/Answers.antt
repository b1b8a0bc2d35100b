-- `effects::take_crash` meets its contract. Assumes nothing.
use Rattle.header.specs.StoredLaws.{said}
use Rattle.effects.specs.EffectLaws.{crash_answered}
use Rattle.effects.proofs.take_crash.Goals as goal

pub answer_up-requires : goal.answer_up-requires
answer_up-requires c = (said _ _ c.crash.ensures, c.requires.3)

pub shape_of-state : goal.shape_of-state
shape_of-state c = c.crash.auto.state

pub shape_of-out : goal.shape_of-out
shape_of-out c = c.answer_up.auto.out

pub returns : goal.returns
returns c =
    let a = c.args in
    crash_answered a.state.now _ a.out.now _ a.host _ c.crash.ensures c.answer_up.ensures
