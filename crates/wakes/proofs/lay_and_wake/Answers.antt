-- `wakes::lay_and_wake` meets its contract. Assumes nothing.
use Rattle.header.specs.StoredLaws.{said}
use Rattle.wakes.specs.Turns.{laid_room, laid_turn}
use Rattle.wakes.proofs.lay_and_wake.Goals as goal

pub wake_one-requires : goal.wake_one-requires
wake_one-requires c = (said _ _ c.lay.ensures, laid_room c.args.state.now _ _ c.lay.ensures c.requires.1)

pub returns : goal.returns
returns c =
    (laid_turn c.args.state.now _ _ _ _ _ c.lay.ensures c.wake_one.ensures.0, c.wake_one.ensures.1)
