-- `spaces::is_open_to` meets its contract. Assumes nothing.
use Rattle.sections.specs.Shapes.{holds_room}
use Rattle.spaces.specs.Spaces.{space_shape}
use Rattle.spaces.specs.SpaceLaws.{shut, shut, within, let_in}
use Rattle.spaces.proofs.is_open_to.Goals as goal

pub place-requires : goal.place-requires
place-requires c = (holds_room space_shape _ _ _ c.requires.0, c.requires.0.few, c.requires.1)

pub denied_at-requires : goal.denied_at-requires
denied_at-requires c = (holds_room space_shape _ _ _ c.requires.0, within _ _ _ c.args.process _ c.in-Some.ensures)

pub returns-in_default : goal.returns-in_default
returns-in_default c = shut _ _ _ _ c.in_default.ensures

pub returns : goal.returns
returns c = let_in _ _ _ _ _ c.in-Some.ensures _ c.requires.1 c.denied_at.ensures
