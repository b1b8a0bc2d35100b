-- `spaces::is_open` meets its contract. Assumes nothing.
use Rattle.sections.specs.Shapes.{holds_room}
use Rattle.spaces.specs.Spaces.{space_shape}
use Rattle.spaces.specs.SpaceLaws.{open_is}
use Rattle.spaces.proofs.is_open.Goals as goal

pub place-requires : goal.place-requires
place-requires c = (holds_room space_shape _ _ _ c.requires.0, c.requires.0.few, c.requires.1)

pub returns : goal.returns
returns c = open_is _ _ _ _ c.place.ensures c.is_some.ensures
