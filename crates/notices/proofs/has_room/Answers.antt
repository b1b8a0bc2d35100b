-- `notices::has_room` meets its contract. Assumes nothing.
use Rattle.notices.specs.NoticeLaws.{room_count}
use Rattle.notices.proofs.has_room.Goals as goal

pub returns : goal.returns
returns c = room_count _ _ c.tuple_count.ensures.0
