-- `notices::lay` meets its contract. Assumes nothing.
use mathlib.Core.Path.{sym, ◌∙◌}
use Rattle.notices.specs.Walks.{full_laid, nothing_laid}
use Rattle.notices.proofs.lay.Goals as goal
use Rattle.notices.proofs.lay.Goals.{else-has_room-via-then-has_room+else-not-owes_nothing, else-has_room-via-else-has_room}

pub returns-else-has_room : goal.returns-else-has_room
returns-else-has_room c =
    elim c.else-has_room.branch [
      | else-has_room-via-then-has_room+else-not-owes_nothing w ↦ nothing_laid _ c.requires (sym w.owes_nothing.ensures ∙ w.if-not-owes_nothing.false)
      | else-has_room-via-else-has_room w ↦ full_laid _ c.requires (sym c.has_room.ensures ∙ w.if-has_room.false)
    ]
