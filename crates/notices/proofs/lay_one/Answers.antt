-- `notices::lay_one` meets its contract. Assumes nothing.
use mathlib.Core.Path.{sym, ◌∙◌}
use Rattle.header.specs.StoredLaws.{said}
use Rattle.notices.specs.PairLaws.{not_owed, no_room, struck_room, struck_pair, is_laid}
use Rattle.notices.proofs.lay_one.Goals as goal
use Rattle.notices.proofs.lay_one.Goals.{else-is_owed-via-then-is_owed+else-has_room, else-is_owed-via-else-is_owed}

pub strike-requires : goal.strike-requires
strike-requires c = (c.requires.0, c.requires.1, sym c.is_owed.ensures ∙ c.if-is_owed.true)

pub notice-requires : goal.notice-requires
notice-requires c =
    let a = c.args in
    (said _ _ c.strike.ensures, struck_room a.state.now _ a.monitor a.host c.strike.ensures (sym c.has_room.ensures ∙ c.if-has_room.true), struck_pair a.state.now _ a.monitor a.host c.strike.ensures c.requires.1)

pub returns-then-has_room : goal.returns-then-has_room
returns-then-has_room c =
    let a = c.args in
    is_laid a.state.now _ _ a.monitor a.host (sym c.is_owed.ensures ∙ c.if-is_owed.true) (sym c.has_room.ensures ∙ c.if-has_room.true) c.strike.ensures c.notice.ensures

pub returns-else-is_owed : goal.returns-else-is_owed
returns-else-is_owed c =
    let a = c.args in
    elim c.else-is_owed.branch [
      | else-is_owed-via-then-is_owed+else-has_room w ↦ no_room a.state.now a.monitor a.host c.requires.0 (sym c.is_owed.ensures ∙ w.if-is_owed.true) (sym w.has_room.ensures ∙ w.if-has_room.false)
      | else-is_owed-via-else-is_owed w ↦ not_owed a.state.now a.monitor a.host c.requires.0 (sym c.is_owed.ensures ∙ w.if-is_owed.false)
    ]
