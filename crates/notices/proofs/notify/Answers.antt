-- `notices::notify` meets its contract. Assumes nothing.
use mathlib.Core.Path.{sym, ◌∙◌}
use Rattle.notices.specs.PairLaws.{told_room, told_full}
use Rattle.notices.proofs.notify.Goals as goal

pub notice-requires : goal.notice-requires
notice-requires c =
    (c.requires.0, sym c.has_room.ensures ∙ c.if-has_room.true, c.requires.1)

pub returns-then-has_room : goal.returns-then-has_room
returns-then-has_room c =
    let a = c.args in
    told_room a.state.now _ a.monitor a.host (sym c.has_room.ensures ∙ c.if-has_room.true) c.notice.ensures

pub owe-requires : goal.owe-requires
owe-requires c = (c.requires.0, c.requires.1)

pub returns-else-has_room : goal.returns-else-has_room
returns-else-has_room c =
    let a = c.args in
    told_full a.state.now _ a.monitor a.host (sym c.has_room.ensures ∙ c.if-has_room.false) c.owe.ensures
