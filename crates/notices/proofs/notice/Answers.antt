-- `notices::notice` meets its contract. Assumes nothing.
use native.Mathlib.Omega.{arith}
use Rattle.state.specs.Lent.{is_section}
use Rattle.notices.specs.NoticeLaws.{failure_entry, room_left, lays}
use Rattle.notices.proofs.notice.Goals as goal

pub overflow_cast-monitor : goal.overflow_cast-monitor
overflow_cast-monitor c = omega (arith, c.requires.2.given, c.requires.0.fit.monitors)

pub append-requires : goal.append-requires
append-requires c = (
  is_section _ _ c.requires.0 c.tuple_count-n.ensures.0,
  room_left _ _ c.tuple_count-n.ensures.0 c.requires.1,
  failure_entry c.args.host c.args.monitor _ (omega (arith, c.requires.2.low)) (omega (arith, c.requires.2.given, c.requires.0.fit.monitors)) c.failure_tuple-tuple.ensures,
)

pub overflow_add-n : goal.overflow_add-n
overflow_add-n c = omega (arith, room_left _ _ c.tuple_count-n.ensures.0 c.requires.1)

pub set_tuple_count-requires : goal.set_tuple_count-requires
set_tuple_count-requires c = (omega arith, omega (arith, room_left _ _ c.tuple_count-n.ensures.0 c.requires.1))

pub returns : goal.returns
returns c =
    lays c.requires.0 c.tuple_count-n.ensures.0 c.requires.1 c.args.monitor c.args.host c.requires.2 c.failure_tuple-tuple.ensures c.append.ensures c.set_tuple_count.ensures
