-- `state::open_space` meets its contract. Assumes nothing.
use native.Mathlib.Omega.{arith}
use Rattle.layout.specs.States.{decode}
use Rattle.lent.specs.Sections.{is_listed}
use Rattle.state.specs.SpaceChanges.{room, opens}
use borrow.Author.Rules.{rules}
use Rattle.state.proofs.open_space.Goals as goal

pub overflow_cast-number : goal.overflow_cast-number
overflow_cast-number c = omega (arith, (room (decode c.args.state.now) c.requires.1).number, c.next-number.ensures.0)

pub open-requires : goal.open-requires
open-requires c =
    let r = room (decode c.args.state.now) c.requires.1 in
    let n = c.space_count-n.ensures.0 in
    (is_listed c.args.state.now _ c.requires.0 n, omega (arith, r.few, n), omega (arith, r.number, c.next-number.ensures.0))

pub set_space_count-requires : goal.set_space_count-requires
set_space_count-requires c = (omega arith, c.open.ensures.few)

pub overflow_add-number : goal.overflow_add-number
overflow_add-number c = omega (arith, (room (decode c.args.state.now) c.requires.1).number, c.next-number.ensures.0)

pub returns : goal.returns
returns c = (
  c.next-number.ensures.0,
  opens c.args.process c.args.owned c.requires.0 c.requires.1 (search rules) c.space_count-n.ensures.0 c.next-number.ensures.0 c.open.ensures c.set_space_count.ensures c.set_next.ensures,
)
