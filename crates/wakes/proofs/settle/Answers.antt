-- `wakes::settle` meets its contract. Assumes nothing.
use Prim.Native.Nat.{suc, ◌-◌, ◌≤◌}
use native.Mathlib.Omega.{arith}
use mathlib.Core.Path.{◌≡◌, refl, sym, ◌∙◌}
use lib.ListN.{length, length-drop}
use borrow.Rule.Slice.PartMut.{same_len_mid}
use Rattle.layout.specs.States.{decode}
use Rattle.header.specs.StoredLaws.{said}
use Rattle.wakes.specs.Settling.{midway_start, rest_lent, turn_shorter, turn_more, turn_end}
use Rattle.wakes.proofs.settle.Goals as goal
use Rattle.wakes.proofs.settle.Goals.{After-lay_and_wake-n}

-- a turn is taken on the rest of the buffer
module _ (c : After-lay_and_wake-n) where
  own_room : c.args.own ≤ length c.args.out.now
  own_room = omega (arith, c.loop-own.invariant.1, c.loop-own.invariant.2)

  shorter : (c.lay_and_wake-n.result ≡ 0 → ⊥) → suc (length (decode c.lay_and_wake-n.new.state).waiting) ≡ length (decode c.loop-own.state).waiting
  shorter = turn_shorter (decode c.loop-own.state) _ c.lay_and_wake-n.new.state c.lay_and_wake-n.new.out c.lay_and_wake-n.result c.lay_and_wake-n.ensures.0

pub loop-own-init : goal.loop-own-init
loop-own-init c = (c.requires.0, refl, omega (arith, c.requires.1), c.requires.1, midway_start (decode c.args.state.now) c.args.own c.args.out.now)

pub slice_bounds-lay_and_wake-count : goal.slice_bounds-lay_and_wake-count
slice_bounds-lay_and_wake-count c = omega (arith, c.loop-own.invariant.3)

pub lay_and_wake-n-requires : goal.lay_and_wake-n-requires
lay_and_wake-n-requires c = let l = c.loop-own in (l.invariant.0, rw (rest_lent, length-drop) (omega (arith, l.invariant.3, l.invariant.4.number)))

pub shape_of-state-then-n-eq0 : goal.shape_of-state-then-n-eq0
shape_of-state-then-n-eq0 c = c.lay_and_wake-n.ensures.0.stored.long ∙ sym c.requires.0.long

pub returns-then-n-eq0 : goal.returns-then-n-eq0
returns-then-n-eq0 c =
    let s = c.args in
    let l = c.loop-own in
    let r = c.lay_and_wake-n in
    turn_end (decode s.state.now) (decode l.state) s.own l.at s.out.now l.out l.invariant.4 r.new.state r.new.out r.result _ r.ensures.0 c.if-n-eq0.true

pub overflow_add-at : goal.overflow_add-at
overflow_add-at c = omega (arith, c.loop-own.invariant.3, c.lay_and_wake-n.ensures.1)

pub loop-own-smaller : goal.loop-own-smaller
loop-own-smaller c = omega (arith, shorter (goal.at.loop-own-smaller c).After-lay_and_wake-n c.if-n-eq0.false)

pub loop-own-preserved : goal.loop-own-preserved
loop-own-preserved c =
    let s = c.args in
    let l = c.loop-own in
    let r = c.lay_and_wake-n in
    let same = same_len_mid l.at (length l.out - l.at) l.out r.new.out r.auto.out in (
      said _ _ r.ensures.0.stored,
      same ∙ l.invariant.1,
      omega (arith, same, l.invariant.2),
      omega (arith, same, shorter (goal.at.loop-own-preserved c).After-lay_and_wake-n c.if-n-eq0.false, l.invariant.3, r.ensures.1),
      turn_more (decode s.state.now) (decode l.state) s.own l.at s.out.now l.out l.invariant.4 r.new.state r.new.out r.result (own_room (goal.at.loop-own-preserved c).After-lay_and_wake-n) r.ensures.0 c.if-n-eq0.false,
    )
