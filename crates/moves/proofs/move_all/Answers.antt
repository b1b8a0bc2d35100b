-- `moves::move_all` meets its contract. Assumes nothing.
use mathlib.Core.Path.{refl, sym, ◌∙◌}
use Prim.Native.Nat.{◌+◌}
use native.Mathlib.Omega.{arith}
use Rattle.basis.specs.Sizes.{tuple_size}
use Rattle.sections.specs.Rows.{HasRows}
use Rattle.sections.specs.Shapes.{holds_length}
use Rattle.tuples.specs.Section.{tuple_shape}
use Rattle.moves.specs.MoveLaws.{moving_start, moving_yes, moving_no, moving_end}
use Rattle.moves.proofs.move_all.Goals as goal
use Rattle.moves.proofs.move_all.Goals.{In-loop-i, then-selected, else-selected}

module _ (c : In-loop-i) where
  -- the row at index i is in use
  row : HasRows tuple_size c.loop-i.tuples (c.loop-i.i + 1)
  row = omega (arith, c.requires.0.few, holds_length tuple_shape _ _ _ c.requires.0, c.loop-i.invariant.1, c.loop-i-test.true)

pub loop-i-init : goal.loop-i-init
loop-i-init c = let a = c.args in (omega arith, refl, refl, moving_start a.template a.to a.tuples.now _ a.n)

pub selected-requires : goal.selected-requires
selected-requires c = (row c, c.requires.1)

pub overflow_add-m : goal.overflow_add-m
overflow_add-m c = omega (arith, c.loop-i.invariant.3.room)

pub relocate-requires : goal.relocate-requires
relocate-requires c = (omega (arith, row (goal.at.relocate-requires c).In-loop-i, c.loop-i.invariant.3.room), row (goal.at.relocate-requires c).In-loop-i)

pub overflow_add-k : goal.overflow_add-k
overflow_add-k c = omega (arith, c.loop-i.invariant.3.room, c.loop-i-test.true)

pub slice_bounds-keep_other-end : goal.slice_bounds-keep_other-end
slice_bounds-keep_other-end c = sym c.loop-i.invariant.2

pub keep_other-m-requires : goal.keep_other-m-requires
keep_other-m-requires c =
    let h = c.loop-i in
    (row (goal.at.keep_other-m-requires c).In-loop-i, h.invariant.2, h.invariant.3.room, h.invariant.0)

pub loop-i-preserved : goal.loop-i-preserved
loop-i-preserved c =
    elim c.if-selected.branch [
      | then-selected w ↦
          rw (w.tuples-is, w.held-is, w.m-is, w.k-is) (
            omega arith,
            w.relocate.auto.tuples ∙ c.loop-i.invariant.1,
            c.loop-i.invariant.2,
            moving_yes _ _ c.requires.0 c.loop-i.invariant.3 _ c.loop-i-test.true (row (goal.at.loop-i-preserved c).In-loop-i)
                (sym c.selected.ensures ∙ w.if-selected.true) w.relocate.ensures,
          )
      | else-selected w ↦
          rw (w.tuples-is, w.held-is, w.m-is, w.k-is) (
            w.keep_other-m.ensures.0,
            w.keep_other-m.auto.tuples ∙ c.loop-i.invariant.1,
            w.keep_other-m.auto.held ∙ c.loop-i.invariant.2,
            moving_no _ _ c.requires.0 c.loop-i.invariant.3 _ _ _ c.loop-i-test.true (sym c.selected.ensures ∙ w.if-selected.false) w.keep_other-m.ensures.1,
          )
    ]

pub slice_bounds-put_in-end : goal.slice_bounds-put_in-end
slice_bounds-put_in-end c = sym c.loop-i.invariant.2

pub overflow_add-m-2 : goal.overflow_add-m-2
overflow_add-m-2 c = omega (arith, c.loop-i.invariant.3.room)

pub overflow_sub-n : goal.overflow_sub-n
overflow_sub-n c = omega (arith, c.loop-i.invariant.3.room, c.loop-i.auto.i-end)

pub put_in-requires : goal.put_in-requires
put_in-requires c =
    let h = c.loop-i in
    (omega (arith, c.requires.0.few, holds_length tuple_shape _ _ _ c.requires.0, h.auto.i-end, h.invariant.1, h.invariant.3.room), omega (arith, h.invariant.0, h.invariant.2, c.loop-i-test.false))

pub returns : goal.returns
returns c =
    moving_end _ _ c.requires.0 c.loop-i.invariant.3 _ c.requires.2 c.loop-i-test.false c.loop-i.auto.i-end c.loop-i.invariant.1 c.put_in.ensures
