-- `moves::copy_all` meets its contract. Assumes nothing.
use mathlib.Core.Path.{refl, sym, ◌∙◌}
use Prim.Native.Nat.{◌+◌}
use native.Mathlib.Omega.{arith}
use Rattle.basis.specs.Sizes.{tuple_size}
use Rattle.sections.specs.Rows.{HasRows}
use Rattle.sections.specs.Shapes.{holds_length}
use Rattle.tuples.specs.Section.{tuple_shape}
use Rattle.moves.specs.CopyLaws.{copying_start, copying_few, copying_yes, copying_no, copying_full, copying_end}
use Rattle.moves.proofs.copy_all.Goals as goal
use Rattle.moves.proofs.copy_all.Goals.{In-loop-i, then-selected+else-m-ge-MOST_TUPLES, else-selected}

module _ (c : In-loop-i) where
  -- the row at index i is in use
  row : HasRows tuple_size c.loop-i.tuples (c.loop-i.i + 1)
  row = omega (arith, c.requires.0.few, holds_length tuple_shape _ _ _ c.requires.0, c.loop-i.invariant.0, c.loop-i-test.true)

pub loop-i-init : goal.loop-i-init
loop-i-init c = (refl, copying_start _ _ c.requires.0)

pub selected-requires : goal.selected-requires
selected-requires c = (row c, c.requires.1)

pub clear_rows-requires : goal.clear_rows-requires
clear_rows-requires c =
    (omega (arith, copying_few c.args.template c.args.to c.requires.0 c.loop-i.i c.loop-i.invariant.1), omega (arith, c.loop-i.invariant.1.few, holds_length tuple_shape _ _ _ c.loop-i.invariant.1))

pub shape_of-tuples-then-m-ge-MOST_TUPLES : goal.shape_of-tuples-then-m-ge-MOST_TUPLES
shape_of-tuples-then-m-ge-MOST_TUPLES c = c.clear_rows.auto.tuples ∙ c.loop-i.invariant.0

pub returns-then-m-ge-MOST_TUPLES : goal.returns-then-m-ge-MOST_TUPLES
returns-then-m-ge-MOST_TUPLES c =
    copying_full _ _ c.requires.0 _ c.loop-i.invariant.1 c.loop-i-test.true (sym c.selected.ensures ∙ c.if-selected.true) _
    c.if-m-ge-MOST_TUPLES.true c.clear_rows.ensures

pub relocate-requires : goal.relocate-requires
relocate-requires c =
    (omega (arith, c.if-m-ge-MOST_TUPLES.false, holds_length tuple_shape _ _ _ c.loop-i.invariant.1), row (goal.at.relocate-requires c).In-loop-i)

pub loop-i-preserved : goal.loop-i-preserved
loop-i-preserved c = (
  c.if-selected.auto.tuples ∙ c.loop-i.invariant.0,
  elim c.if-selected.branch [
    | then-selected+else-m-ge-MOST_TUPLES w ↦
        rw (w.tuples-is, w.m-is)
        (copying_yes _ _ c.requires.0 _ c.loop-i.invariant.1 c.loop-i-test.true (sym c.selected.ensures ∙ w.if-selected.true) _
        c.requires.2 (omega (arith, w.if-m-ge-MOST_TUPLES.false)) w.relocate.ensures)
    | else-selected w ↦
        rw (w.tuples-is, w.m-is) (copying_no _ _ c.requires.0 _ c.loop-i.invariant.1 c.loop-i-test.true (sym c.selected.ensures ∙ w.if-selected.false))
  ],
)

pub shape_of-tuples : goal.shape_of-tuples
shape_of-tuples c = c.loop-i.invariant.0

pub returns : goal.returns
returns c =
    copying_end _ _ c.requires.0 _ c.loop-i.invariant.1 c.loop-i-test.false
