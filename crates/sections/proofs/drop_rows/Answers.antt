-- `sections::drop_rows` meets its contract. Assumes nothing.
use native.Mathlib.Omega.{arith}
use mathlib.Core.Path.{◌∙◌}
use Rattle.sections.specs.Loops.{sift_start, sift_is, sift_not, sift_room, sift_left, sift_out, sift_in, sift_end}
use Rattle.sections.proofs.drop_rows.Goals as goal
use Rattle.sections.proofs.drop_rows.Goals.{then-field-value, else-field-value}

pub loop-next-init : goal.loop-next-init
loop-next-init c = sift_start _ _ _ _

pub field-requires : goal.field-requires
field-requires c =
    ((sift_left _ _ _ _ c.requires.0 _ _ _ c.loop-next.invariant).1, c.loop-next-test.true, c.requires.1, c.requires.2)

pub overflow_mul-m : goal.overflow_mul-m
overflow_mul-m c = omega (arith, sift_room _ _ _ _ c.requires.0 _ _ _ c.loop-next.invariant c.loop-next-test.true)

pub overflow_mul-next : goal.overflow_mul-next
overflow_mul-next c = omega (arith, sift_room _ _ _ _ c.requires.0 _ _ _ c.loop-next.invariant c.loop-next-test.true)

pub move_row-requires : goal.move_row-requires
move_row-requires c = let r = sift_room _ _ _ _ c.requires.0 _ _ _ c.loop-next.invariant c.loop-next-test.true in (omega (arith, r), r.1, c.requires.3)

pub overflow_add-m : goal.overflow_add-m
overflow_add-m c = let h = c.loop-next.invariant in omega (arith, h.few, h.below)

pub loop-next-preserved : goal.loop-next-preserved
loop-next-preserved c =
    let h = c.loop-next.invariant in
    let below = c.loop-next-test.true in
    elim c.if-field-value.branch [
      | then-field-value w ↦
          rw (w.rows-is, w.m-is)
          (sift_in _ _ _ _ c.requires.0 _ _ _ h _ below (sift_not _ _ _ _ c.requires.0 _ _ _ h _ _ _ _ below c.requires.1 c.field.ensures w.if-field-value.true) w.move_row.ensures)
      | else-field-value w ↦
          rw (w.rows-is, w.m-is)
          (sift_out _ _ _ _ c.requires.0 _ _ _ h below (sift_is _ _ _ _ c.requires.0 _ _ _ h _ _ _ _ below c.requires.1 c.field.ensures w.if-field-value.false))
    ]

pub overflow_mul-m-2 : goal.overflow_mul-m-2
overflow_mul-m-2 c = omega (arith, sift_left _ _ _ _ c.requires.0 _ _ _ c.loop-next.invariant)

pub overflow_sub-n : goal.overflow_sub-n
overflow_sub-n c = let h = c.loop-next.invariant in omega (arith, h.few, h.below)

pub overflow_mul-n : goal.overflow_mul-n
overflow_mul-n c = omega (arith, sift_left _ _ _ _ c.requires.0 _ _ _ c.loop-next.invariant)

pub clear-requires : goal.clear-requires
clear-requires c = omega (arith, sift_left _ _ _ _ c.requires.0 _ _ _ c.loop-next.invariant)

pub shape_of-rows : goal.shape_of-rows
shape_of-rows c = c.clear.auto.a ∙ c.loop-next.invariant.long

pub returns : goal.returns
returns c =
    sift_end _ _ _ _ c.requires.0 _ _ _ c.loop-next.invariant _ c.loop-next-test.false c.clear.ensures
