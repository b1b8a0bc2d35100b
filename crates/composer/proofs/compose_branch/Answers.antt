-- `composer::compose_branch` meets its contract. Assumes nothing.
use native.Mathlib.Omega.{arith}
use lib.ListN.{length-set}
use Rattle.basis.specs.Sizes.{branch_count_at}
use Rattle.composer.specs.Grown.{raised}
use Rattle.basis.specs.NumberLaws.{bytes_of_lem}
use Rattle.composer.specs.Composed.{held_bytes, copied_at, composed_branch}
use Rattle.composer.proofs.compose_branch.Goals as goal

pub copy_part-requires : goal.copy_part-requires
copy_part-requires c =
    let h = held_bytes c.args.buffer.now c.args.fill c.requires.1 in
    (omega (arith, h.most, c.requires.0), omega (arith, h.within))

pub overflow_add-t : goal.overflow_add-t
overflow_add-t c =
    let b = c.args.buffer.now in
    let h = held_bytes b c.args.fill c.requires.1 in
    omega (arith, copied_at c.args.t.now c.copy_part.new.d b c.args.fill branch_count_at h.within c.copy_part.ensures (omega (arith, h.long)), h.few)

pub put_operation-end-requires : goal.put_operation-end-requires
put_operation-end-requires c =
    let h = held_bytes c.args.buffer.now c.args.fill c.requires.1 in
    (c.requires.2, simp length-set (omega (arith, c.copy_part.auto.d, c.requires.0, h.most)))

pub bounds-t-end : goal.bounds-t-end
bounds-t-end c =
    let h = held_bytes c.args.buffer.now c.args.fill c.requires.1 in
    omega (arith, c.put_operation-end.ensures.most, simp length-set at c.put_operation-end.auto.t, c.copy_part.auto.d, c.requires.0, h.most)

pub overflow_add-result : goal.overflow_add-result
overflow_add-result c =
    omega (arith, c.put_operation-end.ensures.most, (held_bytes c.args.buffer.now c.args.fill c.requires.1).most)

pub shape_of-t : goal.shape_of-t
shape_of-t c =
    simp length-set (omega (arith, simp length-set at c.put_operation-end.auto.t, c.copy_part.auto.d))

pub returns : goal.returns
unfolding raised
returns c =
    let a = c.args in
    composed_branch a.t.now c.copy_part.new.d a.buffer.now a.fill a.guard c.requires.0 c.copy_part.ensures (bytes_of_lem a.buffer.now (λ i. (c.type_inv.buffer i).fits)) c.requires.1
    c.put_operation-end.new.t c.put_operation-end.result c.put_operation-end.ensures
