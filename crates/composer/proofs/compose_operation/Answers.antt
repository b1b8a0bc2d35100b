-- `composer::compose_operation` meets its contract. Assumes nothing.
use mathlib.Core.Path.{sym}
use native.Mathlib.Omega.{arith}
use lib.ListN.{length-set}
use lib.Seq.{length-take-le}
use Rattle.composer.specs.Grown.{raised}
use Rattle.basis.specs.NumberLaws.{bytes_of_lem}
use Rattle.composer.specs.Composed.{held_bytes, copied_at, composed_operation}
use Rattle.writer.specs.HeldLaws.{body_held}
use Rattle.composer.proofs.compose_operation.Goals as goal

pub copy_part-requires : goal.copy_part-requires
copy_part-requires c =
    let h = held_bytes c.args.buffer.now c.args.fill c.requires.1 in
    (omega (arith, h.most, c.requires.0), omega (arith, h.within))

pub slice_bounds-last_count-end : goal.slice_bounds-last_count-end
slice_bounds-last_count-end c =
    sym (length-take-le c.args.fill c.args.buffer.now (held_bytes c.args.buffer.now c.args.fill c.requires.1).within)

pub last_count-at-requires : goal.last_count-at-requires
last_count-at-requires c =
    body_held c.args.buffer.now c.args.fill c.requires.1

pub bounds-t-at : goal.bounds-t-at
bounds-t-at c =
    let h = held_bytes c.args.buffer.now c.args.fill c.requires.1 in
    omega (arith, c.last_count-at.ensures.within, length-take-le c.args.fill c.args.buffer.now h.within, c.copy_part.auto.d, c.requires.0, h.most)

pub overflow_add-t : goal.overflow_add-t
overflow_add-t c =
    let b = c.args.buffer.now in
    let h = held_bytes b c.args.fill c.requires.1 in
    let l = c.last_count-at.ensures in
    omega (arith, copied_at c.args.t.now c.copy_part.new.d b c.args.fill c.last_count-at.result h.within c.copy_part.ensures (omega (arith, l.within, length-take-le c.args.fill b h.within)), l.few)

pub bounds-t-at-2 : goal.bounds-t-at-2
bounds-t-at-2 c =
    let h = held_bytes c.args.buffer.now c.args.fill c.requires.1 in
    omega (arith, c.last_count-at.ensures.within, length-take-le c.args.fill c.args.buffer.now h.within, c.copy_part.auto.d, c.requires.0, h.most)

pub put_operation-requires : goal.put_operation-requires
put_operation-requires c =
    let h = held_bytes c.args.buffer.now c.args.fill c.requires.1 in
    (c.requires.2, simp length-set (omega (arith, c.copy_part.auto.d, c.requires.0, h.most)))

pub shape_of-t : goal.shape_of-t
shape_of-t c =
    omega (arith, simp length-set at c.put_operation.auto.t, c.copy_part.auto.d)

pub returns : goal.returns
unfolding raised
returns c =
    let a = c.args in
    composed_operation a.t.now c.copy_part.new.d a.buffer.now a.fill a.op c.requires.0 c.copy_part.ensures (bytes_of_lem a.buffer.now (λ i. (c.type_inv.buffer i).fits)) c.requires.1
    c.last_count-at.result c.put_operation.new.t c.put_operation.result c.last_count-at.ensures c.put_operation.ensures
