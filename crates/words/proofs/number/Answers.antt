-- `words::number` meets its contract. Assumes nothing.
use Rattle.std.proofs.Common.{◌≡◌, ◌∙◌, ◌+◌, ◌<◌, arith, get_or}
use Rattle.basis.specs.Sizes.{most_width}
use Rattle.words.specs.Widths.{reading_start, reading_room, reading_more}
use Rattle.words.proofs.Bytes.{part_inside, part_byte}
use Rattle.words.proofs.number.Goals as goal

pub loop-byte-init : goal.loop-byte-init
loop-byte-init c = reading_start _ _

pub overflow_mul-n : goal.overflow_mul-n
overflow_mul-n c =
    let h = c.loop-byte in
    let i : h.byte-index < most_width = omega (arith, part_inside c.args.s.now c.args.at c.args.w c.loop-byte.byte-index c.loop-byte-test.true) in
    omega (arith, reading_room _ _ _ _ h.invariant i)

pub overflow_add-n : goal.overflow_add-n
overflow_add-n c =
    let h = c.loop-byte in
    let a = c.args in
    let i : h.byte-index < most_width = omega (arith, part_inside a.s.now a.at a.w h.byte-index c.loop-byte-test.true) in
    let byte : c.from.result ≡ get_or a.s.now (a.at + h.byte-index) 0 = c.from.ensures ∙ part_byte _ _ _ _ c.loop-byte-test.true in
    omega (arith, reading_room _ _ _ _ h.invariant i, byte, (c.type_inv.s (a.at + h.byte-index)).fits)

pub loop-byte-preserved : goal.loop-byte-preserved
loop-byte-preserved c =
    let h = c.loop-byte in
    let a = c.args in
    let inside : h.byte-index < a.w = part_inside c.args.s.now c.args.at c.args.w c.loop-byte.byte-index c.loop-byte-test.true in
    let byte : c.from.result ≡ get_or a.s.now (a.at + h.byte-index) 0 = c.from.ensures ∙ part_byte _ _ _ _ c.loop-byte-test.true in
    rw byte (reading_more _ _ _ _ h.invariant (omega arith) (c.type_inv.s (a.at + h.byte-index)).fits)
