-- `spans::is_zero` meets its contract. Assumes nothing.
use Rattle.std.proofs.Common.{Bool, ◌&&◌, sym, ap, ◌∙◌, refl, eqb, slice_index_or}
use Rattle.basis.specs.Lists.{all}
use Rattle.spans.proofs.Zeros.{zero_more}
use Rattle.spans.proofs.is_zero.Goals as goal

pub loop-byte-init : goal.loop-byte-init
unfolding all
loop-byte-init c = refl

pub loop-byte-preserved : goal.loop-byte-preserved
loop-byte-preserved c =
    let l = c.args.piece.now in
    let i = c.loop-byte.byte-index in
    ap (λ (b : Bool). b && eqb (slice_index_or l i 0) 0) c.loop-byte.invariant ∙ sym (zero_more l i c.loop-byte-test.true)
