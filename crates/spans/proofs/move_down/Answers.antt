-- `spans::move_down` meets its contract. Assumes nothing.
use Rattle.std.proofs.Common.{◌≡◌, arith, length, length-set, refl}
use Rattle.words.specs.OverLaws.{over_none, over_down}
use Rattle.spans.proofs.move_down.Goals as goal

pub loop-i-init : goal.loop-i-init
loop-i-init c = (refl, over_none _ _ _)

pub loop-i-preserved : goal.loop-i-preserved
loop-i-preserved c =
    let h = c.loop-i in
    let a = c.args in
    let l : length h.a ≡ length a.a.now = omega arith in
    (simp length-set l, rw h.invariant.1 (over_down a.a.now a.to a.from h.i (omega arith) (omega arith)))
