-- `spans::clear` meets its contract. Assumes nothing.
use Rattle.std.proofs.Common.{◌≡◌, ◌∙◌, ◌+◌, ◌-◌, ◌≤◌, arith, length, take, drop, length-drop, length-take-le, take_all, sym, ap}
use Rattle.basis.specs.Lists.{zeros}
use Rattle.basis.specs.PadLaws.{zeros_length}
use Rattle.words.specs.OverLaws.{over_slice}
use Rattle.spans.proofs.clear.Goals as goal

pub returns : goal.returns
unfolding zeros
returns c =
    let a = c.args in
    let few : length (zeros a.n) ≤ a.n = omega (arith, zeros_length a.n) in
    let fits : a.at + a.n - a.at ≤ length (drop a.at a.a.now) = simp length-drop (omega arith) in
    let long : length (take (a.at + a.n - a.at) (drop a.at a.a.now)) ≡ a.n = length-take-le _ _ fits ∙ omega arith in
    over_slice a.a.now a.at _ _ (zeros a.n) a.n (omega arith) (omega (arith, zeros_length a.n)) (c.fill.ensures.after (λ y e. e) ∙ (ap zeros long ∙ sym (take_all a.n (zeros a.n) few)))
