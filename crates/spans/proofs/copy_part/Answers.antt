-- `spans::copy_part` meets its contract. Assumes nothing.
use Rattle.std.proofs.Common.{◌≡◌, ◌∙◌, ap, ℕ, ◌-◌, ◌+◌, ◌≤◌, arith, length, drop, take, length-drop}
use Rattle.words.specs.OverLaws.{over_slice}
use Rattle.spans.proofs.copy_part.Goals as goal

pub returns : goal.returns
returns c =
    let a = c.args in
    let e : a.from + a.n - a.from ≡ a.n = omega arith in
    let room : a.n ≤ length (drop a.from a.s.now) = simp length-drop (omega arith) in
    over_slice a.d.now a.at _ _ (drop a.from a.s.now) a.n (omega arith) room (c.copy_from_slice.ensures.after ∙ ap (λ (k : ℕ). take k (drop a.from a.s.now)) e)
