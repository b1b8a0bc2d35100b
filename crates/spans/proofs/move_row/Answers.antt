-- `spans::move_row` meets its contract. Assumes nothing.
use mathlib.Core.Path.{sym, ◌∙◌}
use Prim.Native.Nat.{◌≤◌}
use native.Mathlib.Omega.{arith}
use lib.ListN.{length, drop, length-drop}
use Rattle.words.specs.OverLaws.{over_own, over_through}
use Rattle.spans.proofs.move_row.Goals as goal

pub returns-then-to-from : goal.returns-then-to-from
returns-then-to-from c =
    let a = c.args in
    sym (rw c.if-to-from.true (over_own a.a.now a.from a.n))

pub returns : goal.returns
returns c =
    let a = c.args in
    let room : a.n ≤ length (drop a.from a.a.now) = simp length-drop (omega (arith, c.requires.1)) in
    c.copy_part-2.ensures ∙ (rw c.copy_part.ensures (over_through a.a.now a.to _ (drop a.from a.a.now) a.n room))
