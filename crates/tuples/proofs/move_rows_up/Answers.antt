-- `tuples::move_rows_up` meets its contract. Assumes nothing.
use mathlib.Core.Path.{◌≡◌, sym}
use Prim.Native.Nat.{◌-◌, ◌*◌}
use native.Mathlib.Nat.{add-zero, sub-zero}
use native.Mathlib.Omega.{arith}
use Rattle.basis.specs.Sizes.{tuple_size}
use Rattle.words.specs.OverLaws.{over_none, over_own}
use Rattle.tuples.specs.SectionLaws.{rows_up}
use Rattle.tuples.proofs.move_rows_up.Goals as goal

pub returns-then-to-from : goal.returns-then-to-from
returns-then-to-from c =
    let a = c.args in
    sym (rw c.if-to-from.true (over_own a.tuples.now (a.from * tuple_size) (a.n * tuple_size)))

pub loop-k-init : goal.loop-k-init
loop-k-init c =
    let a = c.args in
    let none : a.n - a.n ≡ 0 = omega arith in
    rw none (over_none _ _ _)

pub loop-k-preserved : goal.loop-k-preserved
loop-k-preserved c =
    let a = c.args in
    rows_up a.tuples.now c.loop-k.tuples _ a.to a.from a.n c.loop-k.k _ c.requires.0 (omega arith) c.loop-k.auto.k c.requires.1 c.loop-k.invariant c.move_row.ensures

pub returns : goal.returns
returns c =
    let h = c.loop-k in
    let none : h.k ≡ 0 = omega arith in
    simp (none, add-zero, sub-zero) at h.invariant
