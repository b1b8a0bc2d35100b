-- `spaces::place` meets its contract. Assumes nothing.
use mathlib.Core.Path.{refl, sym, ap, ◌∙◌}
use borrow.Author.Tests.{le-ltb}
use Rattle.basis.specs.Choice.{given}
use Prim.Native.Nat.{◌≤◌}
use native.Mathlib.Omega.{arith}
use Rattle.spaces.specs.SearchLaws.{among_all, reach_yes, reach_no, among_high, among_low, none_left, one_left}
use Rattle.spaces.proofs.place.Goals as goal
use Rattle.spaces.proofs.place.Goals.{then-low-n, else-low-n}

-- one space
pub number_at-requires : goal.number_at-requires
number_at-requires c = (c.requires.0, omega (arith, c.if-n-eq1.true))

pub returns-then-n-eq1 : goal.returns-then-n-eq1
returns-then-n-eq1 c =
    one_left _ _ _ c.requires.2 0 1 _ _ (among_all _ _ _ 1 (omega (arith, c.if-n-eq1.true)) (omega arith)) (omega arith) (omega (arith, c.if-n-eq1.true)) c.number_at.ensures c.then_some.ensures

-- halving
pub loop-left-init : goal.loop-left-init
loop-left-init c = among_all _ _ _ _ c.requires.1 (omega arith)

pub overflow_add-low : goal.overflow_add-low
overflow_add-low c = omega (arith, c.loop-left.invariant.room)

pub reaches-requires : goal.reaches-requires
reaches-requires c = c.requires.0

pub overflow_add-low-then-reaches : goal.overflow_add-low-then-reaches
overflow_add-low-then-reaches c = omega (arith, c.loop-left.invariant.room)

pub loop-left-smaller-then-reaches : goal.loop-left-smaller-then-reaches
loop-left-smaller-then-reaches c = omega (arith, c.loop-left-test.true)

pub loop-left-preserved-then-reaches : goal.loop-left-preserved-then-reaches
loop-left-preserved-then-reaches c =
    among_high _ _ _ c.requires.2 _ _ _ c.loop-left.invariant c.loop-left-test.true refl (reach_yes _ _ _ _ (sym c.reaches.ensures ∙ c.if-reaches.true))

pub loop-left-smaller : goal.loop-left-smaller
loop-left-smaller c = omega (arith, c.loop-left-test.true)

pub loop-left-preserved : goal.loop-left-preserved
loop-left-preserved c =
    among_low _ _ _ c.requires.2 _ _ _ c.loop-left.invariant c.loop-left-test.true refl (reach_no _ _ _ _ (sym c.reaches.ensures ∙ c.if-reaches.false))

pub returns : goal.returns
returns c =
    let few : c.loop-left.left ≤ 1 = omega (arith, c.loop-left-test.false) in
    elim c.if-low-n.branch [
      | then-low-n w ↦ one_left _ _ _ c.requires.2 _ _ _ _ c.loop-left.invariant few w.if-low-n.true w.number_at-then-low-n.ensures (rw w.then_some-is at c.then_some-2.ensures)
      | else-low-n w ↦ let h = w.then_some-is in let g = w.if-low-n.false in ap given c.then_some-2.ensures ∙ (rw (h, le-ltb _ _ g) (none_left _ _ _ c.requires.2 _ _ c.loop-left.invariant g))
    ]
