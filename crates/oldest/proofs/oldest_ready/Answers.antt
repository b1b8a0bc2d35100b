-- `oldest::oldest_ready` meets its contract. Assumes nothing.
use Prim.Native.Nat.{◌<◌}
use native.Mathlib.Omega.{arith}
use mathlib.Core.Path.{subst}
use lib.ListN.{length}
use Rattle.sections.specs.Shapes.{items_length}
use Rattle.queue.specs.Queue.{waiting_shape, waiting_of}
use Rattle.oldest.specs.Searching.{ChoosesAt, searching_start, search_hit, search_miss, search_end}
use Rattle.oldest.proofs.oldest_ready.Goals as goal
use Rattle.oldest.proofs.oldest_ready.Goals.{In-loop-i}

-- a turn: the waiting statement at index i
below : (c : In-loop-i) → c.loop-i.i < length (waiting_of c.args.waiting.now c.args.n)
below c = omega (arith, c.loop-i-test.true, items_length waiting_shape c.args.waiting.now c.args.n)

pub loop-i-init : goal.loop-i-init
loop-i-init c = searching_start _ _ _

pub waiting_choice-requires : goal.waiting_choice-requires
waiting_choice-requires c = let p = c.requires in (p.0, c.loop-i-test.true, p.1, p.2)

pub returns-in-Some : goal.returns-in-Some
returns-in-Some c = search_hit _ _ _ _ c.loop-i.invariant (below (goal.at.returns-in-Some c).In-loop-i) c.in-Some.choice (subst (ChoosesAt _ _ _ _) c.in-Some.is c.waiting_choice.ensures)

pub loop-i-preserved : goal.loop-i-preserved
loop-i-preserved c = search_miss _ _ _ _ c.loop-i.invariant (below (goal.at.loop-i-preserved c).In-loop-i) (subst (ChoosesAt _ _ _ _) c.in_default.is c.waiting_choice.ensures)

pub returns : goal.returns
returns c = search_end _ _ _ _ c.loop-i.invariant (omega (arith, c.loop-i-test.false, items_length waiting_shape c.args.waiting.now c.args.n))
