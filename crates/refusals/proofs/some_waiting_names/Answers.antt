-- `refusals::some_waiting_names` meets its contract. Assumes nothing.
use Prim.Native.Nat.{◌<◌}
use native.Mathlib.Omega.{arith}
use mathlib.Core.Path.{refl, sym, ◌∙◌}
use lib.ListN.{length}
use Rattle.basis.specs.RestLaws.{passed_none, any_yes, any_more, any_end}
use Rattle.sections.specs.Shapes.{items_length}
use Rattle.queue.specs.Queue.{waiting_shape, waiting_of}
use Rattle.queue.specs.PlaceLaws.{no_waiting}
use Rattle.refusals.proofs.some_waiting_names.Goals as goal
use Rattle.refusals.proofs.some_waiting_names.Goals.{In-loop-i}

-- a turn: the waiting statement at index i
module _ (c : In-loop-i) where
  below : c.loop-i.i < length (waiting_of c.args.waiting.now c.args.n)
  below = omega (arith, c.loop-i-test.true, items_length waiting_shape c.args.waiting.now c.args.n)

pub loop-i-init : goal.loop-i-init
loop-i-init c = passed_none refl

pub waiting_names-requires : goal.waiting_names-requires
waiting_names-requires c = let p = c.requires in (p.0, c.loop-i-test.true, p.1, p.2)

pub returns-then-waiting_names : goal.returns-then-waiting_names
returns-then-waiting_names c =
    any_yes _ c.loop-i.invariant no_waiting (below (goal.at.returns-then-waiting_names c).In-loop-i) (sym c.waiting_names.ensures ∙ c.if-waiting_names.true)

pub loop-i-preserved : goal.loop-i-preserved
loop-i-preserved c =
    any_more _ c.loop-i.invariant no_waiting (below (goal.at.loop-i-preserved c).In-loop-i) (sym c.waiting_names.ensures ∙ c.if-waiting_names.false)

pub returns : goal.returns
returns c =
    any_end _ c.loop-i.invariant (omega (arith, c.loop-i-test.false, items_length waiting_shape c.args.waiting.now c.args.n))
