-- `engine::run_operations` meets its contract. Assumes nothing.
use mathlib.Core.Path.{◌≡◌, refl, ◌∙◌}
use Prim.Native.Nat.{suc, ◌+◌, ◌-◌}
use native.Mathlib.Omega.{arith}
use Rattle.walk.specs.Walk.{next_there}
use Rattle.engine.specs.Ahead.{running_start, running_stands, running_can, running_fails, running_turn, running_end}
use Rattle.engine.proofs.run_operations.Goals as goal
use Rattle.engine.proofs.run_operations.Goals.{In-loop}

one_more : (c : In-loop) → c.args.count - c.loop.counter ≡ suc (c.args.count - (c.loop.counter + 1))
one_more c = omega (arith, c.loop-test.true)

pub loop-init : goal.loop-init
loop-init c = let a = c.args in (refl, c.requires.0, running_start a.body.now a.tuples.now a.d.now.n a.d.now.vars a.at a.count c.requires.1 c.requires.2)

pub standing_operation-end-requires : goal.standing_operation-end-requires
standing_operation-end-requires c = let l = c.loop in next_there c.args.body.now l.next _ (running_stands _ _ l.tuples l.d.n l.d.vars l.next _ l.invariant.2 _ (one_more c))

pub perform-requires : goal.perform-requires
perform-requires c =
    let l = c.loop in (
      l.invariant.2.section,
      c.standing_operation-end.ensures.parts.count,
      running_can _ _ l.tuples l.d.n l.d.vars l.next _ l.invariant.2 _ (one_more (goal.at.perform-requires c).In-loop) c.standing_operation-end.result c.standing_operation-end.ensures,
    )

pub shape_of-tuples-then-d-ne0 : goal.shape_of-tuples-then-d-ne0
shape_of-tuples-then-d-ne0 c = c.perform.auto.tuples ∙ c.loop.invariant.0

pub returns-then-d-ne0 : goal.returns-then-d-ne0
returns-then-d-ne0 c =
    let l = c.loop in
    running_fails _ _ l.tuples l.d.n l.d.vars l.next _ l.invariant.2 _ (one_more (goal.at.returns-then-d-ne0 c).In-loop) c.standing_operation-end.result c.standing_operation-end.ensures
    c.perform.result.outcome c.perform.result.n c.perform.result.vars _ c.perform.ensures c.if-d-ne0.true

pub loop-preserved : goal.loop-preserved
loop-preserved c =
    let l = c.loop in (
      c.perform.auto.tuples ∙ l.invariant.0,
      c.if-d-ne0.false,
      running_turn _ _ l.tuples l.d.n l.d.vars l.next _ l.invariant.2 _ (one_more (goal.at.loop-preserved c).In-loop) c.standing_operation-end.result c.standing_operation-end.ensures
          c.perform.result.outcome c.perform.result.n c.perform.result.vars _ c.perform.ensures c.if-d-ne0.false,
    )

pub returns-after-loop : goal.returns-after-loop
returns-after-loop c =
    let l = c.loop in
    rw l.invariant.1
    (running_end _ _ l.tuples l.d.n l.d.vars l.next _ l.invariant.2 (omega (arith, c.loop-test.false)))
