-- `names::pass_operations` meets its contract. Assumes nothing.
use mathlib.Core.Path.{◌≡◌}
use Prim.Native.Nat.{suc, ◌+◌, ◌-◌}
use native.Mathlib.Omega.{arith}
use Rattle.walk.specs.Walk.{next_there}
use Rattle.names.specs.Named.{passing_start, passing_ahead, passing_hit, passing_turn, passing_end}
use Rattle.names.proofs.pass_operations.Goals as goal
use Rattle.names.proofs.pass_operations.Goals.{In-loop}

one_more : (c : In-loop) → c.args.count - c.loop.counter ≡ suc (c.args.count - (c.loop.counter + 1))
one_more c = omega (arith, c.loop-test.true)

pub loop-init : goal.loop-init
loop-init c = passing_start _ c.args.body.now c.args.at c.args.count c.requires.0 c.requires.1

pub standing_bare-next-requires : goal.standing_bare-next-requires
standing_bare-next-requires c = next_there _ c.loop.end _ (passing_ahead _ _ _ _ c.loop.end _ c.loop.invariant _ (one_more c))

pub operation_names-requires : goal.operation_names-requires
operation_names-requires c = (c.requires.2, c.requires.3)

pub returns-then-operation_names : goal.returns-then-operation_names
returns-then-operation_names c =
    passing_hit _ _ _ _ c.loop.end _ c.loop.invariant _ (one_more (goal.at.returns-then-operation_names c).In-loop) c.standing_bare-next.result c.standing_bare-next.ensures _ c.operation_names.ensures c.if-operation_names.true

pub loop-preserved : goal.loop-preserved
loop-preserved c =
    passing_turn _ _ _ _ c.loop.end _ c.loop.invariant _ (one_more (goal.at.loop-preserved c).In-loop) c.standing_bare-next.result c.standing_bare-next.ensures _ c.operation_names.ensures c.if-operation_names.false

pub returns : goal.returns
returns c = passing_end _ _ _ _ c.loop.end _ c.loop.invariant (omega (arith, c.loop-test.false))
