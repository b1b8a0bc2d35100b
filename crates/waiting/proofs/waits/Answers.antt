-- `waiting::waits` meets its contract. Assumes nothing.
use mathlib.Core.Path.{◌≡◌, subst}
use Prim.Native.Nat.{suc, ◌+◌, ◌-◌}
use mathlib.Core.Bool.{◌||◌}
use lib.Dec.{eqb}
use native.Mathlib.Omega.{arith}
use lib.ListN.{get_or}
use Rattle.basis.specs.Sizes.{branch_count_at}
use Rattle.walk.specs.Walk.{body_is, branch_there}
use Rattle.names.specs.Named.{PastBranch}
use Rattle.waiting.specs.Walking.{walking_start, walking_ahead, reading, walking_guard, walking_shut, walking_holds, walking_turn, walking_end}
use Rattle.waiting.proofs.waits.Goals as goal
use Rattle.waiting.proofs.waits.Goals.{In-loop, then-blocking, else-blocking}

one_more : (c : In-loop) → get_or c.args.body.now branch_count_at 0 - c.loop.counter ≡ suc (get_or c.args.body.now branch_count_at 0 - (c.loop.counter + 1))
one_more c = omega (arith, c.loop-test.true)

pub bounds-body-3 : goal.bounds-body-3
bounds-body-3 c = omega (arith, (body_is c.args.body.now c.requires.0).long)

pub loop-init : goal.loop-init
loop-init c = walking_start _ _ _ c.args.body.now c.requires.0

pub standing_operation-end-requires : goal.standing_operation-end-requires
standing_operation-end-requires c = branch_there _ c.loop.at _ (walking_ahead _ _ _ _ _ c.loop.at _ _ c.loop.invariant _ (one_more c))

pub pass_branch-requires : goal.pass_branch-requires
pass_branch-requires c =
    let here = reading _ _ _ _ _ c.loop.at _ _ c.loop.invariant _ (one_more (goal.at.pass_branch-requires c).In-loop) c.standing_operation-end.result c.standing_operation-end.ensures in
    (here.0.long, here.0.body, c.requires.1, c.requires.2)

pub returns-in_default : goal.returns-in_default
returns-in_default c =
    walking_shut _ _ _ _ _ c.loop.at _ _ c.loop.invariant _ (one_more (goal.at.returns-in_default c).In-loop) c.standing_operation-end.result c.standing_operation-end.ensures
    (subst (PastBranch _ _ _ _) c.in_default.is c.pass_branch.ensures)

pub holds-requires : goal.holds-requires
holds-requires c =
    (c.requires.3, omega (arith, c.requires.4), walking_guard _ _ _ _ _ c.loop.at _ _ c.loop.invariant _ (one_more (goal.at.holds-requires c).In-loop) c.standing_operation-end.result c.standing_operation-end.ensures, c.standing_operation-end.ensures.parts.count)

pub returns-then-holds : goal.returns-then-holds
returns-then-holds c =
    walking_holds _ _ _ _ _ c.loop.at _ _ c.loop.invariant _ (one_more (goal.at.returns-then-holds c).In-loop) c.standing_operation-end.result c.standing_operation-end.ensures
    c.in-Some.next (subst (PastBranch _ _ _ _) c.in-Some.is c.pass_branch.ensures) _ c.holds.ensures c.if-holds.true

pub loop-preserved : goal.loop-preserved
loop-preserved c =
    let code = c.standing_operation-end.result.0.code in
    let now : c.if-blocking.blocking ≡ (c.loop.blocking || (eqb code 1 || eqb code 3)) =
    elim c.if-blocking.branch [ then-blocking w ↦ rw (w.blocking-is, w.if-blocking.true) | else-blocking w ↦ rw (w.blocking-is, w.if-blocking.false, w.is_blocking-blocking.ensures) ] in
    walking_turn _ _ _ _ _ c.loop.at _ _ c.loop.invariant _ (one_more (goal.at.loop-preserved c).In-loop) c.standing_operation-end.result c.standing_operation-end.ensures
    c.in-Some.next (subst (PastBranch _ _ _ _) c.in-Some.is c.pass_branch.ensures) _ c.holds.ensures c.if-holds.false c.if-blocking.blocking now

pub returns : goal.returns
returns c = walking_end _ _ _ _ _ c.loop.at _ _ c.loop.invariant (omega (arith, c.loop-test.false))
