-- `guards::can_wait` meets its contract. Assumes nothing.
use mathlib.Core.Path.{◌≡◌}
use Prim.Native.Nat.{suc, ◌+◌, ◌-◌}
use native.Mathlib.Omega.{arith}
use lib.ListN.{get_or}
use Rattle.basis.specs.Sizes.{branch_count_at}
use Rattle.walk.specs.Walk.{PassedBranch, body_is, branch_there, pass_branch}
use Rattle.guards.specs.Searching.{ahead_stand, body_past, body_there, ask_first, ask_end, ask_yes, ask_next}
use Rattle.guards.proofs.can_wait.Goals as goal
use Rattle.guards.proofs.can_wait.Goals.{In-loop, After-is_blocking}

one_more : (c : In-loop) → get_or c.args.body.now branch_count_at 0 - c.loop.counter ≡ suc (get_or c.args.body.now branch_count_at 0 - (c.loop.counter + 1))
one_more c = omega (arith, c.loop-test.true)

-- the guard of a branch was passed over
here : (c : After-is_blocking) → PassedBranch c.args.body.now c.loop.at (get_or c.args.body.now branch_count_at 0 - (c.loop.counter + 1)) c.standing_bare-end.result
here c = pass_branch c.args.body.now c.loop.at _ (ahead_stand _ _ c.args.body.now c.loop.at _ c.loop.invariant _ (let s : get_or c.args.body.now branch_count_at 0 - c.loop.counter ≡ suc (get_or c.args.body.now branch_count_at 0 - (c.loop.counter + 1)) = omega (arith, c.loop-test.true) in s)) c.standing_bare-end.result c.standing_bare-end.ensures

pub bounds-body-3 : goal.bounds-body-3
bounds-body-3 c = (body_is c.args.body.now c.requires).long

pub loop-init : goal.loop-init
loop-init c = ask_first _ c.requires

pub standing_bare-end-requires : goal.standing_bare-end-requires
standing_bare-end-requires c = branch_there c.args.body.now c.loop.at _ (ahead_stand _ _ c.args.body.now c.loop.at _ c.loop.invariant _ (one_more c))

pub returns-then-is_blocking : goal.returns-then-is_blocking
returns-then-is_blocking c =
    ask_yes c.args.body.now c.loop.at _ c.loop.invariant _ (one_more (goal.at.returns-then-is_blocking c).In-loop) c.standing_bare-end.result (here (goal.at.returns-then-is_blocking c).After-is_blocking) _ c.is_blocking.ensures c.if-is_blocking.true

pub overflow_add-end : goal.overflow_add-end
overflow_add-end c = record { fits = omega (arith, (here (goal.at.overflow_add-end c).After-is_blocking).0.long, (body_is c.args.body.now c.requires).size) }

pub bounds-body-end : goal.bounds-body-end
bounds-body-end c = (here (goal.at.bounds-body-end c).After-is_blocking).0.long

pub standing_end-at-requires : goal.standing_end-at-requires
standing_end-at-requires c =
    let n = (here (goal.at.standing_end-at-requires c).After-is_blocking).0 in
    (omega (arith, n.long), body_there c.args.body.now c.loop.at _ _ n _ c.size.ensures.0)

pub loop-preserved : goal.loop-preserved
loop-preserved c =
    let n = here (goal.at.loop-preserved c).After-is_blocking in
    ask_next c.args.body.now c.loop.at _ c.loop.invariant _ (one_more (goal.at.loop-preserved c).In-loop) c.standing_bare-end.result n _ c.is_blocking.ensures c.if-is_blocking.false c.standing_end-at.result
    (body_past c.args.body.now c.loop.at _ _ n.0 _ c.standing_end-at.result c.size.ensures.0 c.standing_end-at.ensures)

pub returns : goal.returns
returns c = ask_end _ c.loop.at _ c.loop.invariant (omega (arith, c.loop-test.false))
