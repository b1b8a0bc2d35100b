-- `names::some_named` meets its contract. Assumes nothing.
use mathlib.Core.Path.{◌≡◌, subst}
use Prim.Native.Nat.{suc, ◌+◌, ◌-◌}
use native.Mathlib.Omega.{arith}
use lib.ListN.{get_or}
use Rattle.basis.specs.Sizes.{branch_count_at}
use Rattle.walk.specs.Walk.{body_is, branch_there}
use Rattle.spaces.specs.Spaces.{spaces_of}
use Rattle.names.specs.Asks.{asks}
use Rattle.names.specs.Named.{PastBranch, naming_start, naming_ahead, naming_branch, naming_hit, naming_turn, naming_end}
use Rattle.names.proofs.some_named.Goals as goal
use Rattle.names.proofs.some_named.Goals.{In-loop}

one_more : (c : In-loop) → get_or c.args.body.now branch_count_at 0 - c.loop.counter ≡ suc (get_or c.args.body.now branch_count_at 0 - (c.loop.counter + 1))
one_more c = omega (arith, c.loop-test.true)

pub bounds-body-3 : goal.bounds-body-3
bounds-body-3 c = omega (arith, (body_is c.args.body.now c.requires.0).long)

pub loop-init : goal.loop-init
loop-init c = naming_start _ c.args.body.now c.requires.0

pub standing_bare-end-requires : goal.standing_bare-end-requires
standing_bare-end-requires c = branch_there _ c.loop.at _ (naming_ahead _ _ _ c.loop.at _ c.loop.invariant _ (one_more c))

pub pass_branch-requires : goal.pass_branch-requires
pass_branch-requires c =
    let here = naming_branch (asks (spaces_of c.args.spaces.now c.args.n) c.args.what) _ _ c.loop.at _ c.loop.invariant _ (one_more (goal.at.pass_branch-requires c).In-loop) c.standing_bare-end.result c.standing_bare-end.ensures in
    (here.0.long, here.0.body, c.requires.1, c.requires.2)

pub loop-preserved : goal.loop-preserved
loop-preserved c =
    naming_turn (asks (spaces_of c.args.spaces.now c.args.n) c.args.what) _ _ c.loop.at _ c.loop.invariant _ (one_more (goal.at.loop-preserved c).In-loop) c.standing_bare-end.result c.standing_bare-end.ensures
    c.in-Some.next (subst (PastBranch _ _ _ _) c.in-Some.is c.pass_branch.ensures)

pub returns-in_default : goal.returns-in_default
returns-in_default c =
    naming_hit (asks (spaces_of c.args.spaces.now c.args.n) c.args.what) _ _ c.loop.at _ c.loop.invariant _ (one_more (goal.at.returns-in_default c).In-loop) c.standing_bare-end.result c.standing_bare-end.ensures
    (subst (PastBranch _ _ _ _) c.in_default.is c.pass_branch.ensures)

pub returns : goal.returns
returns c = naming_end _ _ _ c.loop.at _ c.loop.invariant (omega (arith, c.loop-test.false))
