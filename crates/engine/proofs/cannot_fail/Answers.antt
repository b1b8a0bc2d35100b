-- `engine::cannot_fail` meets its contract. Assumes nothing.
use mathlib.Core.Path.{◌≡◌, sym}
use Rattle.std.proofs.Math.Bool.{true≢false}
use Prim.Native.Nat.{suc, ◌+◌, ◌-◌}
use native.Mathlib.Omega.{arith}
use Rattle.walk.specs.Walk.{next_there}
use Rattle.engine.specs.Unfailing.{passing_start, passing_end, to_come_lem, passing_within, passing_turn}
use Rattle.engine.proofs.cannot_fail.Goals as goal
use Rattle.engine.proofs.cannot_fail.Goals.{In-loop}

one_more : (c : In-loop) → c.args.count - c.loop.counter ≡ suc (c.args.count - (c.loop.counter + 1))
one_more c = omega (arith, c.loop-test.true)

pub loop-init : goal.loop-init
loop-init c = let a = c.args in passing_start a.body.now a.at a.count a.room c.requires

pub pass_unfailing-requires : goal.pass_unfailing-requires
pass_unfailing-requires c =
    let l = c.loop in
    (passing_within _ _ _ _ l.next _ l.free l.invariant _ (one_more c), next_there c.args.body.now l.next _ (to_come_lem _ _ _ _ l.next _ l.free l.invariant _ (one_more c)))

pub returns-in_default : goal.returns-in_default
returns-in_default c t = absurd (true≢false (sym t))

pub loop-preserved : goal.loop-preserved
loop-preserved c =
    let l = c.loop in
    passing_turn _ _ _ _ l.next _ l.free l.invariant _ (one_more (goal.at.loop-preserved c).In-loop) c.in-Some.end c.in-Some.left c.in-Some.ensures

pub returns : goal.returns
returns c t = let l = c.loop in passing_end _ _ _ _ l.next _ l.free l.invariant (omega (arith, c.loop-test.false))
