-- `engine::makes_no_sum` meets its contract. Assumes nothing.
use mathlib.Core.Path.{refl}
use lib.ListN.{take}
use Rattle.engine.specs.Unfailing.{plain_at, plain_past, plain_stop, plain_more, plain_all}
use Rattle.engine.proofs.makes_no_sum.Goals as goal

pub loop-f-init : goal.loop-f-init
loop-f-init c = refl

pub returns-then-not-is_plain : goal.returns-then-not-is_plain
returns-then-not-is_plain c =
    let a = c.args.op in
    plain_stop _ _ c.loop-f.invariant _ (plain_at (take a.count a.fields) c.loop-f.f-index _ c.loop-f-test.true) _ c.is_plain.ensures c.if-not-is_plain.true

pub loop-f-preserved : goal.loop-f-preserved
loop-f-preserved c =
    let a = c.args.op in
    plain_more _ _ c.loop-f.invariant _ (plain_at (take a.count a.fields) c.loop-f.f-index _ c.loop-f-test.true) _ c.is_plain.ensures c.if-not-is_plain.false

pub returns : goal.returns
returns c = let a = c.args.op in plain_all _ _ c.loop-f.invariant (plain_past (take a.count a.fields) c.loop-f.f-index c.loop-f-test.false)
