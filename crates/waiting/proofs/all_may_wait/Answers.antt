-- `waiting::all_may_wait` meets its contract. Assumes nothing.
use mathlib.Core.Path.{sym, ◌∙◌}
use native.Mathlib.Omega.{arith}
use Rattle.sections.specs.Shapes.{items_length}
use Rattle.scans.specs.Tests.{pass_start, pass_more, pass_no, pass_end}
use Rattle.queue.specs.Queue.{waiting_shape}
use Rattle.queue.specs.PlaceLaws.{no_waiting}
use Rattle.waiting.proofs.all_may_wait.Goals as goal

pub loop-i-init : goal.loop-i-init
loop-i-init c = pass_start _ _ 0 (omega arith)

pub returns-then-not-may_wait : goal.returns-then-not-may_wait
returns-then-not-may_wait c =
    pass_no _ _ 0 no_waiting _ c.loop-i.invariant (omega (arith, c.loop-i-test.true, (items_length waiting_shape c.args.waiting.now c.args.n))) (sym c.may_wait.ensures ∙ c.if-not-may_wait.true)

pub loop-i-preserved : goal.loop-i-preserved
loop-i-preserved c =
    pass_more _ _ 0 no_waiting _ c.loop-i.invariant (omega (arith, c.loop-i-test.true, (items_length waiting_shape c.args.waiting.now c.args.n))) (sym c.may_wait.ensures ∙ c.if-not-may_wait.false)

pub returns : goal.returns
returns c =
    pass_end _ _ 0 no_waiting _ c.loop-i.invariant (omega (arith, items_length waiting_shape c.args.waiting.now c.args.n, c.loop-i-test.false))
