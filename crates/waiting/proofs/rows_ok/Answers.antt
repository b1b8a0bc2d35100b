-- `waiting::rows_ok` meets its contract. Assumes nothing.
use mathlib.Core.Path.{sym, ◌∙◌}
use native.Mathlib.Omega.{arith}
use mathlib.Core.List.{[]}
use Rattle.basis.specs.Sizes.{waiting_size}
use Rattle.sections.specs.RowLaws.{pieces_length}
use Rattle.scans.specs.Tests.{pass_start, pass_more, pass_no, pass_end}
use Rattle.waiting.proofs.rows_ok.Goals as goal

pub loop-i-init : goal.loop-i-init
loop-i-init c = pass_start _ _ 0 (omega arith)

pub returns-then-not-row_ok : goal.returns-then-not-row_ok
returns-then-not-row_ok c =
    pass_no _ _ 0 [] _ c.loop-i.invariant (omega (arith, c.loop-i-test.true, (pieces_length c.args.n waiting_size c.args.waiting.now))) (sym c.row_ok.ensures ∙ c.if-not-row_ok.true)

pub loop-i-preserved : goal.loop-i-preserved
loop-i-preserved c =
    pass_more _ _ 0 [] _ c.loop-i.invariant (omega (arith, c.loop-i-test.true, (pieces_length c.args.n waiting_size c.args.waiting.now))) (sym c.row_ok.ensures ∙ c.if-not-row_ok.false)

pub returns : goal.returns
returns c =
    pass_end _ _ 0 [] _ c.loop-i.invariant (omega (arith, (pieces_length c.args.n waiting_size c.args.waiting.now), c.loop-i-test.false))
