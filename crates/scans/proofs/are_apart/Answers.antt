-- `scans::are_apart` meets its contract. Assumes nothing.
use mathlib.Core.Path.{sym, ◌∙◌}
use native.Mathlib.Omega.{arith}
use mathlib.Core.List.{[]}
use Rattle.sections.specs.RowLaws.{pieces_length}
use Rattle.scans.specs.Tests.{apart_start, apart_more, apart_no, apart_end}
use Rattle.scans.proofs.are_apart.Goals as goal

pub loop-i-init : goal.loop-i-init
loop-i-init c = apart_start _ _

pub returns-then-not-is_alone : goal.returns-then-not-is_alone
returns-then-not-is_alone c =
    apart_no _ _ [] _ c.loop-i.invariant (omega (arith, c.loop-i-test.true, pieces_length c.args.n c.args.size c.args.rows.now)) (sym c.is_alone.ensures ∙ c.if-not-is_alone.true)

pub loop-i-preserved : goal.loop-i-preserved
loop-i-preserved c =
    apart_more _ _ [] _ c.loop-i.invariant (omega (arith, c.loop-i-test.true, pieces_length c.args.n c.args.size c.args.rows.now)) (sym c.is_alone.ensures ∙ c.if-not-is_alone.false)

pub returns : goal.returns
returns c =
    apart_end _ _ [] _ c.loop-i.invariant (omega (arith, pieces_length c.args.n c.args.size c.args.rows.now, c.loop-i-test.false))
