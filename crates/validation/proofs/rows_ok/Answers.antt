-- `validation::rows_ok` meets its contract. Assumes nothing.
use native.Mathlib.Omega.{arith}
use mathlib.Core.List.{[]}
use Rattle.basis.specs.Sizes.{tuple_size}
use Rattle.sections.specs.RowLaws.{pieces_length}
use Rattle.scans.specs.Tests.{pass_start, pass_more, pass_no, pass_end}
use Rattle.validation.specs.TupleLaws.{no_tuple, no_space_lem, in_space_lem}
use Rattle.validation.proofs.rows_ok.Goals as goal

pub loop-i-init : goal.loop-i-init
loop-i-init c = pass_start _ _ 0 (omega arith)

pub returns-then-not-tuple_ok : goal.returns-then-not-tuple_ok
returns-then-not-tuple_ok c =
    pass_no _ _ 0 [] _ c.loop-i.invariant (omega (arith, c.loop-i-test.true, pieces_length c.args.m tuple_size c.args.tuples.now))
    (no_tuple _ _ _ _ _ c.loop-i-test.true _ c.tuple_ok.ensures c.if-not-tuple_ok.true)

-- what the turn found
pub returns-then-not-is_open : goal.returns-then-not-is_open
returns-then-not-is_open c =
    pass_no _ _ 0 [] _ c.loop-i.invariant (omega (arith, c.loop-i-test.true, pieces_length c.args.m tuple_size c.args.tuples.now))
    (no_space_lem _ _ _ _ _ c.loop-i-test.true _ c.tuple_ok.ensures c.if-not-tuple_ok.false _ _ c.space.ensures c.is_open.ensures c.if-not-is_open.true)

pub loop-i-preserved : goal.loop-i-preserved
loop-i-preserved c =
    pass_more _ _ 0 [] _ c.loop-i.invariant (omega (arith, c.loop-i-test.true, pieces_length c.args.m tuple_size c.args.tuples.now))
    (in_space_lem _ _ _ _ _ c.loop-i-test.true _ c.tuple_ok.ensures c.if-not-tuple_ok.false _ _ c.space.ensures c.is_open.ensures c.if-not-is_open.false)

pub returns : goal.returns
returns c =
    pass_end _ _ 0 [] _ c.loop-i.invariant (omega (arith, pieces_length c.args.m tuple_size c.args.tuples.now, c.loop-i-test.false))
