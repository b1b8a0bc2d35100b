-- `scans::is_alone` meets its contract. Assumes nothing.
use Prim.Native.Nat.{◌+◌, ◌<◌}
use native.Mathlib.Omega.{arith}
use mathlib.Core.List.{[]}
use lib.ListN.{length}
use Rattle.basis.specs.Lists.{pieces}
use Rattle.sections.specs.RowLaws.{pieces_length}
use Rattle.scans.specs.Tests.{pass_start, pass_more, pass_no, pass_end, rows_alike, rows_apart}
use Rattle.scans.proofs.is_alone.Goals as goal

pub loop-j-init : goal.loop-j-init
loop-j-init c = pass_start _ _ _ (omega (arith, c.requires.1, pieces_length c.args.n c.args.size c.args.rows.now))

pub returns-then-field-number : goal.returns-then-field-number
returns-then-field-number c =
    let inside : c.loop-j.j < length (pieces c.args.n c.args.size c.args.rows.now) = omega (arith, pieces_length c.args.n c.args.size c.args.rows.now) in
    pass_no _ _ (c.args.i + 1) [] _ c.loop-j.invariant inside (rows_alike _ _ _ _ _ _ _ _ _ c.requires.1 c.loop-j-test.true c.requires.2 c.field-number.ensures c.field.ensures c.if-field-number.true)

pub loop-j-preserved : goal.loop-j-preserved
loop-j-preserved c =
    let inside : c.loop-j.j < length (pieces c.args.n c.args.size c.args.rows.now) = omega (arith, pieces_length c.args.n c.args.size c.args.rows.now) in
    pass_more _ _ (c.args.i + 1) [] _ c.loop-j.invariant inside (rows_apart _ _ _ _ _ _ _ _ _ c.requires.1 c.loop-j-test.true c.requires.2 c.field-number.ensures c.field.ensures c.if-field-number.false)

pub returns : goal.returns
returns c =
    pass_end _ _ (c.args.i + 1) [] _ c.loop-j.invariant (omega (arith, pieces_length c.args.n c.args.size c.args.rows.now, c.loop-j-test.false))
