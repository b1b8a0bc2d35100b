-- `scans::find` meets its contract. Assumes nothing.
use native.Mathlib.Omega.{arith}
use mathlib.Core.Path.{◌∙◌}
use Prim.Native.Nat.{◌<◌}
use lib.ListN.{length}
use Rattle.basis.specs.Lists.{pieces}
use mathlib.Core.List.{[]}
use Rattle.sections.specs.RowLaws.{pieces_length}
use Rattle.sections.specs.Loops.{field_is_lem, field_not, looking_start, looking_hit, looking_miss, looking_end, first_some, first_none}
use Rattle.scans.proofs.find.Goals as goal

pub loop-i-init : goal.loop-i-init
loop-i-init c = looking_start _ _

pub returns-then-field-value : goal.returns-then-field-value
returns-then-field-value c =
    let h = c.loop-i in
    let below = c.loop-i-test.true in
    let inside : h.i < length (pieces c.args.n c.args.size c.args.rows.now) = omega (arith, pieces_length c.args.n c.args.size c.args.rows.now) in
    first_some _ _ _ (looking_hit _ _ _ _ h.invariant inside (field_is_lem _ _ _ _ _ _ _ _ below c.requires.1 c.field.ensures c.if-field-value.true)) inside

pub loop-i-preserved : goal.loop-i-preserved
loop-i-preserved c =
    let h = c.loop-i in
    let below = c.loop-i-test.true in
    looking_miss _ _ _ _ h.invariant (omega (arith, pieces_length c.args.n c.args.size c.args.rows.now)) (field_not _ _ _ _ _ _ _ _ below c.requires.1 c.field.ensures c.if-field-value.false)

pub returns : goal.returns
returns c =
    let e = pieces_length c.args.n c.args.size c.args.rows.now in
    first_none _ _ (e ∙ (omega arith ∙ looking_end _ _ [] _ c.loop-i.invariant (omega (arith, e, c.loop-i-test.false))))
