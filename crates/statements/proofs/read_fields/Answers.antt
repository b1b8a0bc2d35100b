-- `statements::read_fields` meets its contract. Assumes nothing.
use native.Mathlib.Omega.{arith}
use Rattle.basis.specs.Sizes.{most_fields}
use Rattle.statements.specs.Flat.{has_form}
use Rattle.statements.specs.Several.{all_replicate, all_drop, blank_form, fields_start, fields_turn, fields_stop, fields_done}
use Rattle.statements.proofs.read_fields.Goals as goal

pub loop-field-init : goal.loop-field-init
loop-field-init c = fields_start _ _ _ _ c.requires.1 c.requires.0 (all_replicate has_form most_fields _ (blank_form _ c.default-fields.ensures.0))

pub returns-in_err-field : goal.returns-in_err-field
returns-in_err-field c = let e = c.in_err-field.ensures in
    let w = c.loop-field.invariant in
    rw c.from_residual.ensures (
      fields_stop c.args.b.now c.args.at c.args.count c.loop-field.field-items c.loop-field.end c.loop-field.field-index
          (omega (arith, c.loop-field-test.true, c.loop-field.auto.field-items, w.room)) w e.0,
      tt,
    )

pub loop-field-preserved : goal.loop-field-preserved
loop-field-preserved c = let e = c.in_ok-field.ensures in
    let w = c.loop-field.invariant in
    fields_turn c.args.b.now c.args.at c.args.count c.loop-field.field-items c.loop-field.end c.loop-field.field-index (c.in_ok-field.field-0-0, c.in_ok-field.field-0-1)
    (omega (arith, c.loop-field-test.true, c.loop-field.auto.field-items, w.room)) w e.0 e.1

pub returns : goal.returns
returns c = let w = c.loop-field.invariant in
    fields_done c.args.b.now c.args.at c.args.count c.loop-field.field-items _ c.loop-field.end c.loop-field.field-index (omega (arith, c.loop-field-test.false, c.loop-field.auto.field-items, w.room)) w
    (all_drop has_form c.args.count _ (all_replicate has_form most_fields _ (blank_form _ c.default-fields.ensures.0)))
