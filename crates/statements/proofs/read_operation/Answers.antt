-- `statements::read_operation` meets its contract. Assumes nothing.
use Rattle.std.specs.Prelude.{None, Some}
use Rattle.statements.specs.Flat.{has_form, operation_is}
use Rattle.statements.specs.Front.{fields_read_lem}
use Rattle.statements.specs.Several.{all_take}
use Rattle.statements.proofs.read_operation.Goals as goal

pub returns-in_err-f : goal.returns-in_err-f
returns-in_err-f c = let e = c.in_err-f.ensures in rw c.from_residual.ensures (record { is = e; parts = tt })

pub returns-in_err-fields : goal.returns-in_err-fields
returns-in_err-fields c = let h = c.in_ok-f.ensures in
    let e = c.in_err-fields.ensures in
    rw c.from_residual-in_err-fields.ensures (record { is = fields_read_lem c.in_ok-f.f c.args.b.now _ h None e.0; parts = tt })

pub returns : goal.returns
unfolding operation_is
returns c = let h = c.in_ok-f.ensures in
    let e = c.in_ok-fields.ensures in
    record {
      is = fields_read_lem c.in_ok-f.f c.args.b.now _ h (Some (c.in_ok-fields.fields, c.in_ok-fields.end)) e.0;
      parts = record { code = h.code; count = h.count; formed = all_take has_form c.in_ok-f.f.count c.in_ok-fields.fields e.1 };
    }
