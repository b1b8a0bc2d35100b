-- `statements::read_field` meets its contract. Assumes nothing.
use mathlib.Core.Path.{sym, ◌∙◌}
use Rattle.statements.specs.Fields.{field_read_lem, stands}
use Rattle.statements.specs.FlatLaws.{form_known}
use Rattle.statements.proofs.read_field.Goals as goal

pub returns-in_err-end : goal.returns-in_err-end
returns-in_err-end c = let e = c.in_err-end.ensures in
    rw c.from_residual.ensures (sym (field_read_lem c.args.b.now c.args.at ∙ rw (← e)), tt)

pub field_parts-requires : goal.field_parts-requires
field_parts-requires c = stands c.args.b.now c.args.at c.in_ok-end.end c.in_ok-end.ensures

pub returns : goal.returns
returns c = let e = c.in_ok-end.ensures in
    let k = stands c.args.b.now c.args.at c.in_ok-end.end e in
    (sym (field_read_lem c.args.b.now c.args.at ∙ rw (← e, ← c.field_parts.ensures.0)), form_known c.field_parts.result _ k.width c.field_parts.ensures.1 k.is)
