-- `parts::put_fields` meets its contract. Assumes nothing.
use Rattle.std.proofs.Common.{arith, take_all}
use Rattle.statements.specs.declared.Field.{Field}
use Rattle.parts.specs.Fields.{putting_start, putting_turn}
use Rattle.writer.specs.Tests.{forms_at}
use Rattle.parts.proofs.put_fields.Goals as goal

abbrev no_field : Field
no_field = record { form = 0; kind = 0; variable = 0; bits = 0; highest = 0 }

pub loop-f-init : goal.loop-f-init
loop-f-init c = putting_start c.args.fields.now c.args.t.now c.args.at

pub put_field-end-requires : goal.put_field-end-requires
put_field-end-requires c = (forms_at c.args.fields.now c.loop-f.f-index no_field c.requires.1 c.loop-f-test.true, omega arith)

pub loop-f-preserved : goal.loop-f-preserved
loop-f-preserved c =
    let a = c.args in
    putting_turn a.fields.now a.t.now a.at c.loop-f.t c.loop-f.end c.loop-f.f-index no_field c.put_field-end.new.t c.put_field-end.result c.requires.2 c.requires.0 c.loop-f-test.true c.put_field-end.auto.t c.loop-f.invariant c.put_field-end.ensures

pub returns : goal.returns
returns c =
    rw (take_all c.loop-f.f-index c.args.fields.now (omega arith)) at c.loop-f.invariant.put
