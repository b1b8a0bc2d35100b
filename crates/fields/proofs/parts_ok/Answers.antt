-- `fields::parts_ok` meets its contract. Assumes nothing.
use mathlib.Core.Path.{ap, ◌∙◌}
use native.Mathlib.Omega.{arith}
use Rattle.basis.specs.Choice.{is_some}
use Rattle.model.specs.Value.{value}
use Rattle.model.specs.Legal.{summable}
use Rattle.statements.specs.Flat.{field_is}
use Rattle.fields.specs.Kinds.{kinds_are}
use Rattle.fields.specs.FieldLaws.{some_given, parts_actual, parts_formal, parts_reference, parts_sum, parts_anonymous, parts_range}
use Rattle.fields.proofs.parts_ok.Goals as goal

pub returns-in-0 : goal.returns-in-0
unfolding field_is
returns-in-0 c = c.legal_value.ensures ∙ parts_actual (kinds_are c.args.earlier.now) c.args.f.form c.args.f.kind c.args.f.variable c.args.f.bits c.args.f.highest c.in-0.is

pub returns-in-1 : goal.returns-in-1
unfolding field_is
returns-in-1 c = parts_formal (kinds_are c.args.earlier.now) c.args.f.form c.args.f.kind c.args.f.variable c.args.f.bits c.args.f.highest c.in-1.is

pub returns-in-2 : goal.returns-in-2
unfolding field_is
returns-in-2 c = c.is_some.ensures ∙ some_given c.kind_at.result ∙ ap is_some c.kind_at.ensures ∙ parts_reference (kinds_are c.args.earlier.now) c.args.f.form c.args.f.kind c.args.f.variable c.args.f.bits c.args.f.highest c.in-2.is

pub returns-in-5 : goal.returns-in-5
unfolding field_is
returns-in-5 c = parts_anonymous (kinds_are c.args.earlier.now) c.args.f.form c.args.f.kind c.args.f.variable c.args.f.bits c.args.f.highest c.in-5.is

pub returns-in-3 : goal.returns-in-3
unfolding field_is
returns-in-3 c =
    c.sum_ok.ensures ∙ ap (λ o. summable o (value c.args.f.kind c.args.f.bits)) c.kind_at-in-3.ensures
    ∙ parts_sum (kinds_are c.args.earlier.now) c.args.f.form c.args.f.kind c.args.f.variable c.args.f.bits c.args.f.highest (omega arith) (omega arith)

pub returns-in_default : goal.returns-in_default
unfolding field_is
returns-in_default c = c.range_ok.ensures ∙ parts_range (kinds_are c.args.earlier.now) c.args.f.form c.args.f.kind c.args.f.variable c.args.f.bits c.args.f.highest (omega arith)
