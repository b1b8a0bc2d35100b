-- `fields::field_step` meets its contract. Assumes nothing.
use Rattle.std.proofs.Common.{sym}
use Rattle.basis.specs.Logic.{true_is}
use Rattle.model.proofs.BinderLaws.{legal_binder_lem}
use Rattle.statements.specs.Flat.{field_is}
use Rattle.fields.specs.Kinds.{kinds_are}
use Rattle.fields.specs.Stepped.{stepped_refused, stepped_legal}
use Rattle.fields.proofs.field_step.Goals as goal
use Rattle.fields.proofs.field_step.Goals.{else-form_ok-via-then-form_ok+else-field_ok, else-form_ok-via-else-form_ok}

pub bind_kind-requires : goal.bind_kind-requires
bind_kind-requires c b e = legal_binder_lem (kinds_are c.args.earlier.now) (kinds_are c.args.now.now) (field_is c.args.f) b e (true_is _ (sym c.if-field_ok.ensures))

pub returns-then-field_ok : goal.returns-then-field_ok
returns-then-field_ok c = stepped_legal c.args.code (kinds_are c.args.earlier.now) (kinds_are c.args.now.now) (field_is c.args.f) c.args.f.form c.bind_kind.result (rw (sym c.if-form_ok.ensures, sym c.if-field_ok.ensures)) c.bind_kind.ensures

pub returns-else-form_ok : goal.returns-else-form_ok
returns-else-form_ok c = stepped_refused c.args.code (kinds_are c.args.earlier.now) (kinds_are c.args.now.now) (field_is c.args.f) c.args.f.form
    (elim c.else-form_ok.branch [
      | else-form_ok-via-then-form_ok+else-field_ok w ↦ rw (sym w.if-form_ok.ensures, sym w.if-field_ok.ensures)
      | else-form_ok-via-else-form_ok w ↦ rw (sym w.if-form_ok.ensures)
    ])
