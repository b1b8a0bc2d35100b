-- `fields::field_ok` meets its contract. Assumes nothing.
use Rattle.std.proofs.Common.{sym, ◌∙◌}
use Rattle.statements.specs.Flat.{field_is}
use Rattle.statements.specs.Binds.{binder_in, binds_some, binds_none}
use Rattle.fields.specs.Kinds.{kinds_are}
use Rattle.fields.specs.FieldLaws.{field_refused, field_binds, field_free}
use Rattle.fields.proofs.field_ok.Goals as goal

pub returns-then-not-binds : goal.returns-then-not-binds
returns-then-not-binds c =
    rw c.if-not-binds.true (field_free (kinds_are c.args.earlier.now) (kinds_are c.args.now.now) (field_is c.args.f) (binds_none c.args.f c.binds.result c.binds.ensures c.if-not-binds.true) (sym c.if-parts_ok.ensures))

pub returns-else-not-binds : goal.returns-else-not-binds
returns-else-not-binds c =
    c.binder_ok.ensures
    ∙ field_binds (kinds_are c.args.earlier.now) (kinds_are c.args.now.now) (field_is c.args.f) (binder_in c.args.f) (binds_some c.args.f c.binds.result c.binds.ensures c.if-not-binds.false) (sym c.if-parts_ok.ensures)

pub returns-else-parts_ok : goal.returns-else-parts_ok
returns-else-parts_ok c = rw c.if-parts_ok.false (field_refused (kinds_are c.args.earlier.now) (kinds_are c.args.now.now) (field_is c.args.f) (sym c.if-parts_ok.ensures))
