-- `fields::bind_kind` meets its contract. Assumes nothing.
use mathlib.Core.Path.{sym, ◌∙◌}
use native.Mathlib.Omega.{arith}
use Rattle.model.specs.Statement.{Binder}
use Rattle.model.proofs.BinderLaws as laws
use Rattle.statements.specs.Flat.{field_is}
use Rattle.statements.specs.Binds.{binder_in, binds_some, binds_none}
use Rattle.fields.specs.Kinds.{kinds_are, kinds_set}
use Rattle.fields.specs.FieldLaws.{binder_parts}
use Rattle.fields.proofs.bind_kind.Goals as goal

pub bounds-kinds-size : goal.bounds-kinds-size
bounds-kinds-size c =
    let b : Binder = binder_in c.args.f in
    omega (arith, (binder_parts (kinds_are c.args.now.now) b (c.requires b (binds_some c.args.f c.binds.result c.binds.ensures c.if-binds.true))).1, c.size.ensures.0)

pub returns-then-binds : goal.returns-then-binds
returns-then-binds c =
    let e = binds_some c.args.f c.binds.result c.binds.ensures c.if-binds.true in
    rw c.size.ensures.0 (kinds_set c.args.now.now c.args.f.variable c.args.f.kind ∙ sym (laws.kinds_set (kinds_are c.args.now.now) (field_is c.args.f) (binder_in c.args.f) e))

pub returns-else-binds : goal.returns-else-binds
returns-else-binds c =
    sym (laws.kinds_left (kinds_are c.args.now.now) (field_is c.args.f) (binds_none c.args.f c.binds.result c.binds.ensures c.if-binds.false))
