-- `bindings::bind_field` meets its contract. Assumes nothing.
use mathlib.Core.Path.{◌≡◌, sym}
use lib.ListN.{length}
use borrow.Author.Rules.{rules}
use Rattle.basis.specs.Sizes.{variables}
use Rattle.values.specs.Meaning.{scalar_is}
use Rattle.model.proofs.BinderLaws.{values_left}
use Rattle.statements.specs.Flat.{field_is}
use Rattle.statements.specs.Binds.{binds_some, binds_none}
use Rattle.bindings.specs.Fields.{length_mapped}
use Rattle.bindings.specs.Variables.{bindings_of}
use Rattle.bindings.specs.Binding.{binds, binds_past}
use Rattle.bindings.proofs.bind_field.Goals as goal

pub returns-then-x-lt-VARIABLES : goal.returns-then-x-lt-VARIABLES
returns-then-x-lt-VARIABLES c =
    binds c.args.v.now c.args.f c.args.value c.size-x.result (binds_some c.args.f c.binds.result c.binds.ensures c.if-binds.true) c.size-x.ensures.0

pub returns-else-x-lt-VARIABLES : goal.returns-else-x-lt-VARIABLES
returns-else-x-lt-VARIABLES c =
    let n : length c.args.v.now.values ≡ variables = search (rules, length_mapped) in
    binds_past c.args.v.now c.args.f c.args.value c.size-x.result n (binds_some c.args.f c.binds.result c.binds.ensures c.if-binds.true) c.size-x.ensures.0 c.if-x-lt-VARIABLES.false

pub returns-else-binds : goal.returns-else-binds
returns-else-binds c =
    sym (values_left (bindings_of c.args.v.now) (field_is c.args.f) (scalar_is c.args.value) (binds_none c.args.f c.binds.result c.binds.ensures c.if-binds.false))
