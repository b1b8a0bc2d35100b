-- `operations::take_found` meets its contract. Assumes nothing.
use borrow.Author.Rules.{rules}
use mathlib.Core.Path.{◌≡◌, ◌∙◌}
use Prim.Native.Nat.{◌≤◌, ◌<◌}
use native.Mathlib.Omega.{arith}
use lib.ListN.{length}
use Rattle.basis.specs.Sizes.{most_fields}
use Rattle.tuples.specs.Section.{tuple_shape}
use Rattle.sections.specs.Shapes.{holds_length}
use Rattle.bindings.specs.Fields.{fields_in, length_mapped, fields_length}
use Rattle.bindings.specs.Variables.{bindings_of}
use Rattle.operations.specs.Performing.{at_below, at_count, look_removed, look_read}
use Rattle.operations.proofs.take_found.Goals as goal
use Rattle.operations.proofs.take_found.Goals.{Start}

few : (c : Start) → c.args.op.count ≤ length c.args.op.fields
few c = let six : length c.args.op.fields ≡ most_fields = search (rules, length_mapped) in omega (arith, c.requires.1)

below : (c : Start) → c.args.i < c.args.n
below c = let a = c.args in at_below (bindings_of a.v.now) a.op.from (fields_in a.op) a.tuples.now a.n a.i c.requires.2

pub bind_at-requires : goal.bind_at-requires
bind_at-requires c =
    let a = c.args in (
      c.requires.1,
      omega (arith, below (goal.at.bind_at-requires c).Start, c.requires.0.few, holds_length tuple_shape _ _ _ c.requires.0),
      at_count (bindings_of a.v.now) a.op.from (fields_in a.op) a.tuples.now a.n a.i c.requires.2 ∙ fields_length a.op.fields a.op.count (few (goal.at.bind_at-requires c).Start),
    )

pub remove-requires : goal.remove-requires
remove-requires c = (c.requires.0, below (goal.at.remove-requires c).Start)

pub overflow_sub-result : goal.overflow_sub-result
overflow_sub-result c =
    let l = below (goal.at.overflow_sub-result c).Start in omega arith

pub returns-then-withdraws : goal.returns-then-withdraws
returns-then-withdraws c =
    let a = c.args in
    look_removed (bindings_of a.v.now) a.op.from (fields_in a.op) a.tuples.now a.n a.i c.requires.2 c.bind_at.result c.bind_at.ensures a.withdraws c.if-withdraws.true _ c.remove.ensures

pub returns : goal.returns
returns c =
    let a = c.args in
    look_read (bindings_of a.v.now) a.op.from (fields_in a.op) a.tuples.now a.n a.i c.requires.2 c.bind_at.result c.bind_at.ensures a.withdraws c.if-withdraws.false c.requires.0
