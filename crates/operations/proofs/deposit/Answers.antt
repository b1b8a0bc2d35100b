-- `operations::deposit` meets its contract. Assumes nothing.
use mathlib.Core.Path.{refl}
use Rattle.bindings.specs.Fields.{fields_in}
use Rattle.bindings.specs.Variables.{bindings_of}
use Rattle.operations.specs.Performing.{deposit_unmade, deposit_full, deposit_entry, deposit_done}
use Rattle.operations.proofs.deposit.Goals as goal

pub make_tuple-requires : goal.make_tuple-requires
make_tuple-requires c = let pre = c.requires in (pre.1, pre.2.make)

pub append-requires : goal.append-requires
append-requires c =
    let a = c.args in (
      c.requires.0,
      c.if-n-ge-MOST_TUPLES.false,
      deposit_entry (bindings_of a.v.now) a.op.now.from (fields_in a.op.now) a.tuples.now a.n a.v.now refl c.in-Some.tuple c.in-Some.ensures c.requires.2,
    )

pub returns-in_default : goal.returns-in_default
returns-in_default c =
    let a = c.args in
    deposit_unmade (bindings_of a.v.now) a.op.now.from (fields_in a.op.now) a.tuples.now a.n a.v.now refl c.requires.0 c.in_default.ensures

pub returns-then-n-ge-MOST_TUPLES : goal.returns-then-n-ge-MOST_TUPLES
returns-then-n-ge-MOST_TUPLES c =
    let a = c.args in
    deposit_full (bindings_of a.v.now) a.op.now.from (fields_in a.op.now) a.tuples.now a.n a.v.now refl c.in-Some.tuple c.in-Some.ensures c.requires.0 c.if-n-ge-MOST_TUPLES.true

pub returns : goal.returns
returns c =
    let a = c.args in
    deposit_done (bindings_of a.v.now) a.op.now.from (fields_in a.op.now) a.tuples.now a.n a.v.now refl c.in-Some.tuple c.in-Some.ensures _ c.if-n-ge-MOST_TUPLES.false c.requires.2
    c.append.ensures
