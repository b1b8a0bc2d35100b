-- `bindings::make_tuple` meets its contract. Assumes nothing.
use borrow.Author.Rules.{rules}
use mathlib.Core.Path.{◌≡◌, ◌∙◌}
use native.Mathlib.Omega.{arith}
use Rattle.bindings.specs.Fields.{fields_in, no_field, Next, fields_drop, fields_past, each_drop}
use Rattle.bindings.specs.Variables.{bindings_of}
use Rattle.bindings.specs.Making.{CanMake, making_none, making_more, making_fails, making_all}
use Rattle.bindings.proofs.make_tuple.Goals as goal
use Rattle.bindings.proofs.make_tuple.Goals.{In-loop-j}

-- the field of this turn stands first of those to come
next : (c : In-loop-j) → Next c.args.op c.loop-j.j
next c =
    let a = c.args in
    fields_drop a.op.fields a.op.count c.loop-j.j no_field c.loop-j-test.true (omega arith)

pub begin_entry-tuple-requires : goal.begin_entry-tuple-requires
begin_entry-tuple-requires c = c.requires.0

pub loop-j-init : goal.loop-j-init
loop-j-init c =
    let a = c.args in
    (search rules, making_none (bindings_of a.v) a.op.from (fields_in a.op) a.op.count _ c.begin_entry-tuple.ensures)

pub field_value-requires : goal.field_value-requires
field_value-requires c =
    each_drop (CanMake (bindings_of c.args.v)) (fields_in c.args.op) c.loop-j.j _ _ c.requires.1 (next (goal.at.field_value-requires c).In-loop-j)

pub returns-in_err-x : goal.returns-in_err-x
returns-in_err-x c =
    let a = c.args in
    rw c.from_residual.ensures
    (making_fails (bindings_of a.v) a.op.from (fields_in a.op) a.op.count c.loop-j.j c.loop-j.tuple _ c.loop-j.invariant.1 (next (goal.at.returns-in_err-x c).In-loop-j) c.in_err-x.ensures)

pub put_value-requires : goal.put_value-requires
put_value-requires c = (c.loop-j.invariant.0, omega (arith, c.loop-j-test.true, c.requires.0))

pub loop-j-preserved : goal.loop-j-preserved
loop-j-preserved c =
    let a = c.args in (
      c.put_value.auto.entry ∙ c.loop-j.invariant.0,
      making_more (bindings_of a.v) a.op.from (fields_in a.op) a.op.count c.loop-j.j c.loop-j.tuple c.put_value.new.entry _ c.in_ok-x.x
          c.loop-j.invariant.1 (omega (arith, c.loop-j-test.true, c.requires.0)) (next (goal.at.loop-j-preserved c).In-loop-j) c.in_ok-x.ensures c.put_value.ensures,
    )

pub returns : goal.returns
returns c =
    let a = c.args in
    let end : c.loop-j.j ≡ a.op.count = omega (arith, c.loop-j.auto.j-end, c.loop-j-test.false) in
    making_all (bindings_of a.v) a.op.from (fields_in a.op) a.op.count c.loop-j.tuple (rw end at c.loop-j.invariant.1) (fields_past a.op.fields a.op.count (omega arith))
