-- `wellformed::fields_ok` meets its contract. Assumes nothing.
use mathlib.Core.Path.{sym, ap, ◌∙◌}
use Rattle.basis.specs.Sizes.{most_fields}
use Rattle.tuples.specs.Entry.{each_field}
use Rattle.tuples.specs.PlaceLaws.{from_first, each_miss, each_more, each_end}
use Rattle.wellformed.specs.Fields.{field_ok_at}
use Rattle.wellformed.proofs.fields_ok.Goals as goal

pub loop-f-init : goal.loop-f-init
loop-f-init c = let a = c.args in ap (each_field (field_ok_at a.count) 0) (sym (from_first a.tuples.now a.i most_fields))

pub returns-then-not-field_ok : goal.returns-then-not-field_ok
returns-then-not-field_ok c =
    let a = c.args in
    sym (c.loop-f.invariant ∙ each_miss (field_ok_at a.count) a.tuples.now a.i most_fields c.loop-f.f c.loop-f-test.true (sym c.field_ok.ensures ∙ c.if-not-field_ok.true))

pub loop-f-preserved : goal.loop-f-preserved
loop-f-preserved c =
    let a = c.args in
    c.loop-f.invariant ∙ each_more (field_ok_at a.count) a.tuples.now a.i most_fields c.loop-f.f c.loop-f-test.true (sym c.field_ok.ensures ∙ c.if-not-field_ok.false)

pub returns : goal.returns
returns c =
    let a = c.args in
    sym (c.loop-f.invariant ∙ each_end (field_ok_at a.count) a.tuples.now a.i most_fields c.loop-f.f c.loop-f-test.false)
