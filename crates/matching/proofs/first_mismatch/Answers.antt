-- `matching::first_mismatch` meets its contract. Assumes nothing.
use Rattle.std.specs.Prelude.{Ok, Err}
use Prim.Native.Nat.{◌≤◌, ◌<◌}
use native.Mathlib.Omega.{arith}
use mathlib.Core.Path.{◌≡◌, refl, ◌∙◌}
use mathlib.Core.Bool.{true, false}
use Rattle.model.specs.Matching.{same_kind, same_value, first_mismatch}
use Rattle.tuples.specs.Section.{tuple_at}
use Rattle.tuples.specs.Entry.{value_in}
use Rattle.matching.specs.declared.Mismatch.TheVariants.{Values}
use Rattle.matching.specs.Meaning.{template_is, mismatch_is}
use Rattle.matching.specs.SearchLaws.{field_at, pairs_from, pairs_miss, pairs_more, pairs_end, kind_other, kind_same, value_any, value_ranged, value_other, value_same, count_told, kinds_told, values_told, none_told}
use Rattle.matching.proofs.first_mismatch.Goals as goal
use Rattle.matching.proofs.first_mismatch.Goals.{At-values, Else-f-template, Else-k-template, Left-kinds, then-template-f+then-lowest-highest+else-n-lowest, then-template-f+else-lowest-highest+else-not-is_within, else-template-f}

pub returns-then-field_count-template : goal.returns-then-field_count-template
returns-then-field_count-template c =
    let a = c.args in
    count_told a.template a.tuples.now a.i _ c.field_count.ensures (λ e. omega (arith, c.if-field_count-template.true))

-- ---- the kinds
pub kinds-init : goal.kinds-init
kinds-init c = (refl, omega arith)

-- a turn is one of the template's fields
module _ (c : Else-k-template) where
  one_of : c.kinds.k < c.args.template.count
  one_of = omega (arith, c.kinds.invariant.1, c.if-k-template.false)

pub returns-then-kind-template : goal.returns-then-kind-template
returns-then-kind-template c =
    let a = c.args in
    kinds_told a.template a.tuples.now a.i _ c.field_count.ensures c.if-field_count-template.false c.requires.1
    (c.kinds.invariant.0 ∙ pairs_miss same_kind a.template a.tuples.now a.i a.template.count c.kinds.k (one_of (goal.at.returns-then-kind-template c).Else-k-template) (kind_other a.template c.kinds.k _ _ c.kind.ensures c.if-kind-template.true))

pub kinds-preserved : goal.kinds-preserved
kinds-preserved c =
    let a = c.args in (
      c.kinds.invariant.0
          ∙ pairs_more same_kind a.template a.tuples.now a.i a.template.count c.kinds.k (one_of (goal.at.kinds-preserved c).Else-k-template) (kind_same a.template c.kinds.k (value_in a.tuples.now a.i c.kinds.k) _ c.kind.ensures c.if-kind-template.false),
      omega (arith, one_of (goal.at.kinds-preserved c).Else-k-template),
    )

-- ---- the values
pub values-init : goal.values-init
values-init c = (refl, omega arith)

-- after the first loop all kinds agree
module _ (c : Left-kinds) where
  no_more : c.args.template.count ≤ c.kinds.k
  no_more = omega arith

  all_kinds : pairs_from same_kind c.args.template c.args.tuples.now c.args.i c.args.template.count 0 ≡ true
  all_kinds = c.kinds.invariant.0 ∙ pairs_end same_kind c.args.template c.args.tuples.now c.args.i c.args.template.count c.kinds.k no_more

-- a turn of the second one
module _ (c : Else-f-template) where
  one-of-values : c.values.f < c.args.template.count
  one-of-values = omega (arith, c.values.invariant.1, c.if-f-template.false)

  -- the value of this field fails
  value-fails : pairs_from same_kind c.args.template c.args.tuples.now c.args.i c.args.template.count 0 ≡ true
      → same_value (field_at c.args.template c.values.f) (value_in c.args.tuples.now c.args.i c.values.f) ≡ false
      → mismatch_is (Err Values) ≡ first_mismatch (template_is c.args.template) (tuple_at c.args.tuples.now c.args.i)
  value-fails k e =
      let a = c.args in
      values_told a.template a.tuples.now a.i _ c.field_count.ensures c.if-field_count-template.false c.requires.1 k
      (c.values.invariant.0 ∙ pairs_miss same_value a.template a.tuples.now a.i a.template.count c.values.f one-of-values e)

-- after the second one nothing fails
module _ (c : At-values) where
  none_fails : pairs_from same_kind c.args.template c.args.tuples.now c.args.i c.args.template.count 0 ≡ true
      → c.args.template.count ≤ c.values.f
      → mismatch_is (Ok tt) ≡ first_mismatch (template_is c.args.template) (tuple_at c.args.tuples.now c.args.i)
  none_fails k h =
      let a = c.args in
      none_told a.template a.tuples.now a.i _ c.field_count.ensures c.if-field_count-template.false c.requires.1 k
      (c.values.invariant.0 ∙ pairs_end same_value a.template a.tuples.now a.i a.template.count c.values.f h)

pub returns-then-n-lowest : goal.returns-then-n-lowest
returns-then-n-lowest c =
    let a = c.args in
    value-fails (goal.at.returns-then-n-lowest c).Else-f-template (all_kinds (goal.at.returns-then-n-lowest c).Left-kinds) (value_other a.template c.values.f (value_in a.tuples.now a.i c.values.f) _ c.bits-n.ensures c.if-template-f.true c.if-lowest-highest.true c.if-n-lowest.true)

pub returns-then-not-is_within : goal.returns-then-not-is_within
returns-then-not-is_within c =
    let a = c.args in
    value-fails (goal.at.returns-then-not-is_within c).Else-f-template (all_kinds (goal.at.returns-then-not-is_within c).Left-kinds)
    (value_ranged a.template c.values.f (value_in a.tuples.now a.i c.values.f) _ c.bits-n.ensures c.if-template-f.true _ c.is_within.ensures ∙ c.if-not-is_within.true)

pub values-preserved : goal.values-preserved
values-preserved c =
    let a = c.args in
    let v = value_in a.tuples.now a.i c.values.f in (
      c.values.invariant.0
          ∙ pairs_more same_value a.template a.tuples.now a.i a.template.count c.values.f (one-of-values (goal.at.values-preserved c).Else-f-template)
          (elim c.if-template-f.branch [
            | then-template-f+then-lowest-highest+else-n-lowest w ↦
                value_same a.template c.values.f v _ w.bits-n.ensures w.if-template-f.true w.if-lowest-highest.true w.if-n-lowest.false
            | then-template-f+else-lowest-highest+else-not-is_within w ↦
                value_ranged a.template c.values.f v _ w.bits-n.ensures w.if-template-f.true _ w.is_within.ensures ∙ w.if-not-is_within.false
            | else-template-f w ↦ value_any a.template c.values.f v w.if-template-f.false
          ]),
      omega (arith, one-of-values (goal.at.values-preserved c).Else-f-template),
    )

pub returns-after-values : goal.returns-after-values
returns-after-values c = none_fails (goal.at.returns-after-values c).At-values (all_kinds (goal.at.returns-after-values c).Left-kinds) (omega (arith, c.values-test.false, c.requires.1))

pub returns-then-f-template : goal.returns-then-f-template
returns-then-f-template c = none_fails (goal.at.returns-then-f-template c).At-values (all_kinds (goal.at.returns-then-f-template c).Left-kinds) (omega (arith, c.if-f-template.true))
