-- The tests of an addition's parts, one after the other. Assumes nothing.
use Rattle.std.specs.Prelude.{◌≡◌, Bool, true, false, ◌&&◌, ◌||◌, List, [], ◌∷◌, ℕ, zero, suc, ◌≤◌, ◌<◌, length, take, get_or, eqb, ltb}
use Rattle.std.proofs.Common.{◌∙◌, arith, ltb→lt}
use Rattle.std.proofs.Math.Option.{some}
use Rattle.std.proofs.Math.Dec.{T, leb, le→leb, lt→ltb}
use borrow.Author.Tests.{eq-eqb, ne_eqb, lt-ltb, le-ltb, le-leb, lt-leb}
use Rattle.basis.specs.Logic.{and_l, and_r, both, or_r, is_true}
use Rattle.basis.specs.Choice.{provided}
use Rattle.basis.specs.Lists.{all}
use Rattle.basis.specs.Sizes.{most_fields}
use Rattle.statements.specs.declared.Field.{Field}
use Rattle.statements.specs.declared.Operation.{Operation}
use Rattle.statements.specs.Flat.{codes, forms, has_form, operation_is}
use Rattle.writer.specs.Writer.{true_code, is_handed, handed}

-- ---- the forms of fields

-- each has one of the seven
pub forms_at : (fields : List Field) (i : ℕ) (d : Field) → T (all has_form fields) → i < length fields → (get_or fields i d).form < forms
unfolding all has_form
forms_at [] i d t h = absurd (omega arith)
forms_at (x ∷ fields) zero d t h = ltb→lt x.form forms (and_l (has_form x) (all has_form fields) t)
forms_at (x ∷ fields) (suc i) d t h = forms_at fields i d (and_r (has_form x) (all has_form fields) t) (omega arith)

-- ---- code, field count, forms

module _ (o : Operation) where
  pub handed_true : o.code ≡ true_code → true ≡ is_handed o
  unfolding is_handed
  handed_true z = rw (eq-eqb o.code true_code z)

  pub handed_code : (o.code ≡ true_code → ⊥) → codes ≤ o.code → false ≡ is_handed o
  unfolding is_handed
  handed_code n h = rw (ne_eqb o.code true_code n, le-ltb o.code codes h)

  pub handed_many : (o.code ≡ true_code → ⊥) → o.code < codes → most_fields < o.count → false ≡ is_handed o
  unfolding is_handed
  handed_many n h m = rw (ne_eqb o.code true_code n, lt-ltb o.code codes h, lt-leb o.count most_fields m)

  pub handed_forms : (r : Bool) → (o.code ≡ true_code → ⊥) → o.code < codes → o.count ≤ most_fields → r ≡ all has_form (take o.count o.fields) → r ≡ is_handed o
  unfolding is_handed
  handed_forms r n h m e = e ∙ rw (ne_eqb o.code true_code n, lt-ltb o.code codes h, le-leb o.count most_fields m)

  -- parts of one of the eight codes, with at most six fields of the seven forms, are an operation
  pub parts_handed : o.code < codes → o.count ≤ most_fields → T (all has_form (take o.count o.fields)) → handed o ≡ some (operation_is o)
  unfolding handed is_handed provided
  parts_handed h m t =
      let u : T (ltb o.code codes) = lt→ltb o.code codes h in
      let v : T (leb o.count most_fields) = le→leb o.count most_fields m in
      let k : T (ltb o.code codes && leb o.count most_fields && all has_form (take o.count o.fields)) = search (both, u, v, t) depth 12 in
      rw (is_true (eqb o.code true_code || (ltb o.code codes && leb o.count most_fields && all has_form (take o.count o.fields))) (or_r (eqb o.code true_code) (ltb o.code codes && leb o.count most_fields && all has_form (take o.count o.fields)) k))
