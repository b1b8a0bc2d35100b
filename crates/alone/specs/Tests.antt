-- The tests of an operation by itself, one after the other. Assumes nothing.
use Rattle.std.specs.Prelude as rust
use Rattle.std.specs.Prelude.{◌∷◌, None, Some, ◌⊎◌, ◌≡◌, refl, ℕ, zero, suc, ◌+◌, ◌≤◌, ◌<◌, Bool, true, false, ◌&&◌, ◌||◌, List, [], length, take, drop, replicate, leb, ltb, eqb}
use Rattle.std.proofs.Math.Path.{sym, ap}
use Rattle.std.specs.Ordering.{is_le, is_lt, nat_cmp}
use Rattle.std.proofs.lemmas.Bool.Decides.{nat_tests}
use Rattle.std.specs.List.{list_any}
use Rattle.std.proofs.Common.{inl, inr, true≢false, leb-true, leb-false, ltb-true, ltb-false, ◌∙◌, arith, lt-ltb, ne_eqb}
use Rattle.basis.specs.Choice.{is_some, provided}
use Rattle.basis.specs.Lists.{any}
use Rattle.basis.specs.Sizes.{variables}
use Rattle.model.specs.Statement as model
use Rattle.model.specs.Legal.{no_kinds, is_space, field_count, legal_fields, legal_lookup, template_forms}
use Rattle.model.specs.Meeting.{every_kind, refers}
use Rattle.statements.specs.Flat.{field_is, fields_are, operation_is}
use Rattle.statements.specs.declared.Field.{Field}
use Rattle.statements.specs.declared.Operation.{Operation}
use Rattle.fields.specs.Kinds.{kinds_are, bound_is}
use Rattle.fields.specs.Forms.{form_is, form_is_lem, allowed_by}
use Rattle.legality.specs.Judging.{Held, judged}
use Rattle.legality.specs.OperationLaws.{head_legal, fields_length}
use Rattle.alone.specs.Alone.{lookup_legal, sought_by, alone_true, alone_body, alone_lookup}

-- ---- code, space and field count, fields

code_tests : (code : ℕ) → (is_le (nat_cmp 1 code) && is_lt (nat_cmp code 5)) ≡ (leb 1 code && ltb code 5)
code_tests code =
    let a : is_le (nat_cmp 1 code) ≡ leb 1 code = grind (arith, nat_tests) in
    let b : is_lt (nat_cmp code 5) ≡ ltb code 5 = grind (arith, nat_tests) in
    rw (a, b)

-- a code from 1 to 4, as the code asks
pub code_in : (code : ℕ) (r : Bool) → r ≡ (is_le (nat_cmp 1 code) && is_lt (nat_cmp code 5)) → r ≡ true → (1 ≤ code) × (code < 5)
code_in code r e t = go (leb 1 code) (ltb code 5) refl refl (sym t ∙ e ∙ code_tests code)
  where
    go : (p q : Bool) → leb 1 code ≡ p → ltb code 5 ≡ q → true ≡ (p && q) → (1 ≤ code) × (code < 5)
    go true true l h e = (leb-true 1 code l, ltb-true code 5 h)
    go true false l h e = absurd (true≢false e)
    go false q l h e = absurd (true≢false e)

pub code_out : (code : ℕ) (r : Bool) → r ≡ (is_le (nat_cmp 1 code) && is_lt (nat_cmp code 5)) → r ≡ false → (code ≡ 0) ⊎ (5 ≤ code)
code_out code r e f = go (leb 1 code) (ltb code 5) refl refl (sym f ∙ e ∙ code_tests code)
  where
    go : (p q : Bool) → leb 1 code ≡ p → ltb code 5 ≡ q → false ≡ (p && q) → (code ≡ 0) ⊎ (5 ≤ code)
    go true true l h e = absurd (true≢false (sym e))
    go true false l h e = inr (ltb-false code 5 h)
    go false q l h e = let z : code < 1 = leb-false 1 code l in inl (omega arith)

some_provided : {A : Type 0} (t : Bool) (a : A) → is_some (provided t a) ≡ t
unfolding is_some provided
some_provided true a = refl
some_provided false a = refl

some_bound : (r : rust.Option Held) → rust.is_some r ≡ is_some (bound_is r)
unfolding is_some bound_is
some_bound None = refl
some_bound (Some ks) = refl

module _ (o : Operation) where
  abbrev handed : List model.Field
  handed = fields_are (take o.count o.fields)

  pub other_code : (o.code ≡ 0) ⊎ (5 ≤ o.code) → false ≡ lookup_legal (operation_is o)
  unfolding lookup_legal operation_is is_some
  other_code (inl e) = rw (alone_true o.code o.from o.to handed e)
  other_code (inr h) = rw (alone_body o.code o.from o.to handed h)

  module _ (n : 1 ≤ o.code) (h : o.code < 5) (room : o.count ≤ length o.fields) where
    legal_by : lookup_legal (operation_is o) ≡ legal_lookup every_kind no_kinds o.from handed
    unfolding lookup_legal operation_is
    legal_by = ap is_some (alone_lookup o.code o.from o.to handed (λ e. omega arith) h) ∙ some_provided (legal_lookup every_kind no_kinds o.from handed) (sought_by o)

    head_by : head_legal o.code o.from o.to o.count ≡ (is_space o.from && field_count 1 handed)
    unfolding head_legal field_count
    head_by = rw (lt-ltb o.code 6 (omega arith), fields_length o.count o.fields room)

    pub legal_head : head_legal o.code o.from o.to o.count ≡ false → false ≡ lookup_legal (operation_is o)
    legal_head e = sym (legal_by ∙ rw (sym head_by ∙ e))

    allowed : allowed_by o.code ≡ template_forms
    unfolding allowed_by
    allowed = rw (lt-ltb o.code 5 h)

    pub legal_fields_lem : (r : rust.Option Held) → head_legal o.code o.from o.to o.count ≡ true
        → bound_is r ≡ judged (allowed_by o.code) (kinds_are (replicate variables (Some 0))) (kinds_are (replicate variables None)) handed → rust.is_some r ≡ lookup_legal (operation_is o)
    unfolding judged kinds_are
    legal_fields_lem r e k =
        let q : is_some (bound_is r) ≡ legal_fields (allowed_by o.code) every_kind no_kinds handed = ap is_some k ∙ some_provided (legal_fields (allowed_by o.code) every_kind no_kinds handed) _ in
        some_bound r ∙ q ∙ sym (legal_by ∙ rw (sym head_by ∙ e, ← allowed))

-- ---- a form 2 among the fields

second_form : (form : ℕ) → eqb (form_is form) 2 ≡ eqb form 2
unfolding form_is
second_form zero = refl
second_form (suc zero) = refl
second_form (suc (suc zero)) = refl
second_form (suc (suc (suc zero))) = refl
second_form (suc (suc (suc (suc zero)))) = refl
second_form (suc (suc (suc (suc (suc zero))))) = refl
second_form (suc (suc (suc (suc (suc (suc n)))))) = sym (ne_eqb (suc (suc (suc (suc (suc (suc n)))))) 2 (λ e. omega arith))

-- what the code asks of each field
pub refers_told : (fs : List Field) → list_any (λ f. eqb f.form 2) fs ≡ refers (fields_are fs)
unfolding refers fields_are any field_is
refers_told [] = refl
refers_told (f ∷ fs) = rw (form_is_lem f.form f.kind f.variable f.bits f.highest, second_form f.form) (ap (λ (t : Bool). eqb f.form 2 || t) (refers_told fs))
