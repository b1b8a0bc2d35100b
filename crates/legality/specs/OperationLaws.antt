-- An operation after the kinds that earlier ones bound: its spaces and field count, then its fields. Assumes nothing.
use Rattle.std.specs.Prelude as rust
use Rattle.std.specs.Prelude.{None, Some, ◌≡◌, refl, ℕ, zero, suc, ◌≤◌, ◌<◌, Bool, true, false, ◌&&◌, cond, List, [], ◌∷◌, length, take, leb, ltb}
use Rattle.std.proofs.Common.{sym, ◌∙◌, arith, length-take-le, lt-ltb, le-ltb, le-leb, ne_eqb}
use Rattle.std.proofs.Math.Option.{Option, none}
use Rattle.std.proofs.lemmas.List.{length-map}
use Rattle.basis.specs.Choice.{provided}
use Rattle.basis.specs.Sizes.{most_fields, space_numbers}
use Rattle.model.specs.Statement as model
use Rattle.model.specs.Legal.{Kinds, bind_kinds, legal_fields, fields_of, is_space, field_count, legal_operation, template_forms}
use Rattle.statements.specs.Flat.{field_is, fields_are, operation_of, operation_is}
use Rattle.statements.specs.declared.Operation.{Operation}
use Rattle.statements.specs.declared.Field.{Field}
use Rattle.fields.specs.Kinds.{kinds_are, bound_is}
use Rattle.fields.specs.Forms.{allowed_by}
use Rattle.legality.specs.Judging.{Held, judged}

-- the spaces and the field count of an operation of a code above 0
unfoldable pub head_legal : (code from to count : ℕ) → Bool
head_legal code from to n = cond (ltb code 6) (is_space from && (leb 1 n && leb n most_fields)) (is_space from && is_space to && (leb 0 n && leb n most_fields))

-- the kinds after an operation
unfoldable pub operation_step : Kinds → model.Operation → Option Kinds
operation_step ks o = provided (legal_operation ks o) (bind_kinds ks (fields_of o))

abbrev pub decided : Bool → Option Kinds → Option Kinds
decided ok o = cond ok o none

-- an operation of a code above 0: spaces and field count, then the fields
pub operation_step_lem : (ks : Kinds) (code from to : ℕ) (fs : List model.Field) → 0 < code
    → operation_step ks (operation_of code from to fs) ≡ decided (head_legal code from to (length fs)) (judged (allowed_by code) ks ks fs)
unfolding operation_step judged head_legal allowed_by legal_operation operation_of fields_of field_count provided
operation_step_lem ks code from to fs h = by code h
  where
    split : (a : Bool) (allowed : List ℕ) → provided (a && legal_fields allowed ks ks fs) (bind_kinds ks fs) ≡ decided a (provided (legal_fields allowed ks ks fs) (bind_kinds ks fs))
    split true allowed = refl
    split false allowed = refl

    by : (code : ℕ) → 0 < code → operation_step ks (operation_of code from to fs) ≡ decided (head_legal code from to (length fs)) (judged (allowed_by code) ks ks fs)
    by zero h = absurd (omega arith)
    by (suc zero) h = split (is_space from && field_count 1 fs) template_forms
    by (suc (suc zero)) h = split (is_space from && field_count 1 fs) template_forms
    by (suc (suc (suc zero))) h = split (is_space from && field_count 1 fs) template_forms
    by (suc (suc (suc (suc zero)))) h = split (is_space from && field_count 1 fs) template_forms
    by (suc (suc (suc (suc (suc zero))))) h = split (is_space from && field_count 1 fs) (0 ∷ 2 ∷ 3 ∷ 4 ∷ [])
    by (suc (suc (suc (suc (suc (suc zero)))))) h = split (is_space from && is_space to && field_count 0 fs) (0 ∷ 2 ∷ 5 ∷ [])
    by (suc (suc (suc (suc (suc (suc (suc n))))))) h =
        rw (le-ltb (suc (suc (suc (suc (suc (suc (suc n))))))) 6 (omega arith), le-ltb (suc (suc (suc (suc (suc (suc (suc n))))))) 5 (omega arith), ne_eqb (suc (suc (suc (suc (suc (suc (suc n))))))) 5 (λ e. omega arith))
        (split (is_space from && is_space to && field_count 0 fs) (0 ∷ 2 ∷ 5 ∷ []))

and-true : (a : Bool) → a ≡ (a && true)
and-true true = refl
and-true false = refl

pub head_lookup : (code from to n : ℕ) → from < space_numbers → code < 6 → n ≤ most_fields → ltb 0 n ≡ head_legal code from to n
unfolding head_legal is_space
head_lookup code from to n f c h = rw (lt-ltb from space_numbers f, lt-ltb code 6 c, le-leb n most_fields h) (and-true (leb 1 n))

pub head_transfer : (code from to n : ℕ) → from < space_numbers → to < space_numbers → 6 ≤ code → n ≤ most_fields → true ≡ head_legal code from to n
unfolding head_legal is_space
head_transfer code from to n f t c h = rw (lt-ltb from space_numbers f, lt-ltb to space_numbers t, le-ltb code 6 c, le-leb 0 n (omega arith), le-leb n most_fields h)

-- the fields handed in are as many as counted
pub fields_length : (count : ℕ) (fields : List Field) → count ≤ length fields → length (fields_are (take count fields)) ≡ count
unfolding fields_are
fields_length count fields l = length-map (take count fields) field_is ∙ length-take-le count fields l

-- ---- an operation as a struct

pub step_always : (kinds : Held) (o : Operation) → o.code ≡ 0 → bound_is (Some kinds) ≡ operation_step (kinds_are kinds) (operation_is o)
unfolding bound_is operation_step operation_is operation_of legal_operation fields_of bind_kinds provided
step_always kinds o e = rw e

module _ (kinds : Held) (o : Operation) (c : o.code ≡ 0 → ⊥) (l : o.count ≤ length o.fields) where
  step_lem : operation_step (kinds_are kinds) (operation_is o) ≡ decided (head_legal o.code o.from o.to o.count) (judged (allowed_by o.code) (kinds_are kinds) (kinds_are kinds) (fields_are (take o.count o.fields)))
  unfolding operation_is
  step_lem = operation_step_lem (kinds_are kinds) o.code o.from o.to (fields_are (take o.count o.fields)) (omega (arith, c)) ∙ rw (fields_length o.count o.fields l)

  pub step_refused : head_legal o.code o.from o.to o.count ≡ false → bound_is None ≡ operation_step (kinds_are kinds) (operation_is o)
  unfolding bound_is
  step_refused e = sym (step_lem ∙ rw e)

  pub step_fields : (r : rust.Option Held) → head_legal o.code o.from o.to o.count ≡ true → bound_is r ≡ judged (allowed_by o.code) (kinds_are kinds) (kinds_are kinds) (fields_are (take o.count o.fields))
      → bound_is r ≡ operation_step (kinds_are kinds) (operation_is o)
  step_fields r e k = k ∙ sym (step_lem ∙ rw e)
