-- What the search for a match meets on its way: the conditions field by field, the search tuple by tuple. Assumes nothing.
use Rattle.std.specs.Prelude as code
use Rattle.std.specs.Prelude.{None, Some, Ok, Err, is_ok}
use Rattle.std.specs.Prelude.{◌≡◌, Bool, true, false, ◌&&◌, List, ◌∷◌, length, drop, get_or, eqb}
use Rattle.std.proofs.Math.Path.{refl, sym}
use Rattle.std.proofs.Common.{ap, subst, ◌∙◌, drop_of_length-le}
use Rattle.std.proofs.Math.Bool.{and-false}
use Rattle.std.proofs.Math.Option.{Option}
use Prim.Native.Nat.{ℕ, zero, suc, ◌+◌, ◌-◌, ◌≤◌, ◌<◌}
use native.Mathlib.Omega.{arith}
use Rattle.std.proofs.Math.Numerals.{add-one}
use Rattle.std.proofs.Math.Nat.{sub-zero}
use borrow.Author.Tests.{eq-eqb, ne_eqb, eqb-true, eqb-false}
use Rattle.basis.specs.Choice.{provided}
use Rattle.basis.specs.Lists.{Found, first_from, first}
use Rattle.basis.specs.Sizes.{most_fields}
use Rattle.model.specs.Value.{Value, range, is_within}
use Rattle.model.proofs.OrderLaws.{within_exactly}
use Rattle.model.specs.Matching.{Tuple, TemplateField, same_count, each_pair, same_kind, same_kinds, same_value, same_values, Mismatch, mismatch_number, first_mismatch, same_space, is_match}
use Rattle.sections.specs.Shapes.{items_length}
use Rattle.tuples.specs.Section.{tuple_shape, tuple_at, tuples_of}
use Rattle.tuples.specs.SectionLaws.{read_drop}
use Rattle.tuples.specs.Entry.{value_in, values_from}
use Rattle.tuples.specs.PlaceLaws.{values_of_lem, from_first, from_next}
use Rattle.matching.specs.declared.Template.{Template}
use Rattle.matching.specs.declared.Mismatch as answer
use Rattle.matching.specs.declared.Mismatch.TheVariants.{Count, Kinds, Values}
use Rattle.matching.specs.Meaning.{template_field_at, template_fields_from, template_is, mismatch_is, found_is}

-- field f of a template, and so many from f on
abbrev pub field_at : Template → ℕ → TemplateField
field_at t f = template_field_at t.kinds t.given t.lowest t.highest f

abbrev pub fields_from : Template → (f count : ℕ) → List TemplateField
fields_from t f n = template_fields_from t.kinds t.given t.lowest t.highest f n

-- ---- one pair of corresponding fields: field f of a template and a value

module _ (t : Template) (f : ℕ) (v : Value) where
  pub kind_other : (k : ℕ) → k ≡ v.kind → (k ≡ get_or t.kinds f 0 → ⊥) → same_kind (field_at t f) v ≡ false
  unfolding same_kind
  kind_other k is n = ne_eqb (get_or t.kinds f 0) v.kind (λ e. n (is ∙ sym e))

  pub kind_same : (k : ℕ) → k ≡ v.kind → k ≡ get_or t.kinds f 0 → same_kind (field_at t f) v ≡ true
  unfolding same_kind
  kind_same k is e = eq-eqb (get_or t.kinds f 0) v.kind (sym e ∙ is)

  pub value_any : get_or t.given f false ≡ false → same_value (field_at t f) v ≡ true
  unfolding same_value provided
  value_any g = rw g

  -- a range is given: its test
  pub value_ranged : (n : ℕ) → n ≡ v.bits → get_or t.given f false ≡ true → (r : Bool)
      → r ≡ is_within (get_or t.kinds f 0) (range (get_or t.lowest f 0) (get_or t.highest f 0)) n → same_value (field_at t f) v ≡ r
  unfolding same_value provided
  value_ranged n is g r e = rw (g, e, is)

  -- one of equal ends: the test of its bits
  module _ (n : ℕ) (is : n ≡ v.bits) (g : get_or t.given f false ≡ true) (one : get_or t.lowest f 0 ≡ get_or t.highest f 0) where
    value_exact : same_value (field_at t f) v ≡ eqb (get_or t.lowest f 0) n
    value_exact = value_ranged n is g (eqb (get_or t.lowest f 0) n) (rw (← one) (sym (within_exactly (get_or t.kinds f 0) (get_or t.lowest f 0) n)))

    pub value_other : (n ≡ get_or t.lowest f 0 → ⊥) → same_value (field_at t f) v ≡ false
    value_other d = value_exact ∙ ne_eqb (get_or t.lowest f 0) n (λ e. d (sym e))

    pub value_same : n ≡ get_or t.lowest f 0 → same_value (field_at t f) v ≡ true
    value_same e = value_exact ∙ eq-eqb (get_or t.lowest f 0) n (sym e)

-- ---- the pairs from field f on, of n

-- a test of each
unfoldable pub pairs_from : (TemplateField → Value → Bool) → Template → (tuples : List ℕ) (i n f : ℕ) → Bool
pairs_from test t p i n f = each_pair test (fields_from t f (n - f)) (values_from p i n f)

module _ (test : TemplateField → Value → Bool) (t : Template) (p : List ℕ) (i n f : ℕ) where
  pairs_step : f < n → pairs_from test t p i n f ≡ (test (field_at t f) (value_in p i f) && pairs_from test t p i n (f + 1))
  unfolding pairs_from template_fields_from each_pair
  pairs_step h =
      let e : n - f ≡ suc (n - (f + 1)) = omega arith in
      let fields : fields_from t f (n - f) ≡ field_at t f ∷ fields_from t (f + 1) (n - (f + 1)) = rw (e, add-one f) in
      rw (fields, from_next p i n f h)

  -- one that fails
  pub pairs_miss : f < n → test (field_at t f) (value_in p i f) ≡ false → pairs_from test t p i n f ≡ false
  pairs_miss h e = pairs_step h ∙ rw e

  -- one that passes
  pub pairs_more : f < n → test (field_at t f) (value_in p i f) ≡ true → pairs_from test t p i n f ≡ pairs_from test t p i n (f + 1)
  pairs_more h e = pairs_step h ∙ rw e

  -- the end
  pub pairs_end : n ≤ f → pairs_from test t p i n f ≡ true
  unfolding pairs_from template_fields_from each_pair
  pairs_end h = let e : n - f ≡ 0 = omega arith in rw e

-- one that fails makes all fail
pub pairs_false : (test : TemplateField → Value → Bool) (t : Template) (p : List ℕ) (i n f d j : ℕ) → f ≡ j + d → f < n → test (field_at t f) (value_in p i f) ≡ false → pairs_from test t p i n j ≡ false
pairs_false test t p i n f zero j q h e = let same : f ≡ j = omega arith in pairs_miss test t p i n j (omega arith) (subst (λ k. test (field_at t k) (value_in p i k) ≡ false) same e)
pairs_false test t p i n f (suc d) j q h e =
    pairs_step test t p i n j (omega arith) ∙ rw (pairs_false test t p i n f d (j + 1) (omega arith) h e) (and-false (test (field_at t j) (value_in p i j)))

-- ---- one tuple

pub template_length : (t : Template) (f n : ℕ) → length (fields_from t f n) ≡ n
unfolding template_fields_from
template_length t f zero = refl
template_length t f (suc n) = ap suc (template_length t (suc f) n)

-- c: the number of values of the tuple at index i
module _ (t : Template) (p : List ℕ) (i c : ℕ) (has : c ≡ length (tuple_at p i).values) where
  abbrev pairs : (TemplateField → Value → Bool) → Bool
  pairs test = pairs_from test t p i t.count 0

  pub count_told : (c ≡ t.count → ⊥) → mismatch_is (Err Count) ≡ first_mismatch (template_is t) (tuple_at p i)
  unfolding mismatch_is first_mismatch same_count
  count_told d = rw (← has, template_length t 0 t.count, ne_eqb c t.count d)

  module _ (e : c ≡ t.count) (few : t.count ≤ most_fields) where
    same_count_lem : same_count (template_is t) (tuple_at p i) ≡ true
    unfolding same_count
    same_count_lem = rw (← has, template_length t 0 t.count) (eq-eqb c t.count e)

    all_pairs : (test : TemplateField → Value → Bool) → each_pair test (fields_from t 0 t.count) (tuple_at p i).values ≡ pairs test
    unfolding pairs_from
    all_pairs test = rw (values_of_lem p i t.count (sym has ∙ e) few, ← from_first p i t.count, sub-zero t.count)

    pub kinds_told : pairs same_kind ≡ false → mismatch_is (Err Kinds) ≡ first_mismatch (template_is t) (tuple_at p i)
    unfolding mismatch_is first_mismatch same_kinds
    kinds_told k = rw (same_count_lem, all_pairs same_kind, k)

    pub values_told : pairs same_kind ≡ true → pairs same_value ≡ false → mismatch_is (Err Values) ≡ first_mismatch (template_is t) (tuple_at p i)
    unfolding mismatch_is first_mismatch same_kinds same_values
    values_told k v = rw (same_count_lem, all_pairs same_kind, k, all_pairs same_value, v)

    pub none_told : pairs same_kind ≡ true → pairs same_value ≡ true → mismatch_is (Ok tt) ≡ first_mismatch (template_is t) (tuple_at p i)
    unfolding mismatch_is first_mismatch same_kinds same_values
    none_told k v = rw (same_count_lem, all_pairs same_kind, k, all_pairs same_value, v)

-- ---- no match

told_none : (t : Template) (u : Tuple) (m : Mismatch) → m ≡ first_mismatch (template_is t) u → eqb (mismatch_number m) 0 ≡ false → is_match (template_is t) u ≡ false
unfolding is_match
told_none t u m e z = rw (← e, z) (and-false (same_space (template_is t) u))

-- a value fails, so that the tuple is none, whatever its number of values
pub value_differs : (t : Template) (p : List ℕ) (i f : ℕ) → t.count ≤ most_fields → f < t.count → same_value (field_at t f) (value_in p i f) ≡ false → is_match (template_is t) (tuple_at p i) ≡ false
unfolding mismatch_is mismatch_number
value_differs t p i f few h e = by (eqb c t.count) refl
  where
    c : ℕ
    c = length (tuple_at p i).values

    all : pairs_from same_value t p i t.count 0 ≡ false
    all = pairs_false same_value t p i t.count f f 0 (omega arith) h e

    kinds : c ≡ t.count → (k : Bool) → pairs_from same_kind t p i t.count 0 ≡ k → is_match (template_is t) (tuple_at p i) ≡ false
    kinds q true k = told_none t (tuple_at p i) (mismatch_is (Err Values)) (values_told t p i c refl q few k all) refl
    kinds q false k = told_none t (tuple_at p i) (mismatch_is (Err Kinds)) (kinds_told t p i c refl q few k) refl

    by : (b : Bool) → eqb c t.count ≡ b → is_match (template_is t) (tuple_at p i) ≡ false
    by true q = kinds (eqb-true c t.count q) (pairs_from same_kind t p i t.count 0) refl
    by false q = told_none t (tuple_at p i) (mismatch_is (Err Count)) (count_told t p i c refl (eqb-false c t.count q)) refl

-- ---- a match

-- an answer of the code that names no condition
pub told_ok : (r : code.Result (Unit {0}) answer.Mismatch) → is_ok r ≡ eqb (mismatch_number (mismatch_is r)) 0
unfolding mismatch_is mismatch_number
told_ok (Ok u) = refl
told_ok (Err Count) = refl
told_ok (Err Kinds) = refl
told_ok (Err Values) = refl

module _ (t : Template) (u : Tuple) (s : ℕ) (of : s ≡ u.space) where
  pub match_space : (s ≡ t.space → ⊥) → false ≡ is_match (template_is t) u
  unfolding is_match same_space
  match_space d = rw (ne_eqb u.space t.space (λ e. d (of ∙ e)))

  pub match_told : s ≡ t.space → (m : Mismatch) → m ≡ first_mismatch (template_is t) u → eqb (mismatch_number m) 0 ≡ is_match (template_is t) u
  unfolding is_match same_space
  match_told e m q = rw (q, eq-eqb u.space t.space (sym of ∙ e))

-- ---- the search

module _ (q : Tuple → Bool) (p : List ℕ) (n : ℕ) where
  -- what is found from index i on
  unfoldable pub searched : ℕ → Option (Found Tuple)
  searched i = first_from q i (drop i (tuples_of p n))

  pub search_all : first q (tuples_of p n) ≡ searched 0
  unfolding first searched
  search_all = refl

  pub search_miss : (i : ℕ) → i < n → q (tuple_at p i) ≡ false → searched i ≡ searched (i + 1)
  unfolding searched first_from
  search_miss i h e = rw (read_drop p n i h, e, add-one i)

  pub search_hit : (i : ℕ) → i < n → q (tuple_at p i) ≡ true → found_is p (Some i) ≡ searched i
  unfolding searched first_from found_is
  search_hit i h e = rw (read_drop p n i h, e)

  pub search_end : (i : ℕ) → n ≤ i → found_is p None ≡ searched i
  unfolding searched first_from found_is
  search_end i h = rw (drop_of_length-le (tuples_of p n) {i = i} (omega (arith, items_length tuple_shape p n)))
