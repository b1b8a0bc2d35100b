-- Form 6 "matches a value from lowest to highest, both included, and binds it". Assumes nothing.
use Rattle.std.specs.Prelude.{◌≡◌, refl, ℕ, zero, suc, ◌<◌, List, [], ◌∷◌, ◌++◌, length, get_or, T}
use Rattle.std.proofs.Common.{sym, ap, ◌∙◌, arith, inr, length-append}
use Rattle.std.proofs.Math.Option.{none, some}
use Rattle.std.proofs.lemmas.List.{map-append}
use Rattle.basis.specs.IndexLaws.{At, at_seam}
use Rattle.model.specs.Value.{Value, value, Range, exactly}
use Rattle.model.specs.Statement.{Field, actual, ranged}
use Rattle.model.specs.Matching.{Tuple, Bindings, TemplateField, template_field, is_match, matches, bind}
use Rattle.model.proofs.BinderLaws.{BoundIn}
use Rattle.model.proofs.MatchingLaws.{Within, matches_iff, bind_formal}

-- with equal ends it matches exactly what form 0 of that value does
pub range_exact : (bs : Bindings) (s : ℕ) (front back : List Field) (k n x : ℕ) (τ : Tuple) → matches bs s (front ++ (ranged k (exactly n) x ∷ back)) τ ≡ matches bs s (front ++ (actual (value k n) ∷ back)) τ
unfolding template_field
range_exact bs s front back k n x τ =
    ap (λ (l : List TemplateField). is_match (record { space = s; fields = l }) τ)
    (map-append (template_field bs) front (ranged k (exactly n) x ∷ back) ∙ sym (map-append (template_field bs) front (actual (value k n) ∷ back)))

-- the value in its place is of its kind, "from lowest to highest, both included"
pub range_within : (bs : Bindings) (s : ℕ) (fs : List Field) (τ : Tuple) (i k : ℕ) (r : Range) (x : ℕ) (v : Value) → T (matches bs s fs τ) → At fs i (ranged k r x) → At τ.values i v
    → (v.kind ≡ k) × Within k r v.bits
range_within bs s fs τ i k r x v t a b = let q = ((matches_iff bs s fs τ).0 t).agree i (ranged k r x) v a b in (sym q.0, q.1)

-- values cut at the one of an index
record Cut (n : ℕ) (vs : List Value) : Type 0 where
  front : List Value
  value : Value
  back : List Value
  whole : vs ≡ front ++ (value ∷ back)
  place : length front ≡ n

cut : (n : ℕ) (vs : List Value) → n < length vs → Cut n vs
cut n [] h = absurd (omega arith)
cut zero (v ∷ vs) h = record { front = []; value = v; back = vs; whole = refl; place = refl }
cut (suc n) (v ∷ vs) h =
    let r = cut n vs (omega arith) in
    record { front = v ∷ r.front; value = r.value; back = r.back; whole = ap (λ (l : List Value). v ∷ l) r.whole; place = ap suc r.place }

-- The variable then has the value found, which lies in the range, where no later field binds it again
pub bound_within : (bs : Bindings) (s : ℕ) (front back : List Field) (k : ℕ) (r : Range) (x : ℕ) (τ : Tuple) → T (matches bs s (front ++ (ranged k r x ∷ back)) τ) → x < length bs → ((j : ℕ) → ¬ BoundIn j x back)
    → (v : Value) × At τ.values (length front) v × (get_or (bind bs (front ++ (ranged k r x ∷ back)) τ.values) x none ≡ some v) × (v.kind ≡ k) × Within k r v.bits
bound_within bs s front back k r x τ t h n =
    let fs = front ++ (ranged k r x ∷ back) in
    let count : length τ.values ≡ length fs = ((matches_iff bs s fs τ).0 t).count in
    go (cut (length front) τ.values (omega (arith, count, length-append front (ranged k r x ∷ back))))
  where
    go : Cut (length front) τ.values
        → (v : Value) × At τ.values (length front) v × (get_or (bind bs (front ++ (ranged k r x ∷ back)) τ.values) x none ≡ some v) × (v.kind ≡ k) × Within k r v.bits
    go c =
        let v = c.value in
        let there : At τ.values (length front) v = rw (c.whole, ← c.place) (at_seam c.front v c.back) in
        let w = range_within bs s (front ++ (ranged k r x ∷ back)) τ (length front) k r x v t (at_seam front (ranged k r x) back) there in
        (v, there, rw c.whole (bind_formal bs front back (ranged k r x) k x c.front v c.back (inr (r, refl)) h c.place n), w.0, w.1)
