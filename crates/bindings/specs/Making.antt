-- The tuple that an out makes: its values, and its bytes one value after the other. Assumes nothing.
use Rattle.std.specs.Prelude.{◌≡◌, ◌⊎◌, Bool, true, length, drop, T, Some}
use Rattle.std.proofs.Math.Path.{refl, sym, ap}
use Rattle.std.proofs.Common.{subst, ◌∙◌, inl, inr}
use Prim.Native.Nat.{ℕ, zero, suc, ◌+◌, ◌<◌}
use Rattle.std.proofs.Math.Bool.{false}
use Rattle.std.proofs.Math.Option.{Option, none, some, map}
use mathlib.Core.List.{List, [], ◌∷◌, ◌++◌, append_assoc, append-nil}
use Rattle.std.proofs.Math.ListN.{length-append}
use Rattle.basis.specs.Choice.{maybe}
use Rattle.basis.specs.Sizes.{most_fields}
use Rattle.model.specs.Value.{Value, value, legal_value}
use Rattle.model.specs.Statement as Model
use Rattle.model.specs.Statement.{sum, difference}
use Rattle.model.specs.Matching.{Tuple, Bindings, value_of}
use Rattle.model.specs.Execution.{made, made_all}
use Rattle.values.specs.declared.Scalar.{Scalar}
use Rattle.values.specs.Meaning.{scalar_is, scalar_given}
use Rattle.sums.specs.Meaning.{sum_of}
use Rattle.statements.specs.declared.Field.{Field}
use Rattle.statements.specs.Flat.{field_of, field_is}
use Rattle.tuples.specs.Section.{entry_bytes}
use Rattle.tuples.specs.Entry.{begun, with_value}
use Rattle.tuples.specs.EntryLaws.{begun_more, begun_all}

-- ---- one field

-- a variable and a value that have sums: both are legal at the value's kind
abbrev pub Summable : Bindings → ℕ → Value → Type 0
Summable bs x v = T (legal_value (value v.kind (value_of bs x).bits)) × T (legal_value v)

-- what a field's value needs: of the forms 3 and 4 that the sum can be had
pub record CanMake (bs : Bindings) (f : Model.Field) : Type 0 where
  pub summed : (x : ℕ) (v : Value) → (f ≡ sum x v) ⊎ (f ≡ difference x v) → Summable bs x v

-- with the bits that the variable holds
module _ (bs : Bindings) (x : ℕ) (v : Value) (k n : ℕ) (held : value k n ≡ value_of bs x) where
  pub operands : Summable bs x v → T (legal_value (value v.kind n)) × T (legal_value v)
  operands h = (subst (λ (u : Value). T (legal_value (value v.kind u.bits))) (sym held) h.0, h.1)

  pub sum_given : (subtract : Bool) (u : Value) (s : Scalar) → some u ≡ sum_of subtract v.kind n v.bits → scalar_is s ≡ u → scalar_given (Some s) ≡ sum_of subtract v.kind (value_of bs x).bits v.bits
  sum_given subtract u s e p = rw p (e ∙ ap (λ (u : Value). sum_of subtract v.kind u.bits v.bits) held)

  pub sum_refused : (subtract : Bool) → none ≡ sum_of subtract v.kind n v.bits → none ≡ sum_of subtract v.kind (value_of bs x).bits v.bits
  sum_refused subtract e = e ∙ ap (λ (u : Value). sum_of subtract v.kind u.bits v.bits) held

module _ (bs : Bindings) (f : Field) where
  pub made_actual : f.form ≡ 0 → some (value f.kind f.bits) ≡ made bs (field_is f)
  unfolding field_is field_of made
  made_actual e = rw e

  pub made_reference : f.form ≡ 2 → (v : Value) → v ≡ value_of bs f.variable → some v ≡ made bs (field_is f)
  unfolding field_is field_of made
  made_reference e v h = rw (h, e)

  pub made_sum : f.form ≡ 3 → sum_of false f.kind (value_of bs f.variable).bits f.bits ≡ made bs (field_is f)
  unfolding field_is field_of made
  made_sum e = rw e

  pub made_difference : f.form ≡ 4 → sum_of true f.kind (value_of bs f.variable).bits f.bits ≡ made bs (field_is f)
  unfolding field_is field_of made
  made_difference e = rw e

  pub made_other : (f.form ≡ 0 → ⊥) → (f.form ≡ 2 → ⊥) → (f.form ≡ 3 → ⊥) → (f.form ≡ 4 → ⊥) → none ≡ made bs (field_is f)
  unfolding field_is field_of made
  made_other a b c d = go f.form refl a b c d
    where
      go : (n : ℕ) → f.form ≡ n → (n ≡ 0 → ⊥) → (n ≡ 2 → ⊥) → (n ≡ 3 → ⊥) → (n ≡ 4 → ⊥) → none ≡ made bs (field_is f)
      go zero e a b c d = absurd (a refl)
      go (suc zero) e a b c d = rw e
      go (suc (suc zero)) e a b c d = absurd (b refl)
      go (suc (suc (suc zero))) e a b c d = absurd (c refl)
      go (suc (suc (suc (suc zero)))) e a b c d = absurd (d refl)
      go (suc (suc (suc (suc (suc zero))))) e a b c d = rw e
      go (suc (suc (suc (suc (suc (suc n)))))) e a b c d = rw e

  -- what the forms 3 and 4 ask for
  pub can_sum : f.form ≡ 3 → CanMake bs (field_is f) → Summable bs f.variable (value f.kind f.bits)
  unfolding field_is field_of
  can_sum e h = h.summed f.variable (value f.kind f.bits) (inl (rw e))

  pub can_difference : f.form ≡ 4 → CanMake bs (field_is f) → Summable bs f.variable (value f.kind f.bits)
  unfolding field_is field_of
  can_difference e h = h.summed f.variable (value f.kind f.bits) (inr (rw e))

-- ---- the bytes

-- the tuple that an out makes, as its entry's bytes
abbrev pub tuple_of : ℕ → List Value → Tuple
tuple_of s vs = record { space = s; values = vs }

unfoldable pub made_bytes : Bindings → ℕ → List Model.Field → Option (List ℕ)
made_bytes bs s fs = map (λ vs. entry_bytes (tuple_of s vs)) (made_all bs fs)

-- j values are made, in the tuple's bytes, and the rest is to be made
pub record Making (bs : Bindings) (s : ℕ) (fs : List Model.Field) (n j : ℕ) (tuple : List ℕ) : Type 0 where
  pub front : List Value
  pub count : length front ≡ j
  pub bytes : tuple ≡ begun s n front
  pub rest : made_all bs fs ≡ maybe (made_all bs (drop j fs)) none (λ vs. some (front ++ vs))

rest_none : (o : Option (List Value)) → o ≡ maybe o none (λ vs. some ([] ++ vs))
rest_none none = refl
rest_none (some vs) = refl

rest_more : (front : List Value) (v : Value) (o : Option (List Value)) → maybe (maybe o none (λ vs. some (v ∷ vs))) none (λ vs. some (front ++ vs)) ≡ maybe o none (λ vs. some ((front ++ (v ∷ [])) ++ vs))
rest_more front v none = refl
rest_more front v (some vs) = ap (λ (l : List Value). some l) (sym (append_assoc front (v ∷ []) vs))

module _ (bs : Bindings) (s : ℕ) (fs : List Model.Field) (n : ℕ) where
  pub making_none : (tuple : List ℕ) → tuple ≡ begun s n [] → Making bs s fs n 0 tuple
  making_none tuple e = record { front = []; count = refl; bytes = e; rest = rest_none (made_all bs fs) }

  pub making_more : (j : ℕ) (tuple tuple' : List ℕ) (f : Model.Field) (x : Scalar) → Making bs s fs n j tuple → j < most_fields → drop j fs ≡ f ∷ drop (j + 1) fs
      → scalar_given (Some x) ≡ made bs f → tuple' ≡ with_value j (scalar_is x) tuple → Making bs s fs n (j + 1) tuple'
  unfolding made_all
  making_more j tuple tuple' f x m few d e q =
      let v : Value = scalar_is x in
      let gives : made bs f ≡ some v = sym e in
      record {
        front = m.front ++ (v ∷ []);
        count = length-append m.front (v ∷ []) ∙ ap (λ (i : ℕ). i + 1) m.count;
        bytes = begun_more s n m.front tuple tuple' j v m.bytes m.count few q;
        rest = m.rest ∙ rw (d, gives) (rest_more m.front v (made_all bs (drop (j + 1) fs)));
      }

  pub making_fails : (j : ℕ) (tuple : List ℕ) (f : Model.Field) → Making bs s fs n j tuple → drop j fs ≡ f ∷ drop (j + 1) fs → none ≡ made bs f → none ≡ made_bytes bs s fs
  unfolding made_bytes made_all
  making_fails j tuple f m d e =
      let gives : made bs f ≡ none = sym e in
      let all : made_all bs fs ≡ none = m.rest ∙ rw (d, gives) in
      rw all

  pub making_all : (tuple : List ℕ) → Making bs s fs n n tuple → drop n fs ≡ [] → some tuple ≡ made_bytes bs s fs
  unfolding made_bytes made_all
  making_all tuple m d =
      let all : made_all bs fs ≡ some m.front = m.rest ∙ rw (d, append-nil m.front) in
      let whole : tuple ≡ entry_bytes (tuple_of s m.front) = m.bytes ∙ ap (λ (k : ℕ). begun s k m.front) (sym m.count) ∙ begun_all s m.front in
      rw all (ap (λ (x : List ℕ). some x) whole)
