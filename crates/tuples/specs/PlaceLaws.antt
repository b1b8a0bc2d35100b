-- The parts of an entry stand at their places: space, field count, values. A test of the values, one by one. Assumes nothing.
use Rattle.std.specs.Prelude.{◌≡◌, refl, Bool, true, false, ◌&&◌, List, [], ◌∷◌, map, length, take, drop, get_or}
use Rattle.std.proofs.Common.{sym, ap, ap₂, ◌∙◌, zero-mul, add-zero, take-take, drop-drop, get_or-take, get_or-drop}
use Prim.Native.Nat.{ℕ, zero, suc, ◌+◌, ◌-◌, ◌*◌, ◌≤◌, ◌<◌}
use native.Mathlib.Omega.{arith}
use Rattle.std.proofs.Math.Numerals.{add-one}
use Rattle.std.proofs.Math.Nat.{sub-zero}
use Rattle.std.proofs.lemmas.List.{length-map}
use Rattle.basis.specs.Lists.{pieces}
use Rattle.basis.specs.Numbers.{number_at}
use Rattle.basis.specs.Sizes.{space_width, bits_width, most_fields, value_bits_at, value_size, field_count_at, tuple_values_at, tuple_size}
use Rattle.model.specs.Value.{Value, value}
use Rattle.layout.specs.States.{byte_at, value_read, tuple_read}
use Rattle.words.specs.OverLaws.{drop_take}
use Rattle.sections.specs.RowLaws.{pieces_length, number_in_lem}
use Rattle.tuples.specs.Section.{entry_at, tuple_at}
use Rattle.tuples.specs.Entry.{value_at, values_at, values_place, value_in, values_in, values_from, each_field}

-- ---- the parts

pub space_at_lem : (p : List ℕ) (i : ℕ) → number_at (i * tuple_size) space_width p ≡ (tuple_at p i).space
unfolding tuple_at tuple_read entry_at
space_at_lem p i = ap (λ (k : ℕ). number_at k space_width p) (sym (add-zero (i * tuple_size))) ∙ sym (number_in_lem (i * tuple_size) tuple_size 0 space_width p (omega arith))

-- a byte of an entry
entry_byte : (p : List ℕ) (i k : ℕ) → k < tuple_size → get_or (entry_at p i) k 0 ≡ get_or p (i * tuple_size + k) 0
unfolding entry_at
entry_byte p i k h = get_or-take tuple_size (drop (i * tuple_size) p) k 0 h ∙ get_or-drop (i * tuple_size) p k 0

pub count_at_lem : (p : List ℕ) (i : ℕ) → get_or p (i * tuple_size + field_count_at) 0 ≡ length (tuple_at p i).values
unfolding tuple_at tuple_read byte_at
count_at_lem p i =
    let b : List ℕ = entry_at p i in
    let vs : List (List ℕ) = pieces (get_or b field_count_at 0) value_size (drop tuple_values_at b) in
    sym (length-map vs value_read ∙ pieces_length (get_or b field_count_at 0) value_size (drop tuple_values_at b) ∙ entry_byte p i field_count_at (omega arith))

value_at_lem : (p : List ℕ) (at : ℕ) → value_read (take value_size (drop at p)) ≡ value_at p at
unfolding value_read value_at byte_at
value_at_lem p at =
    let k : get_or (take value_size (drop at p)) 0 0 ≡ get_or p at 0 = get_or-take value_size (drop at p) 0 0 (omega arith) ∙ get_or-drop at p 0 0 ∙ ap (λ (j : ℕ). get_or p j 0) (add-zero at) in
    let n : number_at value_bits_at bits_width (take value_size (drop at p)) ≡ number_at (at + value_bits_at) bits_width p = number_in_lem at value_size value_bits_at bits_width p (omega arith) in
    λ i. value (k i) (n i)

-- the values in the first m bytes from an offset on
values_at_lem : (p : List ℕ) (c at m : ℕ) → c * value_size ≤ m → map value_read (pieces c value_size (take m (drop at p))) ≡ values_at p at c
unfolding pieces values_at
values_at_lem p zero at m h = refl
values_at_lem p (suc c) at m h =
    let e : value_size + (m - value_size) ≡ m = omega arith in
    let rest : drop value_size (take m (drop at p)) ≡ take (m - value_size) (drop (at + value_size) p) =
    ap (λ (k : ℕ). drop value_size (take k (drop at p))) (sym e) ∙ drop_take value_size (m - value_size) (drop at p) ∙ ap (take (m - value_size)) (drop-drop value_size at p) in
    ap₂ {C = List Value} (λ x y. x ∷ y)
    (ap value_read (take-take value_size m (drop at p) (omega arith)) ∙ value_at_lem p at)
    (ap (λ (l : List ℕ). map value_read (pieces c value_size l)) rest ∙ values_at_lem p c (at + value_size) (m - value_size) (omega arith))

-- the values of an entry that has room for them
pub values_of_lem : (p : List ℕ) (i c : ℕ) → length (tuple_at p i).values ≡ c → c ≤ most_fields → (tuple_at p i).values ≡ values_in p i c
unfolding tuple_at tuple_read byte_at entry_at
values_of_lem p i c e h =
    let b : List ℕ = take tuple_size (drop (i * tuple_size) p) in
    let all : ℕ = most_fields * value_size in
    let n : get_or b field_count_at 0 ≡ c = get_or-take tuple_size (drop (i * tuple_size) p) field_count_at 0 (omega arith) ∙ get_or-drop (i * tuple_size) p field_count_at 0 ∙ count_at_lem p i ∙ e in
    let d : drop tuple_values_at b ≡ take all (drop (values_place i) p) = drop_take tuple_values_at all (drop (i * tuple_size) p) ∙ ap (take all) (drop-drop tuple_values_at (i * tuple_size) p) in
    rw (n, d) (values_at_lem p c (values_place i) all (omega arith))

-- ---- the values from field f on

module _ (p : List ℕ) (i n f : ℕ) where
  -- one, and those after it
  pub from_next : f < n → values_from p i n f ≡ value_in p i f ∷ values_from p i n (f + 1)
  unfolding values_at
  from_next h =
      let e : n - f ≡ suc (n - (f + 1)) = omega arith in
      let k : values_place i + (f + 1) * value_size ≡ values_place i + f * value_size + value_size = omega arith in
      rw (e, k)

  -- none is left
  pub from_end : n ≤ f → values_from p i n f ≡ []
  unfolding values_at
  from_end h = let e : n - f ≡ 0 = omega arith in rw e

pub from_first : (p : List ℕ) (i n : ℕ) → values_from p i n 0 ≡ values_in p i n
from_first p i n = simp (zero-mul, add-zero, sub-zero)

-- ---- a test of each value, from field f on

module _ (test : ℕ → Value → Bool) (p : List ℕ) (i n f : ℕ) where
  each_step : f < n → each_field test f (values_from p i n f) ≡ (test f (value_in p i f) && each_field test (f + 1) (values_from p i n (f + 1)))
  unfolding each_field
  each_step h = rw (from_next p i n f h, add-one f)

  -- one that fails
  pub each_miss : f < n → test f (value_in p i f) ≡ false → each_field test f (values_from p i n f) ≡ false
  each_miss h e = each_step h ∙ rw e

  -- one that passes
  pub each_more : f < n → test f (value_in p i f) ≡ true → each_field test f (values_from p i n f) ≡ each_field test (f + 1) (values_from p i n (f + 1))
  each_more h e = each_step h ∙ rw e

  -- the end
  pub each_end : n ≤ f → each_field test f (values_from p i n f) ≡ true
  unfolding each_field
  each_end h = rw (from_end p i n f h)
