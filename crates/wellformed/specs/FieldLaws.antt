-- A row is the entry of a legal tuple exactly where its fields are: the used ones legal, the others zero. Assumes nothing.
use Rattle.std.specs.Prelude.{◌≡◌, Bool, true, false, ◌&&◌, length, drop, get_or, T, eqb, leb}
use Rattle.std.proofs.Math.Path.{refl, sym, ap}
use Rattle.std.proofs.Common.{◌∙◌, length-drop, drop-cons, drop_at, length-take-le}
use mathlib.Core.List.{List, ◌∷◌, ◌++◌, flat_map}
use Prim.Native.Nat.{ℕ, zero, suc, ◌+◌, ◌-◌, ◌*◌, ◌^◌, ◌≤◌, ◌<◌}
use native.Mathlib.Omega.{arith}
use Rattle.std.proofs.Math.ListN.{take}
use Rattle.std.proofs.Math.Seq.{take-add, drop-drop}
use Rattle.std.proofs.Math.Pow.{are_bytes}
use borrow.Author.Tests.{eq-eqb, ne_eqb, le-leb, lt-leb, lt-ltb, le-ltb}
use Rattle.basis.specs.Logic.{is_true, true_is}
use Rattle.basis.specs.Lists.{all, zeros, same_bytes}
use Rattle.basis.specs.ListLaws.{same_refl, same→eq}
use Rattle.basis.specs.Numbers.{big_endian, number_at}
use Rattle.basis.specs.NumberLaws.{bytes_of_lem, number_at_lt}
use Rattle.basis.specs.PadLaws.{pad_split}
use Rattle.basis.specs.Sizes.{space_width, kind_width, bits_width, count_width, most_fields, value_bits_at, value_size, field_count_at, tuple_values_at, tuple_size}
use Rattle.model.specs.Value.{Value, value, legal_value}
use Rattle.model.specs.Valid.{legal_tuple}
use Rattle.model.specs.Writing.{value_bytes}
use Rattle.layout.specs.States.{tuple_bytes}
use Rattle.words.specs.Over.{zeros_at}
use Rattle.words.specs.ZeroLaws.{and_assoc, number_zero, zeros_at_one, zeros_at_add, zerosAt→zeros, zeros→zerosAt}
use Rattle.sections.specs.RowLaws.{number_written}
use Rattle.tuples.specs.Section.{entry_bytes, entry_at, tuple_at}
use Rattle.tuples.specs.Entry.{is_entry, value_at, values_at, values_place, value_in, values_in, each_field}
use Rattle.tuples.specs.PlaceLaws.{space_at_lem, count_at_lem, values_of_lem}
use Rattle.sections.specs.Rows.{HasRows}
use Rattle.wellformed.specs.Fields.{is_zero, field_ok, field_ok_at}

-- ---- zeros

-- a value is zero where its five bytes are
value_zero : (p : List ℕ) (at : ℕ) → is_zero (value_at p at) ≡ zeros_at p at value_size
unfolding is_zero value_at zeros_at number_at
value_zero p at =
    ap (λ (t : Bool). eqb (get_or p at 0) 0 && t) (number_zero (take bits_width (drop (at + value_bits_at) p)))
    ∙ ap (λ (t : Bool). t && zeros_at p (at + value_bits_at) bits_width) (sym (zeros_at_one p at))
    ∙ sym (zeros_at_add p at kind_width bits_width)

-- so are the values from a field that is not used on
zeros_from : (p : List ℕ) (c f at n : ℕ) → c ≤ f → each_field (field_ok_at c) f (values_at p at n) ≡ zeros_at p at (n * value_size)
unfolding each_field values_at field_ok
zeros_from p c f at zero h = unfold zeros_at all in refl
zeros_from p c f at (suc n) h =
    let e : value_size + n * value_size ≡ suc n * value_size = omega arith in
    rw (le-ltb f c h, value_zero p at, zeros_from p c (suc f) (at + value_size) n (omega arith), ← e) (sym (zeros_at_add p at value_size (n * value_size)))

-- ---- six fields: the used ones legal, the others zero

fields_none : (p : List ℕ) (at : ℕ) → all legal_value (values_at p at zero) ≡ true
unfolding all values_at
fields_none p at = refl

fields_cons : (p : List ℕ) (c f at n : ℕ) → f < c → each_field (field_ok_at c) f (values_at p at (suc n)) ≡ (legal_value (value_at p at) && each_field (field_ok_at c) (suc f) (values_at p (at + value_size) n))
unfolding each_field values_at field_ok
fields_cons p c f at n h = rw (lt-ltb f c h)

legal_cons : (p : List ℕ) (at n : ℕ) (z : Bool) → (all legal_value (values_at p at (suc n)) && z) ≡ (legal_value (value_at p at) && (all legal_value (values_at p (at + value_size) n) && z))
unfolding all values_at
legal_cons p at n z = and_assoc (legal_value (value_at p at)) (all legal_value (values_at p (at + value_size) n)) z

-- n used fields from f on, then k that are not
fields_split : (p : List ℕ) (c k n f at : ℕ) → f + n ≡ c
    → each_field (field_ok_at c) f (values_at p at (n + k)) ≡ (all legal_value (values_at p at n) && zeros_at p (at + n * value_size) (k * value_size))
fields_split p c k zero f at e =
    let z : zero + k ≡ k = omega arith in
    let a : at + zero * value_size ≡ at = omega arith in
    rw (z, a, fields_none p at) (zeros_from p c f at k (omega arith))
fields_split p c k (suc n) f at e =
    let z : suc n + k ≡ suc (n + k) = omega arith in
    let a : at + suc n * value_size ≡ at + value_size + n * value_size = omega arith in
    rw (z, a)
    (fields_cons p c f at (n + k) (omega arith) ∙ ap (λ (t : Bool). legal_value (value_at p at) && t) (fields_split p c k n (suc f) (at + value_size) (omega arith))
    ∙ sym (legal_cons p at n (zeros_at p (at + value_size + n * value_size) (k * value_size))))

-- ---- the bytes of an entry

module _ (p : List ℕ) (bytes : T (are_bytes p)) where
  byte_back : (at next : ℕ) → suc at ≡ next → at < length p → drop at p ≡ get_or p at 0 ∷ drop next p
  byte_back at next e h = drop-cons p at 0 h ∙ ap (λ (k : ℕ). get_or p at 0 ∷ drop k p) e

  value_back : (at : ℕ) → at + value_size ≤ length p → value_bytes (value_at p at) ≡ take value_size (drop at p)
  unfolding value_bytes value_at
  value_back at h = rw (number_written (at + value_bits_at) bits_width p bytes (omega arith), byte_back at (at + value_bits_at) (omega arith) (omega arith))

  values_back : (c at : ℕ) → at + c * value_size ≤ length p → flat_map value_bytes (values_at p at c) ≡ take (c * value_size) (drop at p)
  unfolding flat_map values_at
  values_back zero at h = refl
  values_back (suc c) at h =
      let e : suc c * value_size ≡ value_size + c * value_size = omega arith in
      rw (e, take-add value_size (c * value_size) (drop at p), drop-drop value_size at p, value_back at (omega arith), values_back c (at + value_size) (omega arith))

  module _ (i c : ℕ) (is : length (tuple_at p i).values ≡ c) (few : c ≤ most_fields) (room : HasRows tuple_size p (i + 1)) where
    -- the bytes that are used, and those that are not
    abbrev used : ℕ
    used = tuple_values_at + c * value_size

    abbrev unused : ℕ
    unused = tuple_size - used

    -- an entry's tuple is written as its used bytes
    tuple_back : tuple_bytes (tuple_at p i) ≡ take used (drop (i * tuple_size) p)
    unfolding tuple_bytes
    tuple_back =
        let at : ℕ = i * tuple_size in
        let s : big_endian space_width (tuple_at p i).space ≡ take space_width (drop at p) = ap (big_endian space_width) (sym (space_at_lem p i)) ∙ number_written at space_width p bytes (omega arith) in
        let v : flat_map value_bytes (tuple_at p i).values ≡ take (c * value_size) (drop (values_place i) p) = ap (flat_map value_bytes) (values_of_lem p i c is few) ∙ values_back c (values_place i) (omega arith) in
        let e : used ≡ space_width + (count_width + c * value_size) = omega arith in
        rw (s, ← count_at_lem p i, v, e, take-add space_width (count_width + c * value_size) (drop at p), drop-drop space_width at p, take-add count_width (c * value_size) (drop (at + field_count_at) p), byte_back (at + field_count_at) (values_place i) (omega arith) (omega arith))

    -- then zeros
    entry_back : entry_bytes (tuple_at p i) ≡ take used (drop (i * tuple_size) p) ++ zeros unused
    entry_back =
        let l : length (tuple_bytes (tuple_at p i)) ≡ used = ap length tuple_back ∙ length-take-le used (drop (i * tuple_size) p) (simp length-drop (omega arith)) in
        let e : tuple_size - length (tuple_bytes (tuple_at p i)) ≡ unused = omega arith in
        pad_split tuple_size (tuple_bytes (tuple_at p i)) (omega arith) ∙ rw (e, tuple_back)

    -- the entry itself in the same two parts
    entry_parts : entry_at p i ≡ take used (drop (i * tuple_size) p) ++ take unused (drop (i * tuple_size + used) p)
    unfolding entry_at
    entry_parts =
        let e : tuple_size ≡ used + unused = omega arith in
        ap (λ (n : ℕ). take n (drop (i * tuple_size) p)) e ∙ take-add used unused (drop (i * tuple_size) p) ∙ rw (drop-drop used (i * tuple_size) p)

    -- so it is its tuple's bytes exactly where the unused ones are zero
    same_zeros : same_bytes (entry_bytes (tuple_at p i)) (entry_at p i) ≡ zeros_at p (i * tuple_size + used) unused
    same_zeros = go (zeros_at p at n) refl
      where
        at : ℕ
        at = i * tuple_size + used

        n : ℕ
        n = unused

        go : (b : Bool) → zeros_at p at n ≡ b → same_bytes (entry_bytes (tuple_at p i)) (entry_at p i) ≡ b
        go true q =
            let z : take n (drop at p) ≡ zeros n = zerosAt→zeros p at n (omega arith) (true_is (zeros_at p at n) q) in
            rw (entry_back, entry_parts, z) (same_refl (take used (drop (i * tuple_size) p) ++ zeros n))
        go false q = no (same_bytes (entry_bytes (tuple_at p i)) (entry_at p i)) refl
          where
            no : (b : Bool) → same_bytes (entry_bytes (tuple_at p i)) (entry_at p i) ≡ b → b ≡ false
            no false r = refl
            no true r =
                let f : List ℕ = take used (drop (i * tuple_size) p) in
                let l : length f ≡ used = length-take-le used (drop (i * tuple_size) p) (simp length-drop (omega arith)) in
                let e : f ++ zeros n ≡ f ++ take n (drop at p) = sym entry_back ∙ same→eq (entry_bytes (tuple_at p i)) (entry_at p i) (true_is (same_bytes (entry_bytes (tuple_at p i)) (entry_at p i)) r) ∙ entry_parts in
                let z : take n (drop at p) ≡ zeros n = sym (drop_at f (take n (drop at p)) used l) ∙ ap (drop used) (sym e) ∙ drop_at f (zeros n) used l in
                sym (is_true (zeros_at p at n) (zeros→zerosAt p at n z)) ∙ q

-- ---- the tests of the code

pub value_small : (p : List ℕ) (i f : ℕ) → ((k : ℕ) → get_or p k 0 < 256) → (value_in p i f).bits < 2 ^ 32
unfolding value_at
value_small p i f bytes = number_at_lt (values_place i + f * value_size + value_bits_at) bits_width p (bytes_of_lem p bytes)

module _ (used : Bool) (v : Value) (k : ℕ) (kind : k ≡ v.kind) where
  -- any four bytes are a whole number
  pub field_whole : v.bits < 2 ^ 32 → used ≡ true → k ≡ 0 → true ≡ field_ok used v
  unfolding field_ok legal_value
  field_whole small u z = rw (u, ← kind, z, lt-ltb v.bits (2 ^ 32) small)

  module _ (x : ℕ) (bits : x ≡ v.bits) where
    pub field_used : (r : Bool) → used ≡ true → r ≡ legal_value (value k x) → r ≡ field_ok used v
    unfolding field_ok
    field_used r u e = rw u (e ∙ (λ i. legal_value (value (kind i) (bits i))))

    pub field_zero : used ≡ false → k ≡ 0 → eqb x 0 ≡ field_ok used v
    unfolding field_ok is_zero
    field_zero u z = rw (u, eq-eqb v.kind 0 (sym kind ∙ z), bits)

  pub field_kind : used ≡ false → (k ≡ 0 → ⊥) → false ≡ field_ok used v
  unfolding field_ok is_zero
  field_kind u z = rw (u, ne_eqb v.kind 0 (λ e. z (kind ∙ e)))

and_high : (a b c : Bool) → (a && false && b && c) ≡ false
and_high true b c = refl
and_high false b c = refl

module _ (p : List ℕ) (i c : ℕ) (is : c ≡ length (tuple_at p i).values) where
  pub entry_low : c < 1 → false ≡ is_entry (entry_at p i)
  unfolding is_entry legal_tuple tuple_at
  entry_low h = sym (rw (← is, lt-leb 1 c h))

  pub entry_high : most_fields < c → false ≡ is_entry (entry_at p i)
  unfolding is_entry legal_tuple tuple_at
  entry_high h = sym (rw (← is, lt-leb c most_fields h) (and_high (leb 1 c) (all legal_value (tuple_at p i).values) (same_bytes (entry_bytes (tuple_at p i)) (entry_at p i))))

  pub entry_fields : ((k : ℕ) → get_or p k 0 < 256) → HasRows tuple_size p (i + 1) → 1 ≤ c → c ≤ most_fields → each_field (field_ok_at c) 0 (values_in p i most_fields) ≡ is_entry (entry_at p i)
  unfolding is_entry legal_tuple tuple_at
  entry_fields bytes room low few =
      let at : ℕ = values_place i in
      let e : c + (most_fields - c) ≡ most_fields = omega arith in
      let used : ℕ = tuple_values_at + c * value_size in
      let a : at + c * value_size ≡ i * tuple_size + used = omega arith in
      let n : (most_fields - c) * value_size ≡ tuple_size - used = omega arith in
      let split : each_field (field_ok_at c) 0 (values_at p at most_fields) ≡ (all legal_value (values_at p at c) && zeros_at p (i * tuple_size + used) (tuple_size - used)) =
      ap (λ (n : ℕ). each_field (field_ok_at c) 0 (values_at p at n)) (sym e) ∙ fields_split p c (most_fields - c) c 0 at (omega arith) ∙ (λ j. all legal_value (values_at p at c) && zeros_at p (a j) (n j)) in
      split
      ∙ sym (rw (same_zeros p (bytes_of_lem p bytes) i c (sym is) few room, ← is, le-leb 1 c low, le-leb c most_fields few, values_of_lem p i c (sym is) few))
