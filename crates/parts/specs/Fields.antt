-- The bytes of a value, of a field and of fields, put part by part. Assumes nothing.
use Rattle.std.specs.Prelude.{◌≡◌, refl, ℕ, zero, suc, ◌+◌, ◌*◌, ◌^◌, ◌≤◌, ◌<◌, length, take, set, get_or}
use Rattle.std.proofs.Common.{sym, ap, ◌∙◌, add-one, length-append, take-suc}
use mathlib.Core.List.{List, [], ◌∷◌, ◌++◌, map-append, flat_map, append-nil}
use native.Mathlib.Omega.{arith}
use Rattle.basis.specs.ListLaws.{Each, each_nil, each-cons, each_append}
use Rattle.basis.specs.Numbers.{big_endian}
use Rattle.basis.specs.NumberLaws.{big_endian_length}
use Rattle.basis.specs.PadLaws.{flat_map_append}
use Rattle.basis.specs.Sizes.{bits_width, value_size, most_fields, form_width, value_bits_at, past_kind, past_variable, formal_size, reference_size, anonymous_size, highest_at, range_variable_at, variable_width, range_size, fields_size}
use Rattle.words.specs.Over.{over}
use Rattle.model.specs.Value.{value}
use Rattle.model.specs.Statement as model
use Rattle.model.specs.Statement.{actual, formal, reference, sum, difference, anonymous, ranged}
use Rattle.model.specs.Writing.{value_bytes, field_bytes}
use Rattle.model.proofs.RoundTrip.{FitsField}
use Rattle.statements.specs.declared.Field.{Field}
use Rattle.statements.specs.Flat.{forms, field_of, field_is, fields_are}
use Rattle.parts.specs.Puts.{Puts, puts_none, puts_byte, puts_over, puts_then, puts_as, puts_two, puts_three}

-- ---- things one after the other

pub flat_map_one : {A : Type 0} (write : A → List ℕ) (a : A) → flat_map write (a ∷ []) ≡ write a
unfolding flat_map
flat_map_one write a = append-nil (write a)

-- ---- a value

value_length : (k n : ℕ) → length (value_bytes (value k n)) ≡ value_size
unfolding value_bytes
value_length k n = ap suc (big_endian_length bits_width n)

-- a kind byte, then the four bytes
pub value_put : (d e : List ℕ) (at k n : ℕ) → at + value_size ≤ length d → e ≡ over (set d at k) (at + value_bits_at) (big_endian bits_width n) bits_width → Puts d at (value_bytes (value k n)) e (at + value_size)
unfolding value_bytes
value_put d e at k n h s =
    let m : at + value_bits_at + bits_width ≡ at + value_size = omega arith in
    let p = puts_over (set d at k) (at + value_bits_at) (big_endian bits_width n) bits_width e (big_endian_length bits_width n) s in
    rw m at (puts_then d at (k ∷ []) (set d at k) (at + value_bits_at) (big_endian bits_width n) e (at + value_bits_at + bits_width) (puts_byte d at k (omega arith)) p (omega arith))

-- ---- a range and its variable

abbrev pub range_bytes : Field → List ℕ
range_bytes f = value_bytes (value f.kind f.bits) ++ (big_endian bits_width f.highest ++ (f.variable ∷ []))

-- a kind byte and the lowest, the highest, then the variable
pub range_put : (f : Field) (d e₁ e₂ : List ℕ) (at m : ℕ) → at + range_size ≤ length d + form_width → length e₁ ≡ length d → length e₂ ≡ length d
    → Puts d at (value_bytes (value f.kind f.bits)) e₁ m → e₂ ≡ over e₁ (at + highest_at) (big_endian bits_width f.highest) bits_width
    → Puts d at (range_bytes f) (set e₂ (at + range_variable_at) f.variable) (at + range_variable_at + variable_width)
range_put f d e₁ e₂ at m h l₁ l₂ p s =
    let highest : List ℕ = big_endian bits_width f.highest in
    let x : List ℕ = f.variable ∷ [] in
    let n₁ : m ≡ at + highest_at = omega (arith, p.stops, value_length f.kind f.bits) in
    let n₂ : at + highest_at + bits_width ≡ at + range_variable_at = omega arith in
    let q : Puts e₁ (at + highest_at) highest e₂ (at + range_variable_at) = rw n₂ at (puts_over e₁ (at + highest_at) highest bits_width e₂ (big_endian_length bits_width f.highest) s) in
    let last : Puts e₂ (at + range_variable_at) x (set e₂ (at + range_variable_at) f.variable) (at + range_variable_at + variable_width) = puts_byte e₂ (at + range_variable_at) f.variable (omega arith) in
    let rest = puts_then e₁ (at + highest_at) highest e₂ (at + range_variable_at) x _ (at + range_variable_at + variable_width) q last (omega arith) in
    puts_then d at (value_bytes (value f.kind f.bits)) e₁ (at + highest_at) (highest ++ x) _ (at + range_variable_at + variable_width) (rw n₁ at p) rest (omega arith)

-- ---- a field

-- a field is put, and has room in its bytes
pub record PutField (f : Field) (before : List ℕ) (at : ℕ) (after : List ℕ) (end : ℕ) : Type 0 where
  pub puts : Puts before at (field_bytes (field_is f)) after end
  pub fits : FitsField (field_is f)

-- no field is longer than a range
pub field_most : (f : model.Field) → length (field_bytes f) ≤ range_size
unfolding field_bytes
field_most (actual v) = omega (arith, value_length v.kind v.bits)
field_most (formal k x) = omega arith
field_most (reference x) = omega arith
field_most (sum x v) = omega (arith, value_length v.kind v.bits)
field_most (difference x v) = omega (arith, value_length v.kind v.bits)
field_most (anonymous k) = omega arith
field_most (ranged k r x) =
    let lowest : List ℕ = big_endian bits_width r.lowest in
    let highest : List ℕ = big_endian bits_width r.highest in
    omega (arith, length-append lowest (highest ++ (x ∷ [])), length-append highest (x ∷ []), big_endian_length bits_width r.lowest, big_endian_length bits_width r.highest)

-- a field whose bits are four bytes has room, whatever its form
field_fits : (form k x n m : ℕ) → n < 256 ^ bits_width → m < 256 ^ bits_width → FitsField (field_of form k x n m)
unfolding field_of
field_fits zero k x n m h l = h
field_fits (suc zero) k x n m h l = tt
field_fits (suc (suc zero)) k x n m h l = tt
field_fits (suc (suc (suc zero))) k x n m h l = h
field_fits (suc (suc (suc (suc zero)))) k x n m h l = h
field_fits (suc (suc (suc (suc (suc zero))))) k x n m h l = tt
field_fits (suc (suc (suc (suc (suc (suc form)))))) k x n m h l = (h, l)

-- forms 3 and 4
sum_bytes : (form k x n m : ℕ) → 3 ≤ form → form < 5 → field_bytes (field_of form k x n m) ≡ form ∷ x ∷ value_bytes (value k n)
unfolding field_of field_bytes
sum_bytes zero k x n m l h = absurd (omega arith)
sum_bytes (suc zero) k x n m l h = absurd (omega arith)
sum_bytes (suc (suc zero)) k x n m l h = absurd (omega arith)
sum_bytes (suc (suc (suc zero))) k x n m l h = refl
sum_bytes (suc (suc (suc (suc zero)))) k x n m l h = refl
sum_bytes (suc (suc (suc (suc (suc form))))) k x n m l h = absurd (omega arith)

module _ (f : Field) (d : List ℕ) (at : ℕ) (h : at + range_size ≤ length d) (small : f.bits < 256 ^ bits_width) (less : f.highest < 256 ^ bits_width) where
  abbrev field_value : List ℕ
  field_value = value_bytes (value f.kind f.bits)

  -- the bytes that were put are the field's
  is_put : (s e : List ℕ) (end : ℕ) → Puts d at s e end → s ≡ field_bytes (field_is f) → PutField f d at e end
  unfolding field_is
  is_put s e end p q = record { puts = puts_as d at s (field_bytes (field_is f)) e end p q; fits = field_fits f.form f.kind f.variable f.bits f.highest small less }

  pub put_actual : (e : List ℕ) (end : ℕ) → f.form ≡ 0 → Puts (set d at f.form) (at + form_width) field_value e end → PutField f d at e end
  unfolding field_is field_of field_bytes
  put_actual e end z p = is_put (f.form ∷ field_value) e end (puts_then d at (f.form ∷ []) _ (at + form_width) field_value e end (puts_byte d at f.form (omega arith)) p (omega arith)) (rw z)

  pub put_formal : f.form ≡ 1 → PutField f d at (set (set (set d at f.form) (at + form_width) f.kind) (at + past_kind) f.variable) (at + formal_size)
  unfolding field_is field_of field_bytes
  put_formal z = is_put (f.form ∷ f.kind ∷ f.variable ∷ []) _ (at + formal_size) (puts_three d at f.form f.kind f.variable (omega arith)) (rw z)

  pub put_reference : f.form ≡ 2 → PutField f d at (set (set d at f.form) (at + form_width) f.variable) (at + reference_size)
  unfolding field_is field_of field_bytes
  put_reference z = is_put (f.form ∷ f.variable ∷ []) _ (at + reference_size) (puts_two d at f.form f.variable (omega arith)) (rw z)

  pub put_sum : (e : List ℕ) (end : ℕ) → 3 ≤ f.form → f.form < 5 → Puts (set (set d at f.form) (at + form_width) f.variable) (at + past_variable) field_value e end → PutField f d at e end
  unfolding field_is
  put_sum e end l u p =
      is_put (f.form ∷ f.variable ∷ field_value) e end (puts_then d at (f.form ∷ f.variable ∷ []) _ (at + past_variable) field_value e end (puts_two d at f.form f.variable (omega arith)) p (omega arith))
      (sym (sum_bytes f.form f.kind f.variable f.bits f.highest l u))

  pub put_anonymous : f.form ≡ 5 → PutField f d at (set (set d at f.form) (at + form_width) f.kind) (at + anonymous_size)
  unfolding field_is field_of field_bytes
  put_anonymous z = is_put (f.form ∷ f.kind ∷ []) _ (at + anonymous_size) (puts_two d at f.form f.kind (omega arith)) (rw z)

  pub put_ranged : (e : List ℕ) (end : ℕ) → 6 ≤ f.form → f.form < forms → Puts (set d at f.form) (at + form_width) (range_bytes f) e end → PutField f d at e end
  unfolding field_is field_of field_bytes value_bytes
  put_ranged e end l u p =
      let z : f.form ≡ 6 = omega arith in
      is_put (f.form ∷ range_bytes f) e end (puts_then d at (f.form ∷ []) _ (at + form_width) (range_bytes f) e end (puts_byte d at f.form (omega arith)) p (omega arith)) (rw z)

-- ---- fields one after the other

-- so many fields are put, and have room
pub record PutFields (fs : List Field) (before : List ℕ) (at : ℕ) (after : List ℕ) (end : ℕ) : Type 0 where
  pub puts : Puts before at (flat_map field_bytes (fields_are fs)) after end
  pub fits : Each FitsField (fields_are fs)

pub fields_none : (fields : List Field) (d : List ℕ) (at : ℕ) → PutFields (take 0 fields) d at d at
unfolding fields_are flat_map
fields_none fields d at = record { puts = puts_none d at; fits = each_nil _ }

-- one field more
pub fields_more : (fields : List Field) (i : ℕ) (x : Field) (d : List ℕ) (at : ℕ) (e : List ℕ) (m : ℕ) (f : List ℕ) (end : ℕ) → i < length fields → m ≤ length d
    → PutFields (take i fields) d at e m → PutField (get_or fields i x) e m f end → PutFields (take (i + 1) fields) d at f end
unfolding fields_are
fields_more fields i x d at e m f end h k p q =
    let y : Field = get_or fields i x in
    let fs : List model.Field = fields_are (take i fields) in
    let split : fields_are (take (i + 1) fields) ≡ fs ++ (field_is y ∷ []) = rw (add-one i, take-suc fields i x h) (map-append field_is (take i fields) (y ∷ [])) in
    let bytes : flat_map field_bytes fs ++ field_bytes (field_is y) ≡ flat_map field_bytes (fields_are (take (i + 1) fields)) =
    rw (split, flat_map_append field_bytes fs (field_is y ∷ []), flat_map_one field_bytes (field_is y)) in
    record {
      puts = puts_as d at _ _ f end (puts_then d at (flat_map field_bytes fs) e m (field_bytes (field_is y)) f end p.puts q.puts k) bytes;
      fits = rw split (each_append FitsField fs (field_is y ∷ []) p.fits (each-cons FitsField (field_is y) [] q.fits (each_nil _)));
    }

-- i fields are put
pub record Putting (fields : List Field) (before : List ℕ) (at : ℕ) (after : List ℕ) (end i : ℕ) : Type 0 where
  pub same : length after ≡ length before
  pub most : end ≤ at + i * range_size
  pub put : PutFields (take i fields) before at after end

pub putting_start : (fields : List Field) (d : List ℕ) (at : ℕ) → Putting fields d at d at 0
putting_start fields d at = record { same = refl; most = omega arith; put = fields_none fields d at }

pub putting_turn : (fields : List Field) (d : List ℕ) (at : ℕ) (e : List ℕ) (m i : ℕ) (x : Field) (f : List ℕ) (end : ℕ) → at + fields_size ≤ length d → length fields ≤ most_fields → i < length fields
    → length f ≡ length e → Putting fields d at e m i → PutField (get_or fields i x) e m f end → Putting fields d at f end (i + 1)
putting_turn fields d at e m i x f end room six h l p q = record {
  same = l ∙ p.same;
  most = omega (arith, p.most, q.puts.stops, field_most (field_is (get_or fields i x)));
  put = fields_more fields i x d at e m f end (omega arith) (omega (arith, p.most)) p.put q;
}

-- they have at most so many bytes
pub fields_most : (fs : List Field) → length (flat_map field_bytes (fields_are fs)) ≤ length fs * range_size
unfolding fields_are flat_map
fields_most [] = omega arith
fields_most (f ∷ fs) = omega (arith, length-append (field_bytes (field_is f)) (flat_map field_bytes (fields_are fs)), field_most (field_is f), fields_most fs)
