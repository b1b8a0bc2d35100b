-- Bits without the sign, by their parts: larger bits are larger values, and two values have one exact sum and difference, counted in the smaller place. Assumes nothing.
use Prim.Native.Nat.{ℕ, zero, suc, ◌+◌, ◌-◌, ◌*◌, ◌/◌, ◌^◌, ◌<◌, ◌≤◌, compare, Ordering}
use Rattle.std.specs.Prelude.{◌≡◌, refl, ◌⊎◌}
use Rattle.std.proofs.Common.{sym, ◌∙◌, inl, inr, le_of_eq, mul-le-mul_left, pow-suc, pow_pos, shl_lt}
use Rattle.std.proofs.Math.Path.{ap, ap₂}
use Rattle.std.proofs.Math.Nat.{lt_of_lt_of_le, mul_comm, mul_assoc, mul-sub, add-mul, mul-lt-mul_of_pos_right}
use native.Mathlib.Omega.{arith}
use Rattle.std.proofs.Math.Pow.{pow-add, pow_mono}
use Rattle.std.specs.Float.Ieee.Digits.{back}
use Rattle.rounding.specs.Parts.{infinite, lead, full, place, digits, magnitude}
use Rattle.rounding.specs.Closest.{Told, told}

-- at the lowest place there may be fewer than 24 digits
pub record Parts (p : ℕ) : Type 0 where
  pub both : place p * lead + digits p ≡ p
  pub few : digits p < full
  pub high : (place p ≡ 0) ⊎ (lead ≤ digits p)

pub parts : (p : ℕ) → Parts p
unfolding place digits
parts p = record { both = omega arith; few = omega arith; high = go (p / lead) refl }
  where
    go : (x : ℕ) → p / lead ≡ x → (p / lead - 1 ≡ 0) ⊎ (lead ≤ p - (p / lead - 1) * lead)
    go zero e = inl (omega arith)
    go (suc x) e = inr (omega arith)

pub place_lt : (p : ℕ) → p < infinite → place p < 254
unfolding place
place_lt p h = omega arith

pub place_mono : (lo hi : ℕ) → lo ≤ hi → place lo ≤ place hi
unfolding place
place_mono lo hi h = omega arith

pub leading : (p : ℕ) → 0 < place p → lead ≤ digits p
leading p h = go (parts p).high
  where
    go : (place p ≡ 0) ⊎ (lead ≤ digits p) → lead ≤ digits p
    go (inl e) = absurd (omega arith)
    go (inr l) = l

-- from so many places apart on, the smaller of two values does not move the larger
abbrev pub far : ℕ
far = 26

module _ (hi lo : ℕ) where
  abbrev apart : ℕ
  apart = place hi - place lo

  -- the digits of hi counted in the place of lo
  abbrev pub aligned : ℕ
  aligned = digits hi * 2 ^ apart

  aligned_is : lo ≤ hi → aligned * 2 ^ place lo ≡ magnitude hi
  unfolding magnitude
  aligned_is h =
      mul_assoc (digits hi) (2 ^ apart) (2 ^ place lo)
      ∙ ap (λ (x : ℕ). digits hi * x) (sym (pow-add 2 apart (place lo)) ∙ ap (λ (x : ℕ). 2 ^ x) (back (place hi) (place lo) (place_mono lo hi h)))

  pub aligned_lt : (n : ℕ) → place hi - place lo ≤ n → aligned < 2 ^ (24 + n)
  aligned_lt n h =
      let r : 24 + apart ≤ 24 + n = omega arith in
      lt_of_lt_of_le (shl_lt 24 apart (parts hi).few) (pow_mono r)

  pub aligned_above : lo < hi → digits lo < aligned
  aligned_above h = go apart refl
    where
      m : place lo ≤ place hi
      m = place_mono lo hi (omega arith)

      go : (d : ℕ) → apart ≡ d → digits lo < digits hi * 2 ^ d
      go zero e = omega (arith, (parts lo).both, (parts hi).both)
      go (suc d) e = omega (arith, (parts lo).few, leading hi (omega (arith, m)), ap (λ (x : ℕ). digits hi * x) (pow-suc 2 d), mul-le-mul_left (digits hi) (pow_pos d))

  pub exact_plus : lo ≤ hi → (aligned + digits lo) * 2 ^ place lo ≡ magnitude hi + magnitude lo
  unfolding magnitude
  exact_plus h = add-mul aligned (digits lo) (2 ^ place lo) ∙ ap (λ (x : ℕ). x + digits lo * 2 ^ place lo) (aligned_is h)

  pub exact_minus : lo ≤ hi → (aligned - digits lo) * 2 ^ place lo ≡ magnitude hi - magnitude lo
  unfolding magnitude
  exact_minus h =
      let u = 2 ^ place lo in
      mul_comm (aligned - digits lo) u ∙ mul-sub u aligned (digits lo) ∙ ap₂ (λ (y z : ℕ). y - z) (mul_comm u aligned ∙ aligned_is h) (mul_comm u (digits lo))

  pub magnitude_lt : lo < hi → magnitude lo < magnitude hi
  unfolding magnitude
  magnitude_lt h = lt_of_lt_of_le (mul-lt-mul_of_pos_right (aligned_above h) (pow_pos (place lo))) (le_of_eq (aligned_is (omega arith)))

  -- from so many places apart on, lo is less than a quarter of the last place of hi
  pub quarter : far ≤ place hi - place lo → 4 * magnitude lo < 2 ^ place hi
  unfolding magnitude
  quarter f =
      let g : far + place lo ≤ place hi = omega arith in
      omega (arith, mul-lt-mul_of_pos_right (parts lo).few (pow_pos (place lo)), pow-add 2 far (place lo), pow_mono g)

pub magnitude_zero : magnitude 0 ≡ 0
unfolding magnitude
magnitude_zero = refl

pub magnitude_pos : (p : ℕ) → 0 < p → 0 < magnitude p
magnitude_pos p h = omega (arith, magnitude_lt p 0 h)

pub magnitude_mono : (lo hi : ℕ) → lo ≤ hi → magnitude lo ≤ magnitude hi
magnitude_mono lo hi h = go (compare lo hi) (told lo hi)
  where
    go : (o : Ordering) → Told o lo hi → magnitude lo ≤ magnitude hi
    go Ordering.lt l = omega (arith, magnitude_lt hi lo l)
    go Ordering.eq e = le_of_eq (ap magnitude e)
    go Ordering.gt l = absurd (omega arith)

-- no two have one value
pub magnitude_injective : (p r : ℕ) → magnitude p ≡ magnitude r → p ≡ r
magnitude_injective p r e = go (compare p r) (told p r)
  where
    go : (o : Ordering) → Told o p r → p ≡ r
    go Ordering.lt l = absurd (omega (arith, magnitude_lt r p l))
    go Ordering.eq s = s
    go Ordering.gt l = absurd (omega (arith, magnitude_lt p r l))
