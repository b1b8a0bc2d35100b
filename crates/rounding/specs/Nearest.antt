-- The rounding in words. Where `bits_of z` is finite it is a value nearest to z: none is nearer (`nearest`), and where another is as near its bits are even (`even`). It is finite exactly where z is,
-- in size, below the largest value and half its last place (`is_finite`, `is_infinite`). Assumes nothing.
use Prim.Native.Nat.{ℕ, suc, ◌+◌, ◌-◌, ◌*◌, ◌%◌, ◌^◌, ◌<◌, ◌≤◌, min, compare, Ordering}
use Rattle.std.specs.Prelude.{◌≡◌, refl, ◌⊎◌, Bool, true, false, not, ℤ, nat_abs}
use Rattle.std.proofs.Common.{subst, ap₂, ◌∙◌, inl, inr, le_trans, le_of_eq, le_of_lt, le_of_suc-le-suc, lt_of_le_of_lt, lt_of_lt_of_le, lt_of_not-le, lt_of_mul-lt-mul_right, le_of_mul-le-mul_right, mul_assoc, mul-le-mul_right, mul-lt-mul_of_pos_right, pow-suc, eq-or-lt_of_le, lit≤, pow_pos, pow_mono}
use Rattle.std.proofs.Math.Path.{sym, ap}
use native.Mathlib.Omega.{arith}
use Rattle.std.proofs.Math.Dec.{leb}
use Rattle.std.proofs.Math.Pow.{pow-add}
use Rattle.std.specs.Float.Ieee.{size}
use Rattle.std.specs.Float.Ieee.Digits.{back, size-lt, size-le, size_reaches}
use Rattle.std.specs.Float.Ieee.Nearest.{closest}
use Rattle.rounding.specs.Parts.{sign, infinite, lead, full, place, digits, magnitude, signed, scaled, nearest_bits, bits_of}
use Rattle.rounding.specs.PartLaws.{parts, magnitude_zero, magnitude_injective}
use Rattle.rounding.specs.Closest.{Told, told, gap, closest_half, closest_nearest, closest_even}
use Rattle.rounding.specs.Rounding.{pow_lt_back, kept, kept_parts, bits_pos, bits_le}
use Rattle.rounding.specs.Signed.{distance, distance_like, distance_unlike, sign_bit, negative, is_signed, bits_signed, rest_of, whole_of_lem, scaled_of}

-- ---- sizes

module _ (w : ℕ) (finite : nearest_bits w < infinite) where
  -- the place that the result is counted in, and its digits
  abbrev k : ℕ
  k = size w - 24

  abbrev q : ℕ
  q = closest w (2 ^ k)

  bits : nearest_bits w ≡ k * lead + q
  unfolding nearest_bits
  bits = omega arith

  value : magnitude (nearest_bits w) ≡ q * 2 ^ k
  value = ap magnitude bits ∙ kept_parts k q (kept w)

  -- another value is a multiple of 2 ^ k, or is below all numbers of 24 digits there, and farther than the least of them
  either : (p : ℕ) → ((m : ℕ) × (magnitude p ≡ m * 2 ^ k)) ⊎ (gap (q * 2 ^ k) w < gap (magnitude p) w)
  unfolding magnitude
  either p = go (compare (place p) k) (told (place p) k)
    where
      multiple : k ≤ place p → (m : ℕ) × (digits p * 2 ^ place p ≡ m * 2 ^ k)
      multiple h =
          let j = place p - k in
          (digits p * 2 ^ j, ap (λ (x : ℕ). digits p * x) (ap (λ (x : ℕ). 2 ^ x) (sym (back (place p) k h)) ∙ pow-add 2 j k) ∙ sym (mul_assoc (digits p) (2 ^ j) (2 ^ k)))

      below : place p < k → gap (q * 2 ^ k) w < gap (digits p * 2 ^ place p) w
      below h =
          let l : lead * 2 ^ k ≤ w = le_trans (le_of_eq (sym (pow-add 2 23 k))) (size_reaches w (23 + k) (omega arith)) in
          let u : 2 ^ suc (place p) ≤ 2 ^ k = pow_mono h in
          let s : digits p * 2 ^ place p < full * 2 ^ place p = mul-lt-mul_of_pos_right (parts p).few (pow_pos (place p)) in
          let t : digits p * 2 ^ place p < lead * 2 ^ k = omega (arith, pow-suc 2 (place p)) in
          nearer (q * 2 ^ k) (digits p * 2 ^ place p) (lead * 2 ^ k) t l (closest_nearest w (2 ^ k) (pow_pos k) lead)
        where
          nearer : (x y z : ℕ) → y < z → z ≤ w → gap x w ≤ gap z w → gap x w < gap y w
          nearer x y z a b g = omega arith

      go : (o : Ordering) → Told o (place p) k → ((m : ℕ) × (magnitude p ≡ m * 2 ^ k)) ⊎ (gap (q * 2 ^ k) w < gap (magnitude p) w)
      go Ordering.lt l = inr (below l)
      go Ordering.eq e = inl (multiple (le_of_eq (sym e)))
      go Ordering.gt l = inl (multiple (le_of_lt l))

  nearest_size : (p : ℕ) → gap (magnitude (nearest_bits w)) w ≤ gap (magnitude p) w
  nearest_size p = rw value (go (either p))
    where
      go : ((m : ℕ) × (magnitude p ≡ m * 2 ^ k)) ⊎ (gap (q * 2 ^ k) w < gap (magnitude p) w) → gap (q * 2 ^ k) w ≤ gap (magnitude p) w
      go (inl (m, e)) = rw e (closest_nearest w (2 ^ k) (pow_pos k) m)
      go (inr l) = le_of_lt l

  even_size : (p : ℕ) → (p ≡ nearest_bits w → ⊥) → gap (magnitude p) w ≡ gap (magnitude (nearest_bits w)) w → nearest_bits w % 2 ≡ 0
  even_size p n g = go (either p)
    where
      go : ((m : ℕ) × (magnitude p ≡ m * 2 ^ k)) ⊎ (gap (q * 2 ^ k) w < gap (magnitude p) w) → nearest_bits w % 2 ≡ 0
      go (inl (m, e)) =
          let other : m ≡ q → ⊥ = λ s. n (magnitude_injective p (nearest_bits w) (e ∙ ap (λ (x : ℕ). x * 2 ^ k) s ∙ sym value)) in
          let even = closest_even w (2 ^ k) (pow_pos k) m other (ap (λ (x : ℕ). gap x w) (sym e) ∙ g ∙ ap (λ (x : ℕ). gap x w) value) in
          omega (arith, bits, even)
      go (inr l) =
          let h = ap (λ (x : ℕ). gap x w) value in
          absurd (omega (arith, g, h))

-- ---- what is finite

-- the largest value, 2 ^ 277 less its last place, 2 ^ 253, and half of that
abbrev pub overflow_from : ℕ
overflow_from = 2 ^ 277 - 2 ^ 252

under : (w q c half : ℕ) → c ≡ half * 2 → w < full * c - half → 2 * gap (q * c) w ≤ c → q < full
under w q c half e h l = lt_of_mul-lt-mul_right c (omega arith)

finite_size : (w : ℕ) → w < overflow_from → nearest_bits w < infinite
unfolding nearest_bits
finite_size w h = below (size w - 24) (closest w (2 ^ (size w - 24))) few (kept w).most last
  where
    below : (k q : ℕ) → k ≤ 253 → q ≤ full → (k ≡ 253 → q < full) → min (k * lead + q) infinite < infinite
    below k q a b l = elim (eq-or-lt_of_le a) [ inl e ↦ top e (l e) | inr g ↦ omega arith ]
      where
        top : k ≡ 253 → q < full → min (k * lead + q) infinite < infinite
        top e g = omega arith

    few : size w - 24 ≤ 253
    few = let z : size w ≤ 277 = size-le w 277 (lt_of_lt_of_le h (lit≤ tt)) in omega arith

    last : size w - 24 ≡ 253 → closest w (2 ^ (size w - 24)) < full
    last e = subst (λ (k : ℕ). closest w (2 ^ k) < full) (sym e) (under w (closest w (2 ^ 253)) (2 ^ 253) (2 ^ 252) refl h (closest_half w (2 ^ 253) (pow_pos 253)))

-- the number is half-way between two multiples, of which the upper one is even
reaches : (w c half : ℕ) → 0 < c → c ≡ half * 2 → full * c - half ≤ w → full ≤ closest w c
reaches w c half C e h = le_of_suc-le-suc (lt_of_not-le no)
  where
    no : suc (closest w c) ≤ full → ⊥
    no g =
        let f : full ≤ suc (closest w c) = le_of_mul-le-mul_right {k = c} (omega (arith, closest_half w c C)) C in
        let u : suc (closest w c) * c ≤ full * c = mul-le-mul_right c g in
        let t : gap (full * c) w ≡ gap (closest w c * c) w = omega (arith, closest_half w c C) in
        omega (arith, closest_even w c C full (λ s. omega arith) t)

infinite_size : (w : ℕ) → overflow_from ≤ w → nearest_bits w ≡ infinite
unfolding nearest_bits
infinite_size w h = above (size w - 24) (closest w (2 ^ (size w - 24))) many (kept w).least last
  where
    above : (k q : ℕ) → 253 ≤ k → (k ≡ 0) ⊎ (lead ≤ q) → (k ≡ 253 → full ≤ q) → min (k * lead + q) infinite ≡ infinite
    above k q a (inl z) l = absurd (omega arith)
    above k q a (inr g) l = elim (eq-or-lt_of_le a) [ inl e ↦ top (sym e) (l (sym e)) | inr s ↦ omega arith ]
      where
        top : k ≡ 253 → full ≤ q → min (k * lead + q) infinite ≡ infinite
        top e s = omega arith

    many : 253 ≤ size w - 24
    many = let z : 276 < size w = pow_lt_back 276 (size w) (lt_of_le_of_lt (le_trans (lit≤ tt) h) (size-lt w)) in omega arith

    last : size w - 24 ≡ 253 → full ≤ closest w (2 ^ (size w - 24))
    last e = subst (λ (k : ℕ). full ≤ closest w (2 ^ k)) (sym e) (reaches w (2 ^ 253) (2 ^ 252) (pow_pos 253) refl h)

-- ---- signed

rest : (z : ℤ) → bits_of z % sign ≡ nearest_bits (nat_abs z)
rest z = ap (λ (x : ℕ). x % sign) (bits_signed (is_signed z)) ∙ rest_of (negative z) (nearest_bits (nat_abs z)) (omega (arith, bits_le (nat_abs z)))

pub is_finite : (z : ℤ) → nat_abs z < overflow_from → bits_of z % sign < infinite
is_finite z h = rw (rest z) (finite_size (nat_abs z) h)

pub is_infinite : (z : ℤ) → overflow_from ≤ nat_abs z → bits_of z % sign ≡ infinite
is_infinite z h = rest z ∙ infinite_size (nat_abs z) h

same_or_not : (t s : Bool) → (t ≡ s) ⊎ (t ≡ not s)
same_or_not true true = inl refl
same_or_not true false = inr refl
same_or_not false true = inr refl
same_or_not false false = inl refl

module _ (z : ℤ) (finite : bits_of z % sign < infinite) where
  abbrev s : Bool
  s = negative z

  abbrev w : ℕ
  w = nat_abs z

  abbrev n : ℕ
  n = nearest_bits w

  below : n < infinite
  below = rw (sym (rest z)) finite

  result : distance (scaled (bits_of z)) z ≡ gap (magnitude n) w
  result =
      ap (λ (x : ℤ). distance x z) (ap scaled (bits_signed (is_signed z)) ∙ scaled_of s n (omega (arith, below)))
      ∙ ap (λ (x : ℤ). distance (signed s (magnitude n)) x) (is_signed z).is
      ∙ distance_like s (magnitude n) w

  -- another value, of z's sign or of the other
  abbrev Like : ℕ → Type 0
  Like c = (leb sign c ≡ s) × (distance (scaled c) z ≡ gap (magnitude (c % sign)) w)

  abbrev Unlike : ℕ → Type 0
  Unlike c = (leb sign c ≡ not s) × (distance (scaled c) z ≡ magnitude (c % sign) + w)

  other : (c : ℕ) → Like c ⊎ Unlike c
  unfolding scaled
  other c = go (same_or_not (leb sign c) s)
    where
      at : (t : Bool) → leb sign c ≡ t → distance (scaled c) z ≡ distance (signed t (magnitude (c % sign))) (signed s w)
      at t e = ap (λ (x : ℤ). distance x z) (ap (λ (u : Bool). signed u (magnitude (c % sign))) e) ∙ ap (λ (x : ℤ). distance (signed t (magnitude (c % sign))) x) (is_signed z).is

      go : (leb sign c ≡ s) ⊎ (leb sign c ≡ not s) → Like c ⊎ Unlike c
      go (inl e) = inl (e, at s e ∙ distance_like s (magnitude (c % sign)) w)
      go (inr e) = inr (e, at (not s) e ∙ distance_unlike s (magnitude (c % sign)) w)

  pub nearest : (c : ℕ) → distance (scaled (bits_of z)) z ≤ distance (scaled c) z
  nearest c = go (other c)
    where
      go : Like c ⊎ Unlike c → distance (scaled (bits_of z)) z ≤ distance (scaled c) z
      go (inl e) = omega (arith, result, e.1, nearest_size w below (c % sign))
      go (inr e) = omega (arith, result, e.1, nearest_size w below 0, magnitude_zero)

  -- of all bits but negative zero's, which stand for the number that zero's stand for
  pub even : (c : ℕ) → c < 2 ^ 32 → (c ≡ sign → ⊥) → (c ≡ bits_of z → ⊥) → distance (scaled c) z ≡ distance (scaled (bits_of z)) z → bits_of z % 2 ≡ 0
  even c h nonzero differs g = subst (λ (x : ℕ). x % 2 ≡ 0) (sym (bits_signed (is_signed z))) (sign_even s n (go (other c)))
    where
      sign_even : (t : Bool) (x : ℕ) → x % 2 ≡ 0 → (sign_bit t + x) % 2 ≡ 0
      sign_even true x e = omega arith
      sign_even false x e = omega arith

      -- a value of the other sign is as near as the nearest only if it is zero
      from_zero : (t u : Bool) → leb sign c ≡ t → s ≡ u → t ≡ not u → c % sign ≡ 0 → 0 < w
      from_zero true true e f d o = absurd (let x : ◌≡◌ {A = ℕ} 0 1 = cc in omega arith)
      from_zero false false e f d o = absurd (let x : ◌≡◌ {A = ℕ} 0 1 = cc in omega arith)
      from_zero true false e f d o = absurd (nonzero (sym (whole_of_lem c h) ∙ ap (λ (t : Bool). sign_bit t + c % sign) e ∙ omega arith))
      from_zero false true e f d o = (is_signed z).some (rw f tt)

      go : Like c ⊎ Unlike c → n % 2 ≡ 0
      go (inl e) =
          let same : c % sign ≡ n → c ≡ bits_of z = λ x. sym (whole_of_lem c h) ∙ ap₂ (λ (t : Bool) (p : ℕ). sign_bit t + p) e.0 x ∙ sym (bits_signed (is_signed z)) in
          even_size w below (c % sign) (λ x. differs (same x)) (sym e.1 ∙ g ∙ result)
      go (inr e) =
          let m = magnitude (c % sign) in
          let none : m ≡ 0 = omega (arith, nearest_size w below 0, magnitude_zero, e.1, g, result) in
          let some : 0 < w = from_zero (leb sign c) s refl refl e.0 (magnitude_injective (c % sign) 0 (none ∙ sym magnitude_zero)) in
          even_size w below 0 (λ x. omega (arith, bits_pos w some)) (omega (arith, magnitude_zero, none, e.1, g, result))
