-- Whole numbers by sign and size: their sums, and how far apart they are. And the bits of one, by sign and size. Assumes nothing.
use Prim.Native.Nat.{ℕ, zero, suc, ◌+◌, ◌-◌, ◌%◌, ◌^◌, ◌<◌, ◌≤◌, compare, Ordering}
use Rattle.std.specs.Prelude.{◌≡◌, refl, Bool, true, false, not, cond, T, leb, ℤ, pos, negsuc, neg_ℤ, nat_abs, ◌+ℤ◌, ◌-ℤ◌}
use Rattle.std.proofs.Common.{sym, ap, ap₂, ◌∙◌, le_of_eq, lt_of_not-le, arith, lt-ltb, le-ltb, le-leb, leb-true, leb-false}
use Rattle.std.proofs.Math.IntN.{neg_ℤ-neg_ℤ, neg_ℤ-+ℤ, +ℤ_idr}
use Rattle.std.specs.Float.Ieee.Bits.{is_true}
use Rattle.std.proofs.lemmas.Bool.{lt-leb}
use Rattle.rounding.specs.Parts.{sign, magnitude, signed, scaled, nearest_bits, bits_of}
use Rattle.rounding.specs.PartLaws.{magnitude_pos}
use Rattle.rounding.specs.Closest.{Told, told, gap}
use Rattle.rounding.specs.Rounding.{bits_le, bits_pos}

-- ---- sums

less : (A B : ℕ) → A < B → pos A +ℤ neg_ℤ (pos B) ≡ neg_ℤ (pos (B - A))
less A zero h = absurd (omega arith)
less A (suc b) h =
    let e : suc b - A ≡ suc (b - A) = omega arith in
    let f : suc b - suc A ≡ b - A = omega arith in
    rw (lt-ltb A (suc b) h, e, f)

more : (A B : ℕ) → B ≤ A → pos A +ℤ neg_ℤ (pos B) ≡ pos (A - B)
more A zero h = +ℤ_idr (pos A) ∙ ap pos (omega arith)
more A (suc b) h = rw (le-ltb A (suc b) h)

-- a law of a positive number and a negative one is one of a negative and a positive
turned : (A B : ℕ) (z : ℤ) → pos A +ℤ neg_ℤ (pos B) ≡ z → neg_ℤ (pos A) +ℤ pos B ≡ neg_ℤ z
turned A B z e = ap (λ (x : ℤ). neg_ℤ (pos A) +ℤ x) (sym (neg_ℤ-neg_ℤ (pos B))) ∙ sym (neg_ℤ-+ℤ (pos A) (neg_ℤ (pos B))) ∙ ap neg_ℤ e

pub add_like : (s : Bool) (A B : ℕ) → signed s A +ℤ signed s B ≡ signed s (A + B)
add_like false A B = refl
add_like true A B = sym (neg_ℤ-+ℤ (pos A) (pos B))

pub add_less : (s : Bool) (A B : ℕ) → A < B → signed s A +ℤ signed (not s) B ≡ signed (not s) (B - A)
add_less false A B h = less A B h
add_less true A B h = turned A B (neg_ℤ (pos (B - A))) (less A B h) ∙ neg_ℤ-neg_ℤ (pos (B - A))

pub add_more : (s : Bool) (A B : ℕ) → B ≤ A → signed s A +ℤ signed (not s) B ≡ signed s (A - B)
add_more false A B h = more A B h
add_more true A B h = turned A B (pos (A - B)) (more A B h)

pub neg_signed : (s : Bool) (w : ℕ) → neg_ℤ (signed s w) ≡ signed (not s) w
neg_signed false w = refl
neg_signed true w = neg_ℤ-neg_ℤ (pos w)

pub unsigned : (s : Bool) → signed s 0 ≡ signed false 0
unsigned false = refl
unsigned true = refl

-- ---- distances

abbrev pub distance : ℤ → ℤ → ℕ
distance x y = nat_abs (x -ℤ y)

size_signed : (s : Bool) (w : ℕ) → nat_abs (signed s w) ≡ w
size_signed false w = refl
size_signed true zero = refl
size_signed true (suc w) = refl

pub distance_like : (s : Bool) (m w : ℕ) → distance (signed s m) (signed s w) ≡ gap m w
distance_like s m w = ap (λ (x : ℤ). nat_abs (signed s m +ℤ x)) (neg_signed s w) ∙ go (compare m w) (told m w)
  where
    at_most_lem : w ≤ m → nat_abs (signed s m +ℤ signed (not s) w) ≡ gap m w
    at_most_lem h = ap nat_abs (add_more s m w h) ∙ size_signed s (m - w) ∙ omega arith

    go : (o : Ordering) → Told o m w → nat_abs (signed s m +ℤ signed (not s) w) ≡ gap m w
    go Ordering.lt h = ap nat_abs (add_less s m w h) ∙ size_signed (not s) (w - m) ∙ omega arith
    go Ordering.eq h = at_most_lem (le_of_eq (sym h))
    go Ordering.gt h = at_most_lem (omega arith)

pub distance_unlike : (s : Bool) (m w : ℕ) → distance (signed (not s) m) (signed s w) ≡ m + w
distance_unlike s m w = ap (λ (x : ℤ). nat_abs (signed (not s) m +ℤ x)) (neg_signed s w) ∙ ap nat_abs (add_like (not s) m w) ∙ size_signed (not s) (m + w)

-- ---- bits

abbrev pub sign_bit : Bool → ℕ
sign_bit s = cond s sign 0

-- a number's sign and size, where zero is not negative
pub record IsSigned (z : ℤ) (s : Bool) (w : ℕ) : Type 0 where
  pub is : z ≡ signed s w
  pub some : T s → 0 < w

abbrev pub negative : ℤ → Bool
negative (pos w) = false
negative (negsuc w) = true

pub is_signed : (z : ℤ) → IsSigned z (negative z) (nat_abs z)
is_signed (pos w) = record { is = refl; some = λ t. absurd t }
is_signed (negsuc w) = record { is = refl; some = λ t. omega arith }

pub bits_signed : {z : ℤ} {s : Bool} {w : ℕ} → IsSigned z s w → bits_of z ≡ sign_bit s + nearest_bits w
unfolding bits_of
bits_signed {z} {s} {w} i = ap bits_of i.is ∙ go s w i.some
  where
    go : (s : Bool) (w : ℕ) → (T s → 0 < w) → bits_of (signed s w) ≡ sign_bit s + nearest_bits w
    go false w h = omega arith
    go true zero h = absurd (omega (arith, h tt))
    go true (suc w) h = refl

-- bits with a sign and without
pub sign_of : (s : Bool) (p : ℕ) → p < sign → leb sign (sign_bit s + p) ≡ s
sign_of false p h = lt-leb sign (0 + p) (omega arith)
sign_of true p h = le-leb sign (sign + p) (omega arith)

pub rest_of : (s : Bool) (p : ℕ) → p < sign → (sign_bit s + p) % sign ≡ p
rest_of false p h = omega arith
rest_of true p h = omega arith

pub whole_of_lem : (a : ℕ) → a < 2 ^ 32 → sign_bit (leb sign a) + a % sign ≡ a
whole_of_lem a h = go (leb sign a) refl
  where
    go : (s : Bool) → leb sign a ≡ s → sign_bit s + a % sign ≡ a
    go true e = omega (arith, leb-true sign a e)
    go false e = omega (arith, leb-false sign a e)

pub scaled_of : (s : Bool) (p : ℕ) → p < sign → scaled (sign_bit s + p) ≡ signed s (magnitude p)
unfolding scaled
scaled_of s p h = ap₂ (λ (t : Bool) (q : ℕ). signed t (magnitude q)) (sign_of s p h) (rest_of s p h)

-- only the sign alone is negative and nothing
pub not_zero : (a : ℕ) → a < 2 ^ 32 → (a ≡ sign → ⊥) → T (leb sign a) → 0 < magnitude (a % sign)
not_zero a h n t = magnitude_pos (a % sign) (lt_of_not-le (λ (z : a % sign ≤ 0). n (sym (whole_of_lem a h) ∙ ap (λ (s : Bool). sign_bit s + a % sign) (is_true (leb sign a) t) ∙ omega arith)))

-- ---- never negative zero

pub bits_lt : (z : ℤ) → bits_of z < 2 ^ 32
unfolding bits_of
bits_lt (pos w) = omega (arith, bits_le w)
bits_lt (negsuc w) = omega (arith, bits_le (suc w))

pub bits_not_negative_zero : (z : ℤ) → bits_of z ≡ sign → ⊥
unfolding bits_of
bits_not_negative_zero (pos w) e = omega (arith, bits_le w)
bits_not_negative_zero (negsuc w) e = omega (arith, bits_pos (suc w) (omega arith))
