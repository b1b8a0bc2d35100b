-- The bits of a sum, by the signs and sizes of its operands: a law for each case of `onto` and `subtract`. Assumes nothing.
use Prim.Native.Nat.{ℕ, ◌+◌, ◌-◌, ◌/◌, ◌%◌, ◌^◌, ◌<◌, ◌≤◌}
use mathlib.Core.Path.{◌≡◌, refl, sym, ap, ap₂, ◌∙◌}
use mathlib.Core.Bool.{Bool, true, false, not}
use native.Mathlib.Nat.{le_of_eq}
use native.Mathlib.Omega.{arith}
use lib.Dec.{leb}
use lib.IntN.{ℤ, ◌+ℤ◌, ◌-ℤ◌}
use borrow.Author.Tests.{leb-true, leb-false, le-leb, lt-leb}
use Rattle.rounding.specs.Parts.{sign, magnitude, signed, scaled, nearest_bits, bits_of}
use Rattle.rounding.specs.PartLaws.{magnitude_lt}
use Rattle.rounding.specs.Rounding.{zero_bits}
use Rattle.rounding.specs.Signed.{sign_bit, IsSigned, bits_signed, add_like, add_more, neg_signed, unsigned, whole_of_lem, not_zero}

module _ (a b : ℕ) (wa : a < 2 ^ 32) (wb : b < 2 ^ 32) (nonzero : a ≡ sign → ⊥) where
  abbrev A : ℕ
  A = magnitude (a % sign)

  abbrev B : ℕ
  B = magnitude (b % sign)

  sign_is : a - a % sign ≡ sign_bit (leb sign a)
  sign_is = omega (arith, whole_of_lem a wa)

  same_sign : a / sign ≡ b / sign → leb sign b ≡ leb sign a
  same_sign e = go (leb sign a) (leb sign b) refl refl
    where
      go : (s t : Bool) → leb sign a ≡ s → leb sign b ≡ t → t ≡ s
      go true true p q = refl
      go false false p q = refl
      go true false p q = absurd (omega (arith, leb-true sign a p, leb-false sign b q))
      go false true p q = absurd (omega (arith, leb-false sign a p, leb-true sign b q))

  other_sign : (a / sign ≡ b / sign → ⊥) → leb sign b ≡ not (leb sign a)
  other_sign n = go (leb sign a) (leb sign b) refl refl
    where
      go : (s t : Bool) → leb sign a ≡ s → leb sign b ≡ t → t ≡ not s
      go true true p q = absurd (n (omega (arith, leb-true sign a p, leb-true sign b q)))
      go false false p q = absurd (n (omega (arith, leb-false sign a p, leb-false sign b q)))
      go true false p q = refl
      go false true p q = refl

  -- with the sign of a
  signed_bits : (w : ℕ) → IsSigned (scaled a +ℤ scaled b) (leb sign a) w → a - a % sign + nearest_bits w ≡ bits_of (scaled a +ℤ scaled b)
  signed_bits w i = ap (λ (x : ℕ). x + nearest_bits w) sign_is ∙ sym (bits_signed i)

  pub like_signs : a / sign ≡ b / sign → a - a % sign + nearest_bits (A + B) ≡ bits_of (scaled a +ℤ scaled b)
  unfolding scaled
  like_signs e =
      signed_bits (A + B) (record { is = ap (λ (s : Bool). signed (leb sign a) A +ℤ signed s B) (same_sign e) ∙ add_like (leb sign a) A B; some = λ t. omega (arith, not_zero a wa nonzero t) })

  less : (a / sign ≡ b / sign → ⊥) → B ≤ A → scaled a +ℤ scaled b ≡ signed (leb sign a) (A - B)
  unfolding scaled
  less n l = ap (λ (s : Bool). signed (leb sign a) A +ℤ signed s B) (other_sign n) ∙ add_more (leb sign a) A B l

  pub unlike_signs : (a / sign ≡ b / sign → ⊥) → b % sign < a % sign → a - a % sign + nearest_bits (A - B) ≡ bits_of (scaled a +ℤ scaled b)
  unlike_signs n h =
      let l : B < A = magnitude_lt (a % sign) (b % sign) h in
      signed_bits (A - B) (record { is = less n (omega arith); some = λ t. omega arith })

  -- what is nothing is +0
  pub nothing_left : (a / sign ≡ b / sign → ⊥) → a % sign ≡ b % sign → 0 ≡ bits_of (scaled a +ℤ scaled b)
  nothing_left n e =
      let l : B ≡ A = ap magnitude (sym e) in
      let z : A - B ≡ 0 = omega arith in
      sym (bits_signed {s = false} {w = 0} (record { is = less n (le_of_eq l) ∙ ap (signed (leb sign a)) z ∙ unsigned (leb sign a); some = λ t. absurd t }) ∙ ap (λ (x : ℕ). 0 + x) zero_bits)

-- a difference is the sum with the second sign turned
scaled_turned : (b c : ℕ) → c % sign ≡ b % sign → leb sign c ≡ not (leb sign b) → scaled c ≡ signed (not (leb sign b)) (magnitude (b % sign))
unfolding scaled
scaled_turned b c e f = ap₂ (λ (s : Bool) (p : ℕ). signed s (magnitude p)) f e

turned : (a b c : ℕ) → c % sign ≡ b % sign → leb sign c ≡ not (leb sign b) → scaled a +ℤ scaled c ≡ scaled a -ℤ scaled b
unfolding scaled
turned a b c e f = ap (λ (z : ℤ). scaled a +ℤ z) (scaled_turned b c e f ∙ sym (neg_signed (leb sign b) (magnitude (b % sign))))

pub sign_turned : (a b : ℕ) → b < 2 ^ 32 → scaled a +ℤ scaled ((b + sign) % 2 ^ 32) ≡ scaled a -ℤ scaled b
sign_turned a b w = turned a b ((b + sign) % 2 ^ 32) (omega arith) (go (leb sign b) refl)
  where
    go : (t : Bool) → leb sign b ≡ t → leb sign ((b + sign) % 2 ^ 32) ≡ not t
    go true e = lt-leb sign ((b + sign) % 2 ^ 32) (omega (arith, leb-true sign b e))
    go false e = le-leb sign ((b + sign) % 2 ^ 32) (omega (arith, leb-false sign b e))
