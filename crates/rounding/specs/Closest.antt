-- `closest n c`, the kit's n / c to the nearest whole number, a tie to the even one, in words: no multiple of c is nearer to n (`closest_nearest`), and where another is as near it is even (`closest_even`).
-- And how to compute it: n, half of c less 1, and 1 if the quotient is odd, divided by c (`closest_by`). Assumes nothing.
use Prim.Native.Nat.{ℕ, zero, suc, ◌+◌, ◌-◌, ◌*◌, ◌/◌, ◌%◌, ◌<◌, ◌≤◌, compare, Ordering}
use Rattle.std.specs.Prelude.{◌≡◌, ◌⊎◌, not, T, eqb}
use Rattle.std.proofs.Common.{sym, ap, ◌∙◌, subst, inl, inr, mul-le-mul_right, div-add-mod', mod-lt, arith, leb→le, eqb→eq}
use Rattle.std.proofs.Math.Dec.{is_le, compare_is_eq, nleb→lt, eqb_refl}
use Rattle.std.proofs.Math.Arith.{lt_of_le-ne, digits_div}
use Rattle.std.specs.Float.Ieee.{nearest}
use Rattle.std.specs.Float.Ieee.Nearest.{closest}

-- what `compare` says
abbrev pub Told : Ordering → ℕ → ℕ → Type 0
Told Ordering.lt a b = a < b
Told Ordering.eq a b = a ≡ b
Told Ordering.gt a b = b < a

pub told : (a b : ℕ) → Told (compare a b) a b
told a b = go (compare a b) (leb→le a b) (nleb→lt a b) (eqb→eq a b) (λ (e : a ≡ b). subst (λ (x : ℕ). T (eqb a x)) e (eqb_refl a))
  where
    go : (o : Ordering) → (T (is_le o) → a ≤ b) → (T (not (is_le o)) → b < a) → (T (compare_is_eq o) → a ≡ b) → (a ≡ b → T (compare_is_eq o)) → Told o a b
    go Ordering.lt h k e n = lt_of_le-ne (h tt) n
    go Ordering.eq h k e n = e tt
    go Ordering.gt h k e n = k tt

-- how far apart two numbers are
abbrev pub gap : ℕ → ℕ → ℕ
gap x y = (x - y) + (y - x)

module _ (n c : ℕ) (C : 0 < c) where
  abbrev z : ℕ
  z = closest n c * c

  -- n is within half a c of z, and where it is just half a c from it z's quotient is even
  half : (2 * gap z n ≤ c) × (2 * gap z n ≡ c → closest n c % 2 ≡ 0)
  half = go (n / c) (n % c) (div-add-mod' n c) (mod-lt n C) (compare (n % c * 2) c) (told (n % c * 2) c)
    where
      tie : (w r b : ℕ) → w * c + r ≡ n → r * 2 ≡ c → b < 2 → 2 * gap ((w + b) * c) n ≤ c
      tie w r zero e t h = omega arith
      tie w r (suc zero) e t h = omega arith
      tie w r (suc (suc b)) e t h = absurd (omega arith)

      go : (w r : ℕ) → w * c + r ≡ n → r < c → (o : Ordering) → Told o (r * 2) c → (2 * gap (nearest w o * c) n ≤ c) × (2 * gap (nearest w o * c) n ≡ c → nearest w o % 2 ≡ 0)
      go w r e l Ordering.lt t = (omega arith, λ g. absurd (omega arith))
      go w r e l Ordering.eq t = (tie w r (w % 2) e t (omega arith), λ g. omega arith)
      go w r e l Ordering.gt t = (omega arith, λ g. absurd (omega arith))

  -- another multiple of c is at least c away from z
  apart : (m : ℕ) → (m ≡ closest n c) ⊎ (c ≤ gap (m * c) z)
  apart m = go (compare m (closest n c)) (told m (closest n c))
    where
      go : (o : Ordering) → Told o m (closest n c) → (m ≡ closest n c) ⊎ (c ≤ gap (m * c) z)
      go Ordering.lt l = inr (omega (arith, mul-le-mul_right c l))
      go Ordering.eq e = inl e
      go Ordering.gt l = inr (omega (arith, mul-le-mul_right c l))

  pub closest_half : 2 * gap z n ≤ c
  closest_half = half.0

  pub closest_nearest : (m : ℕ) → gap z n ≤ gap (m * c) n
  closest_nearest m = go (apart m)
    where
      go : (m ≡ closest n c) ⊎ (c ≤ gap (m * c) z) → gap z n ≤ gap (m * c) n
      go (inl e) = subst (λ (x : ℕ). gap z n ≤ gap (x * c) n) (sym e) (omega arith)
      go (inr l) = omega (arith, half.0)

  pub closest_even : (m : ℕ) → (m ≡ closest n c → ⊥) → gap (m * c) n ≡ gap z n → closest n c % 2 ≡ 0
  closest_even m other g = go (apart m)
    where
      go : (m ≡ closest n c) ⊎ (c ≤ gap (m * c) z) → closest n c % 2 ≡ 0
      go (inl e) = absurd (other e)
      go (inr l) = half.1 (omega (arith, half.0))

  -- and a multiple that is nearer than half a c is that one
  pub closest_near : (q : ℕ) → 2 * gap (q * c) n < c → closest n c ≡ q
  closest_near q l = go (apart q)
    where
      go : (q ≡ closest n c) ⊎ (c ≤ gap (q * c) z) → closest n c ≡ q
      go (inl e) = sym e
      go (inr g) = absurd (omega (arith, half.0))

-- computed without a choice
pub closest_by : (n h : ℕ) → 0 < h → closest n (2 * h) ≡ (n + (h - 1) + n / (2 * h) % 2) / (2 * h)
closest_by n h H = go (n / (2 * h)) (n % (2 * h)) (div-add-mod' n (2 * h)) (mod-lt n (omega arith)) (compare (n % (2 * h) * 2) (2 * h)) (told (n % (2 * h) * 2) (2 * h))
  where
    by : (w q r : ℕ) → w ≡ q * (2 * h) + r → r < 2 * h → q ≡ w / (2 * h)
    by w q r e l = sym (ap (λ (x : ℕ). x / (2 * h)) e ∙ digits_div q l)

    tie : (w r b : ℕ) → w * (2 * h) + r ≡ n → r * 2 ≡ 2 * h → b < 2 → w + b ≡ (n + (h - 1) + b) / (2 * h)
    tie w r zero e t l = by (n + (h - 1) + 0) (w + 0) (2 * h - 1) (omega arith) (omega arith)
    tie w r (suc zero) e t l = by (n + (h - 1) + 1) (w + 1) 0 (omega arith) (omega arith)
    tie w r (suc (suc b)) e t l = absurd (omega arith)

    go : (w r : ℕ) → w * (2 * h) + r ≡ n → r < 2 * h → (o : Ordering) → Told o (r * 2) (2 * h) → nearest w o ≡ (n + (h - 1) + w % 2) / (2 * h)
    go w r e l Ordering.lt t = by (n + (h - 1) + w % 2) w (r + (h - 1) + w % 2) (omega arith) (omega arith)
    go w r e l Ordering.eq t = tie w r (w % 2) e t (omega arith)
    go w r e l Ordering.gt t = by (n + (h - 1) + w % 2) (suc w) (r + (h - 1) + w % 2 - 2 * h) (omega arith) (omega arith)
