-- How to know `nearest_bits w`: by a fraction that has as many digits as are kept (`nearest_of`), and next to a value that is much larger than what is added or taken away (`unmoved`). And which value
-- such bits have (`kept_parts`). Assumes nothing.
use Prim.Native.Nat.{ℕ, zero, suc, ◌+◌, ◌-◌, ◌*◌, ◌/◌, ◌%◌, ◌^◌, ◌<◌, ◌≤◌, min, compare, Ordering}
use Rattle.std.specs.Prelude.{◌≡◌, refl, ◌⊎◌}
use Rattle.std.proofs.Common.{sym, ap, ap₂, ◌∙◌, subst, inl, inr, le_trans, le_of_eq, lt_of_not-le, not-le_of_lt, mul-le-mul_right, lt_of_mul-lt-mul_right, le_of_mul-le-mul_right, mul-lt-mul_of_pos_right, pow-suc, le-div_iff_mul-le, eq-or-lt_of_le, arith, pow-add, pow_pos, pow_mono}
use Rattle.std.proofs.Math.Pow.{pow-lt}
use Rattle.std.specs.Float.Ieee.{size}
use Rattle.std.specs.Float.Ieee.Digits.{size-lt, size-le, size_reaches}
use Rattle.std.specs.Float.Ieee.Fits.{nearest-le, kept-lt}
use Rattle.std.specs.Float.Ieee.Nearest.{closest, closest_same, nearest-ge}
use Rattle.rounding.specs.Parts.{infinite, lead, full, place, digits, magnitude, nearest_bits}
use Rattle.rounding.specs.Closest.{Told, told, closest_near}

-- ---- how many digits are dropped

pub pow_lt_back : (i j : ℕ) → 2 ^ i < 2 ^ j → i < j
pow_lt_back i j h = lt_of_not-le (λ (g : j ≤ i). not-le_of_lt h (pow_mono g))

pub pow_le_back : (i j : ℕ) → 2 ^ i ≤ 2 ^ j → i ≤ j
pow_le_back i j h = let l : i < suc j = lt_of_not-le (λ (g : j < i). not-le_of_lt (pow-lt g) h) in omega arith

-- w has 24 digits above the k that are dropped, or fewer where none are
pub record Cut (w k : ℕ) : Type 0 where
  pub most : w < full * 2 ^ k
  pub least : (k ≡ 0) ⊎ (lead * 2 ^ k ≤ w)

pub dropped : {w k : ℕ} → Cut w k → size w - 24 ≡ k
dropped {w} {k} c = go c.least (size-le w (24 + k) (subst (λ (x : ℕ). w < x) (sym (pow-add 2 24 k)) c.most))
  where
    go : (k ≡ 0) ⊎ (lead * 2 ^ k ≤ w) → size w ≤ 24 + k → size w - 24 ≡ k
    go (inl z) u = omega arith
    go (inr l) u =
        let g : 23 + k < size w = lt_of_not-le (λ (n : size w ≤ 23 + k). omega (arith, pow_mono n, size-lt w, pow-add 2 23 k)) in
        omega arith

nearest_at : {w k : ℕ} → Cut w k → nearest_bits w ≡ min (k * lead + closest w (2 ^ k)) infinite
unfolding nearest_bits
nearest_at {w} c = ap (λ (z : ℕ). min (z * lead + closest w (2 ^ z)) infinite) (dropped c)

-- by a fraction n / u that is w / 2 ^ k
pub nearest_of : (w k n u : ℕ) → n * 2 ^ k ≡ w * u → 0 < u → n < full * u → (k ≡ 0) ⊎ (lead * u ≤ n) → nearest_bits w ≡ min (k * lead + closest n u) infinite
nearest_of w k n u e U h o =
    nearest_at (record { most = below; least = reaches o }) ∙ ap (λ (z : ℕ). min (k * lead + z) infinite) (closest_same w (2 ^ k) n u (pow_pos k) U (sym e))
  where
    below : w < full * 2 ^ k
    below = lt_of_mul-lt-mul_right u (omega (arith, mul-lt-mul_of_pos_right h (pow_pos k)))

    reaches : (k ≡ 0) ⊎ (lead * u ≤ n) → (k ≡ 0) ⊎ (lead * 2 ^ k ≤ w)
    reaches (inl z) = inl z
    reaches (inr l) = inr (le_of_mul-le-mul_right (omega (arith, mul-le-mul_right (2 ^ k) l)) U)

-- ---- what is less than a quarter of the last place of m * 2 ^ e does not move it

-- Below the least number of 24 digits the place is one lower: there a quarter of the one is half of the other.
pub unmoved : (m e w : ℕ) → lead ≤ m → m < full → 4 * w < 4 * (m * 2 ^ e) + 2 ^ e → 4 * (m * 2 ^ e) < 4 * w + 2 ^ e → nearest_bits w ≡ min (e * lead + m) infinite
unmoved m e w l h a b = go (compare w (lead * 2 ^ e)) (told w (lead * 2 ^ e))
  where
    at : (q k : ℕ) → Cut w k → 2 * (q * 2 ^ k) < 2 * w + 2 ^ k → 2 * w < 2 * (q * 2 ^ k) + 2 ^ k → nearest_bits w ≡ min (k * lead + q) infinite
    at q k c x y = nearest_at c ∙ ap (λ (z : ℕ). min (k * lead + z) infinite) (closest_near w (2 ^ k) (pow_pos k) q (omega arith))

    same : lead * 2 ^ e ≤ w → nearest_bits w ≡ min (e * lead + m) infinite
    same g = at m e (record { most = omega (arith, mul-le-mul_right (2 ^ e) h); least = inr g }) (omega arith) (omega arith)

    lower : (e' : ℕ) → e ≡ e' → m ≡ lead → w < lead * 2 ^ e → nearest_bits w ≡ min (e * lead + m) infinite
    lower zero p q g = absurd (omega (arith, ap (λ (x : ℕ). 2 ^ x) p, ap (λ (x : ℕ). x * 2 ^ e) q))
    lower (suc j) p q g =
        let two : 2 ^ e ≡ 2 ^ j * 2 = ap (λ (x : ℕ). 2 ^ x) p ∙ pow-suc 2 j in
        let r : m * 2 ^ e ≡ lead * 2 ^ e = ap (λ (x : ℕ). x * 2 ^ e) q in
        at full j (record { most = omega arith; least = inr (omega arith) }) (omega arith) (omega arith) ∙ omega arith

    go : (o : Ordering) → Told o w (lead * 2 ^ e) → nearest_bits w ≡ min (e * lead + m) infinite
    go Ordering.lt g = elim (eq-or-lt_of_le l) [ inl p ↦ lower e refl (sym p) g | inr s ↦ absurd (omega (arith, mul-le-mul_right (2 ^ e) s)) ]
    go Ordering.eq g = same (le_of_eq (sym g))
    go Ordering.gt g = same (omega arith)

-- ---- the value of the bits

-- q is what is kept of a number that drops k digits: 24 digits, or fewer where none are dropped; a carry makes it 2 ^ 24
pub record Kept (k q : ℕ) : Type 0 where
  pub most : q ≤ full
  pub least : (k ≡ 0) ⊎ (lead ≤ q)

pub kept : (w : ℕ) → Kept (size w - 24) (closest w (2 ^ (size w - 24)))
kept w = record { most = le_trans (nearest-le (w / 2 ^ (size w - 24)) (compare (w % 2 ^ (size w - 24) * 2) (2 ^ (size w - 24)))) (kept-lt 24 w); least = go (size w - 24) refl }
  where
    go : (k : ℕ) → size w - 24 ≡ k → (k ≡ 0) ⊎ (lead ≤ closest w (2 ^ k))
    go zero e = inl refl
    go (suc j) e =
        let l : 2 ^ (23 + suc j) ≤ w = size_reaches w (23 + suc j) (omega arith) in
        inr (le_trans ((le-div_iff_mul-le (pow_pos (suc j))).1 (le_trans (le_of_eq (sym (pow-add 2 23 (suc j)))) l)) (nearest-ge (w / 2 ^ suc j) (compare (w % 2 ^ suc j * 2) (2 ^ suc j))))

-- the parts of bits that were put together: a carry is the leading digit one place higher
pub kept_parts : (k q : ℕ) → Kept k q → magnitude (k * lead + q) ≡ q * 2 ^ k
unfolding magnitude place digits
kept_parts k q i = elim (eq-or-lt_of_le i.most) [ inl e ↦ carried e | inr l ↦ plain l i.least ]
  where
    at : (d j : ℕ) → digits (k * lead + q) ≡ d → place (k * lead + q) ≡ j → magnitude (k * lead + q) ≡ d * 2 ^ j
    at d j e f = ap₂ (λ (x y : ℕ). x * 2 ^ y) e f

    plain : q < full → (k ≡ 0) ⊎ (lead ≤ q) → magnitude (k * lead + q) ≡ q * 2 ^ k
    plain l (inl z) = at q k (omega arith) (omega arith)
    plain l (inr g) = at q k (omega arith) (omega arith)

    carried : q ≡ full → magnitude (k * lead + q) ≡ q * 2 ^ k
    carried e = at lead (suc k) (omega arith) (omega arith) ∙ omega (arith, pow-suc 2 k, ap (λ (x : ℕ). x * 2 ^ k) e)

pub bits_le : (w : ℕ) → nearest_bits w ≤ infinite
unfolding nearest_bits
bits_le w = omega arith

-- only zero has the bits of zero
pub bits_pos : (w : ℕ) → 0 < w → 0 < nearest_bits w
unfolding nearest_bits
bits_pos w h = go (size w - 24) refl (kept w).least
  where
    one : (w : ℕ) → closest w (2 ^ 0) ≡ w
    one w = closest_near w 1 (omega arith) w (omega arith)

    go : (k : ℕ) → size w - 24 ≡ k → (size w - 24 ≡ 0) ⊎ (lead ≤ closest w (2 ^ (size w - 24))) → 0 < min ((size w - 24) * lead + closest w (2 ^ (size w - 24))) infinite
    go zero e o = rw e (omega (arith, one w))
    go (suc k) e o = omega arith

pub zero_bits : nearest_bits 0 ≡ 0
unfolding nearest_bits
zero_bits = refl
