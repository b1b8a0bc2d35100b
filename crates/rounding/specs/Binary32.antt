-- Metres are binary32 values: the bits of a sum and of a difference, as the kit's IEEE theory rounds them, are those of the exact one (`add_bits`, `sub_bits`).
-- A fraction w / 2 ^ 149 rounded by the kit has the bits `nearest_bits w` (`round_bits`), bits stand for the number that the kit reads (`stands`), and are finite below an infinity's (`finite_bits`). Assumes nothing.
use Prim.Native.Nat.{ℕ, zero, suc, ◌+◌, ◌-◌, ◌*◌, ◌/◌, ◌%◌, ◌^◌, ◌<◌, ◌≤◌, min, compare, Ordering}
use Rattle.std.specs.Prelude.{◌≡◌, refl, ◌⊎◌, Bool, true, false, not, cond, ◌&&◌, T, ltb, leb, eqb, ℤ, ◌+ℤ◌, ◌-ℤ◌, Float}
use Rattle.std.proofs.Common.{sym, ap₂, ◌∙◌, subst, inl, inr, le_trans, le_of_eq, le_of_lt, lt_of_le_of_lt, mul_assoc, mul-pos, mul-div_cancel, mul-lt-mul_of_pos_right, lt_of_mul-lt-mul_right, le_of_mul-le-mul_right, mul-le-mul_right, add_assoc, pow-suc, eq-or-lt_of_le, arith, ltb→lt, nltb→le, pow-add, pow_pos, ltb-true, ltb-false, lt-ltb, le-ltb, eq-eqb, ne_eqb}
use Rattle.std.proofs.Math.Path.{ap}
use Rattle.std.proofs.Math.Bool.{and-true, and-false}
use Rattle.std.specs.Bool.{beq}
use Rattle.std.proofs.Math.Nat.{mul-sub}
use Rattle.std.specs.Float.{fin, inf, nan}
use Rattle.std.specs.Float.Ieee.{binary32, up, down, size, odd, units, round, neg, sum, add, sub, of_fields, of_bits, to_bits}
use Rattle.std.specs.Float.Ieee.Exact.{HasValue, odd_sign}
use Rattle.std.specs.Float.Ieee.Fits.{core, round_is, down_pos}
use Rattle.std.specs.Float.Ieee.Nearest.{closest, closest_same}
use Rattle.std.specs.Float.Ieee.Scale.{finite, round_same}
use Rattle.rounding.specs.Parts.{sign, infinite, lead, full, place, digits, magnitude, signed, scaled, nearest_bits, bits_of}
use Rattle.rounding.specs.Closest.{Told, told}
use Rattle.rounding.specs.Rounding.{dropped, Kept, kept, pow_lt_back, pow_le_back}
use Rattle.rounding.specs.Signed.{sign_bit, IsSigned, bits_signed, add_like, add_less, add_more, neg_signed, unsigned, not_zero}

-- ---- the bits of a rounded number

-- q * 2 ^ k as the format writes it: its 24 leading digits after as many times 2 ^ 23 as it drops
written : (q k : ℕ) → Kept k q → (size (q * 2 ^ k) - 24) * lead + q * 2 ^ k / 2 ^ (size (q * 2 ^ k) - 24) ≡ k * lead + q
written q k i = elim (eq-or-lt_of_le i.most) [ inl e ↦ carried e | inr l ↦ plain l i.least ]
  where
    at : (w j z : ℕ) → size w - 24 ≡ j → w ≡ z * 2 ^ j → (size w - 24) * lead + w / 2 ^ (size w - 24) ≡ j * lead + z
    at w j z e f = ap (λ (i : ℕ). i * lead + w / 2 ^ i) e ∙ ap (λ (x : ℕ). j * lead + x) (ap (λ (x : ℕ). x / 2 ^ j) f ∙ mul-div_cancel z (pow_pos j))

    plain : q < full → (k ≡ 0) ⊎ (lead ≤ q) → (size (q * 2 ^ k) - 24) * lead + q * 2 ^ k / 2 ^ (size (q * 2 ^ k) - 24) ≡ k * lead + q
    plain l (inl e) = at (q * 2 ^ k) k q (dropped (record { most = mul-lt-mul_of_pos_right l (pow_pos k); least = inl e })) refl
    plain l (inr g) = at (q * 2 ^ k) k q (dropped (record { most = mul-lt-mul_of_pos_right l (pow_pos k); least = inr (mul-le-mul_right (2 ^ k) g) })) refl

    carried : q ≡ full → (size (q * 2 ^ k) - 24) * lead + q * 2 ^ k / 2 ^ (size (q * 2 ^ k) - 24) ≡ k * lead + q
    carried e =
        let f : q * 2 ^ k ≡ lead * 2 ^ suc k = ap (λ (x : ℕ). x * 2 ^ k) e ∙ omega (arith, pow-suc 2 k) in
        at (q * 2 ^ k) (suc k) lead (dropped (record { most = omega (arith, f, pow_pos (suc k)); least = inr (le_of_eq (sym f)) })) f ∙ omega arith

-- what is below 2 ^ 277 is at most an infinity's bits, and what is not is at least these
not_over : (q k : ℕ) → Kept k q → q * 2 ^ k < 2 ^ 277 → k * lead + q ≤ infinite
not_over q k i l = go i.least
  where
    small : 23 + k < 277 → k ≤ 253
    small j = omega arith

    last : k ≡ 253 → q < full → k * lead + q ≤ infinite
    last e l = omega arith

    go : (k ≡ 0) ⊎ (lead ≤ q) → k * lead + q ≤ infinite
    go (inl e) = omega (arith, i.most)
    go (inr g) =
        let j : 23 + k < 277 = pow_lt_back (23 + k) 277 (lt_of_le_of_lt (le_trans (le_of_eq (pow-add 2 23 k)) (mul-le-mul_right (2 ^ k) g)) l) in
        elim (eq-or-lt_of_le (small j)) [
          | inl e ↦ last e (lt_of_mul-lt-mul_right (2 ^ 253) (subst (λ (x : ℕ). q * 2 ^ x < 2 ^ 277) e l))
          | inr s ↦ omega (arith, i.most)
        ]

over : (q k : ℕ) → Kept k q → 2 ^ 277 ≤ q * 2 ^ k → infinite ≤ k * lead + q
over q k i l =
    let j : 277 ≤ 24 + k = pow_le_back 277 (24 + k) (le_trans l (le_trans (mul-le-mul_right (2 ^ k) i.most) (le_of_eq (sym (pow-add 2 24 k))))) in
    elim (eq-or-lt_of_le (large j)) [
      | inl e ↦ last e (le_of_mul-le-mul_right (subst (λ (x : ℕ). 2 ^ 277 ≤ q * 2 ^ x) (sym e) l) (pow_pos 253))
      | inr g ↦ more g i.least
    ]
  where
    large : 277 ≤ 24 + k → 253 ≤ k
    large j = omega arith

    last : 253 ≡ k → full ≤ q → infinite ≤ k * lead + q
    last e g = omega arith

    more : 253 < k → (k ≡ 0) ⊎ (lead ≤ q) → infinite ≤ k * lead + q
    more g (inl z) = absurd (omega arith)
    more g (inr m) = omega arith

-- a finite value of w times 2 ^ -149, and an infinity
value_bits : (x : Float) (s : Bool) (w : ℕ) → HasValue x s w (2 ^ 149) → to_bits binary32 x ≡ sign_bit s + ((size w - 24) * lead + w / 2 ^ (size w - 24))
unfolding to_bits
value_bits nan s w h = absurd h
value_bits (inf t) s w h = absurd h
value_bits (fin t m e) s w h =
    let v : m * up e * 2 ^ 149 / down e ≡ w = ap (λ (x : ℕ). x / down e) h.1 ∙ mul-div_cancel w (down_pos e) in
    ap (λ (x : ℕ). sign_bit t + (size x - 24) * lead + x / 2 ^ (size x - 24)) v
    ∙ ap (λ (b : Bool). sign_bit b + (size w - 24) * lead + w / 2 ^ (size w - 24)) h.0
    ∙ add_assoc (sign_bit s) ((size w - 24) * lead) (w / 2 ^ (size w - 24))

infinity_bits : (s : Bool) → to_bits binary32 (inf s) ≡ sign_bit s + infinite
unfolding to_bits
infinity_bits s = refl

units_bits : (s : Bool) (q k : ℕ) → Kept k q → to_bits binary32 (units binary32 s q k) ≡ sign_bit s + min (k * lead + q) infinite
unfolding units
units_bits s q k i = go (ltb (q * 2 ^ k) (2 ^ 277)) (λ t. not_over q k i (ltb→lt (q * 2 ^ k) (2 ^ 277) t)) (λ t. over q k i (nltb→le (q * 2 ^ k) (2 ^ 277) t))
  where
    go : (b : Bool) → (T b → k * lead + q ≤ infinite) → (T (not b) → infinite ≤ k * lead + q)
        → to_bits binary32 (cond b (odd 25 s q k 149) (inf s)) ≡ sign_bit s + min (k * lead + q) infinite
    go true u v =
        let l = u tt in
        value_bits (odd 25 s q k 149) s (q * 2 ^ k) (odd_sign 25 s q k 149) ∙ ap (λ (x : ℕ). sign_bit s + x) (written q k i ∙ omega arith)
    go false u v =
        let l = v tt in
        infinity_bits s ∙ ap (λ (x : ℕ). sign_bit s + x) (omega arith)

pub round_bits : (s : Bool) (w : ℕ) → to_bits binary32 (round binary32 s w (2 ^ 149)) ≡ sign_bit s + nearest_bits w
unfolding nearest_bits
round_bits s w =
    let k = size w - 24 in
    ap (to_bits binary32)
    (round_is binary32 s w (2 ^ 149)
    ∙ ap (λ (x : ℕ). core binary32 s (w * 2 ^ 149) (2 ^ 149) (size x - 24)) (mul-div_cancel w (pow_pos 149))
    ∙ ap (λ (x : ℕ). units binary32 s x k) (closest_same (w * 2 ^ 149) (2 ^ 149 * 2 ^ k) w (2 ^ k) (mul-pos (pow_pos 149) (pow_pos k)) (pow_pos k) (mul_assoc w (2 ^ 149) (2 ^ k))))
    ∙ units_bits s (closest w (2 ^ k)) k (kept w)

-- ---- what bits stand for

fields : (s : Bool) (p x t : ℕ) → p < infinite → p / lead ≡ x → p % lead ≡ t → of_fields binary32 s x t ≡ odd 24 s (digits p) (place p) 149
unfolding of_fields place digits
fields s p zero t h e f =
    let q : t ≡ digits p = omega arith in
    let k : 0 ≡ place p = omega arith in
    ap₂ (λ (q k : ℕ). odd 24 s q k 149) q k
fields s p (suc x) t h e f =
    let q : lead + t ≡ digits p = omega arith in
    let k : x ≡ place p = omega arith in
    ap (λ (b : Bool). cond b (cond (eqb t 0) (inf s) nan) (odd 24 s (lead + t) x 149)) (ne_eqb (suc x) 255 (λ (z : suc x ≡ 255). omega arith))
    ∙ ap₂ (λ (q k : ℕ). odd 24 s q k 149) q k

pub stands : (a : ℕ) → a % sign < infinite → HasValue (of_bits binary32 a) (leb sign a) (magnitude (a % sign)) (2 ^ 149)
unfolding of_bits magnitude
stands a h =
    subst (λ (x : Float). HasValue x (leb sign a) (magnitude (a % sign)) (2 ^ 149)) (sym (fields (leb sign a) (a % sign) (a % sign / lead) (a % lead) h refl (omega arith)))
    (odd_sign 24 (leb sign a) (digits (a % sign)) (place (a % sign)) 149)

neg_value : (x : Float) (s : Bool) (w c : ℕ) → HasValue x s w c → HasValue (neg x) (not s) w c
unfolding neg
neg_value nan s w c h = h
neg_value (inf t) s w c h = h
neg_value (fin t m e) s w c h = (ap not h.0, h.1)

-- ---- which bits are finite

odd_finite : (d : ℕ) (s : Bool) (q k l : ℕ) → finite (odd d s q k l) ≡ true
unfolding odd
odd_finite d s zero k l = refl
odd_finite d s (suc q) k l = refl

-- all are finite but those whose exponent field is all ones
fields_finite : (s : Bool) (x t : ℕ) → finite (of_fields binary32 s x t) ≡ not (eqb x 255)
unfolding of_fields
fields_finite s zero t = odd_finite 24 s t 0 149
fields_finite s (suc x) t = go (eqb (suc x) 255)
  where
    unbounded : (b : Bool) → finite (cond b (inf s) nan) ≡ false
    unbounded true = refl
    unbounded false = refl

    go : (b : Bool) → finite (cond b (cond (eqb t 0) (inf s) nan) (odd 24 s (lead + t) x 149)) ≡ not b
    go true = unbounded (eqb t 0)
    go false = odd_finite 24 s (lead + t) x 149

exponent : (n : ℕ) (t : Bool) → ltb (n % sign) infinite ≡ t → not (eqb (n % sign / lead) 255) ≡ t
exponent n true h = ap not (ne_eqb (n % sign / lead) 255 (λ e. omega (arith, ltb-true (n % sign) infinite h)))
exponent n false h = ap not (eq-eqb (n % sign / lead) 255 (omega (arith, ltb-false (n % sign) infinite h)))

-- finite, by the bits without the sign
pub finite_bits : (n : ℕ) → finite (of_bits binary32 n) ≡ ltb (n % sign) infinite
unfolding of_bits
finite_bits n = fields_finite (leb sign n) (n % sign / lead) (n % lead) ∙ exponent n _ refl

-- ---- a sum goes by its operands' values, over any common denominator

ltb_same : (a b c A B C : ℕ) → 0 < c → 0 < C → a * C ≡ A * c → b * C ≡ B * c → ltb a b ≡ ltb A B
ltb_same a b c A B C p P e f = go (ltb a b) refl
  where
    go : (t : Bool) → ltb a b ≡ t → t ≡ ltb A B
    go true t =
        let l : a * C < b * C = mul-lt-mul_of_pos_right (ltb-true a b t) P in
        sym (lt-ltb A B (lt_of_mul-lt-mul_right c (omega arith)))
    go false t =
        let l : b * C ≤ a * C = mul-le-mul_right C (ltb-false a b t) in
        sym (le-ltb A B (le_of_mul-le-mul_right (omega arith) p))

sum_same : (s t : Bool) (a b c A B C : ℕ) → 0 < c → 0 < C → a * C ≡ A * c → b * C ≡ B * c → sum binary32 s a t b c ≡ sum binary32 s A t B C
unfolding sum
sum_same s t a b c A B C p P e f =
    ap₂ (λ (x y : Float). cond (beq s t) x (cond (ltb a b) (round binary32 t (b - a) c) y)) (same s (a + b) (A + B) (omega arith)) more
    ∙ ap₂ (λ (x : Float) (g : Bool). cond (beq s t) (round binary32 s (A + B) C) (cond g x (round binary32 (s && ltb B A) (A - B) C))) (same t (b - a) (B - A) (differ b a B A f e)) (ltb_same a b c A B C p P e f)
  where
    same : (s : Bool) (x X : ℕ) → x * C ≡ X * c → round binary32 s x c ≡ round binary32 s X C
    same s x X h = round_same binary32 s x c X C p P h

    differ : (a b A B : ℕ) → a * C ≡ A * c → b * C ≡ B * c → (a - b) * C ≡ (A - B) * c
    differ a b A B e f = omega (arith, mul-sub C a b, mul-sub c A B)

    more : round binary32 (s && ltb b a) (a - b) c ≡ round binary32 (s && ltb B A) (A - B) C
    more = same (s && ltb b a) (a - b) (A - B) (differ a b A B e f) ∙ ap (λ (g : Bool). round binary32 (s && g) (A - B) C) (ltb_same b a c B A C p P f e)

add_values : (x y : Float) (s t : Bool) (A B C : ℕ) → 0 < C → HasValue x s A C → HasValue y t B C → add binary32 x y ≡ sum binary32 s A t B C
unfolding add
add_values nan y s t A B C P h k = absurd h
add_values (inf s') y s t A B C P h k = absurd h
add_values (fin s' m e) nan s t A B C P h k = absurd k
add_values (fin s' m e) (inf t') s t A B C P h k = absurd k
add_values (fin s' m e) (fin t' n d) s t A B C P h k =
    ap₂ (λ (x y : Bool). sum binary32 x (m * up e * down d) y (n * up d * down e) (down e * down d)) h.0 k.0
    ∙ sum_same s t (m * up e * down d) (n * up d * down e) (down e * down d) A B C (mul-pos (down_pos e) (down_pos d)) P
    (omega (arith, ap (λ (z : ℕ). z * down d) h.1)) (omega (arith, ap (λ (z : ℕ). z * down e) k.1))

-- ---- the exact sum, rounded once

-- a size that is rounded with a number's own sign
rounds : {z : ℤ} (s : Bool) (w : ℕ) → IsSigned z s w → to_bits binary32 (round binary32 s w (2 ^ 149)) ≡ bits_of z
rounds s w i = round_bits s w ∙ sym (bits_signed i)

-- the larger, less the smaller, has the sign of the larger; nothing has none
differs : (s : Bool) (A B : ℕ) → to_bits binary32 (cond (ltb A B) (round binary32 (not s) (B - A) (2 ^ 149)) (round binary32 (s && ltb B A) (A - B) (2 ^ 149))) ≡ bits_of (signed s A +ℤ signed (not s) B)
differs s A B = go (compare A B) (told A B)
  where
    go : (o : Ordering) → Told o A B → to_bits binary32 (cond (ltb A B) (round binary32 (not s) (B - A) (2 ^ 149)) (round binary32 (s && ltb B A) (A - B) (2 ^ 149))) ≡ bits_of (signed s A +ℤ signed (not s) B)
    go Ordering.lt l = rw (lt-ltb A B l) (rounds (not s) (B - A) (record { is = add_less s A B l; some = λ t. omega arith }))
    go Ordering.eq e =
        let n : A - B ≡ 0 = omega arith in
        rw (le-ltb A B (le_of_eq (sym e)), le-ltb B A (le_of_eq e), and-false s) (rounds false (A - B) (record { is = add_more s A B (le_of_eq (sym e)) ∙ ap (signed s) n ∙ unsigned s ∙ ap (signed false) (sym n); some = λ t. absurd t }))
    go Ordering.gt l = rw (le-ltb A B (le_of_lt l), lt-ltb B A l, and-true s) (rounds s (A - B) (record { is = add_more s A B (le_of_lt l); some = λ t. omega arith }))

-- of numbers by sign and size, of which the first is not negative zero
sum_bits : (s t : Bool) (A B : ℕ) → (T s → 0 < A) → to_bits binary32 (sum binary32 s A t B (2 ^ 149)) ≡ bits_of (signed s A +ℤ signed t B)
unfolding sum
sum_bits true true A B h = rounds true (A + B) (record { is = add_like true A B; some = λ t. omega (arith, h t) })
sum_bits false false A B h = rounds false (A + B) (record { is = add_like false A B; some = λ t. absurd t })
sum_bits true false A B h = differs true A B
sum_bits false true A B h = differs false A B

module _ (a b : ℕ) (wide : a < 2 ^ 32) (fa : a % sign < infinite) (fb : b % sign < infinite) (nonzero : a ≡ sign → ⊥) where
  pub add_bits : to_bits binary32 (add binary32 (of_bits binary32 a) (of_bits binary32 b)) ≡ bits_of (scaled a +ℤ scaled b)
  unfolding scaled
  add_bits =
      ap (to_bits binary32) (add_values (of_bits binary32 a) (of_bits binary32 b) (leb sign a) (leb sign b) (magnitude (a % sign)) (magnitude (b % sign)) (2 ^ 149) (pow_pos 149) (stands a fa) (stands b fb))
      ∙ sum_bits (leb sign a) (leb sign b) (magnitude (a % sign)) (magnitude (b % sign)) (not_zero a wide nonzero)

  -- a difference is the sum with the second sign turned
  pub sub_bits : to_bits binary32 (sub binary32 (of_bits binary32 a) (of_bits binary32 b)) ≡ bits_of (scaled a -ℤ scaled b)
  unfolding scaled sub
  sub_bits =
      let B = magnitude (b % sign) in
      let turned = neg_value (of_bits binary32 b) (leb sign b) B (2 ^ 149) (stands b fb) in
      ap (to_bits binary32) (add_values (of_bits binary32 a) (neg (of_bits binary32 b)) (leb sign a) (not (leb sign b)) (magnitude (a % sign)) B (2 ^ 149) (pow_pos 149) (stands a fa) turned)
      ∙ sum_bits (leb sign a) (not (leb sign b)) (magnitude (a % sign)) B (not_zero a wide nonzero)
      ∙ ap (λ (z : ℤ). bits_of (scaled a +ℤ z)) (sym (neg_signed (leb sign b) B))
