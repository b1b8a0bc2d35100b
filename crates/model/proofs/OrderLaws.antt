-- The order of values of one kind (`at_most`): it is total, and only a value itself is both at most it and at least it, so the range of one value holds no other (`within_exactly`).
-- It is the signed order of whole numbers (`whole_signed`), IEEE's of metres (`metres_ieee`), and that of names as numbers (`name_order`). Assumes nothing.
use Prim.Native.Nat.{ℕ, zero, suc, ◌+◌, ◌-◌, ◌*◌, ◌%◌, ◌^◌, ◌<◌, ◌≤◌, compare, Ordering}
use Rattle.std.specs.Prelude.{◌≡◌, refl, ◌↔◌, ◌⊎◌, Bool, true, false, not, ◌&&◌, ◌||◌, cond, T, leb, ltb, eqb, ℤ, ◌≤ℤ◌, Float}
use Rattle.std.proofs.Common.{sym, ap, ap₂, ◌∙◌, subst, inl, inr, le_refl, le_trans, le_antisymm, le_of_lt, le_of_eq, mul-pos, mul-le-mul_right, le_of_mul-le-mul_right, arith, leb→le, le→leb, pow_pos, to_z, lt-ltb, le-ltb, le-leb, ne_eqb, leb-true, leb-false, eqb-true}
use Rattle.std.proofs.Math.Dec.{nleb→lt, not_T, leb-suc-suc}
use Rattle.std.specs.Int.Signed.{le_z}
use Rattle.std.specs.Float.{fin, inf, nan, binary32}
use Rattle.std.specs.Float.Ieee.{up, down, below, level, le, of_bits}
use Rattle.std.specs.Float.Ieee.Exact.{HasValue}
use Rattle.std.specs.Float.Ieee.Fits.{down_pos}
use Rattle.std.specs.Int.{w32}
use Rattle.std.proofs.lemmas.Bool.{lt-leb, eqb-false}
use Rattle.basis.specs.Logic.{and_l, and_r, is_true, is_false}
use Rattle.rounding.specs.Parts.{sign, magnitude, signed, scaled}
use Rattle.rounding.specs.Closest.{Told, told}
use Rattle.rounding.specs.PartLaws.{magnitude_lt, magnitude_mono, magnitude_pos}
use Rattle.rounding.specs.Binary32.{stands}
use Rattle.model.specs.Value.{value, whole, name, metres, legal_value, is_negative, at_most, exactly, is_within}
use Rattle.model.specs.Metres.{LegalBits, legal_bits}

-- ---- a total order

-- the order by its tests: whether two negative values go the other way, whether a is negative, whether b is
abbrev pub ordered : (turned s t : Bool) (a b : ℕ) → Bool
ordered turned s t a b = cond s (cond t (cond turned (leb b a) (leb a b)) true) (not t && leb a b)

ordered_refl : (turned s : Bool) (a : ℕ) → T (ordered turned s s a a)
ordered_refl true true a = le→leb a a (le_refl a)
ordered_refl false true a = le→leb a a (le_refl a)
ordered_refl turned false a = le→leb a a (le_refl a)

leb_total : (a b : ℕ) → T (leb a b) ⊎ T (leb b a)
leb_total a b = go (leb a b) (nleb→lt a b)
  where
    go : (t : Bool) → (T (not t) → b < a) → T t ⊎ T (leb b a)
    go true h = inl tt
    go false h = inr (le→leb b a (le_of_lt (h tt)))

ordered_total : (turned s t : Bool) (a b : ℕ) → T (ordered turned s t a b) ⊎ T (ordered turned t s b a)
ordered_total true true true a b = leb_total b a
ordered_total false true true a b = leb_total a b
ordered_total turned true false a b = inl tt
ordered_total turned false true a b = inr tt
ordered_total turned false false a b = leb_total a b

leb_trans : (a b c : ℕ) → T (leb a b) → T (leb b c) → T (leb a c)
leb_trans a b c p q = le→leb a c (le_trans (leb→le a b p) (leb→le b c q))

ordered_trans : (turned s t u : Bool) (a b c : ℕ) → T (ordered turned s t a b) → T (ordered turned t u b c) → T (ordered turned s u a c)
ordered_trans true true true true a b c p q = leb_trans c b a q p
ordered_trans false true true true a b c p q = leb_trans a b c p q
ordered_trans turned true true false a b c p q = tt
ordered_trans turned true false true a b c p q = absurd q
ordered_trans turned true false false a b c p q = tt
ordered_trans turned false true u a b c p q = absurd p
ordered_trans turned false false true a b c p q = absurd q
ordered_trans turned false false false a b c p q = leb_trans a b c p q

leb_antisym : (a b : ℕ) → T (leb a b) → T (leb b a) → a ≡ b
leb_antisym a b p q = le_antisymm (leb→le a b p) (leb→le b a q)

ordered_antisym : (turned s t : Bool) (a b : ℕ) → T (ordered turned s t a b) → T (ordered turned t s b a) → a ≡ b
ordered_antisym true true true a b p q = leb_antisym a b q p
ordered_antisym false true true a b p q = leb_antisym a b p q
ordered_antisym turned true false a b p q = absurd q
ordered_antisym turned false true a b p q = absurd p
ordered_antisym turned false false a b p q = leb_antisym a b p q

-- a value is at most itself
pub at_most_refl : (k a : ℕ) → T (at_most k a a)
unfolding at_most
at_most_refl k a = ordered_refl (eqb k metres) (is_negative a) a

-- of two values one is at most the other
pub at_most_total : (k a b : ℕ) → T (at_most k a b) ⊎ T (at_most k b a)
unfolding at_most
at_most_total k a b = ordered_total (eqb k metres) (is_negative a) (is_negative b) a b

-- what is at most a second value, which is at most a third, is at most the third
pub at_most_trans : (k a b c : ℕ) → T (at_most k a b) → T (at_most k b c) → T (at_most k a c)
unfolding at_most
at_most_trans k a b c p q = ordered_trans (eqb k metres) (is_negative a) (is_negative b) (is_negative c) a b c p q

-- two values that are at most each other are one
pub at_most_antisym : (k a b : ℕ) → T (at_most k a b) → T (at_most k b a) → a ≡ b
unfolding at_most
at_most_antisym k a b p q = ordered_antisym (eqb k metres) (is_negative a) (is_negative b) a b p q

-- ---- ranges

-- within the range of one value is that value alone
pub within_exactly : (k m n : ℕ) → is_within k (exactly m) n ≡ eqb m n
unfolding is_within
within_exactly k m n = go (eqb m n) refl
  where
    go : (t : Bool) → eqb m n ≡ t → (at_most k m n && at_most k n m) ≡ t
    go true e =
        subst (λ (x : ℕ). (at_most k m x && at_most k x m) ≡ true) (eqb-true m n e)
        (rw (is_true (at_most k m m) (at_most_refl k m)))
    go false e =
        is_false (at_most k m n && at_most k n m)
        (not_T (at_most k m n && at_most k n m)
        (λ t. eqb-false m n e (at_most_antisym k m n (and_l (at_most k m n) (at_most k n m) t) (and_r (at_most k m n) (at_most k n m) t))))

-- ---- names

-- a name is at most another where its number is
pub name_order : (a b : ℕ) → a < 65536 → b < 65536 → at_most name a b ≡ leb a b
unfolding at_most is_negative
name_order a b p q = rw (lt-leb (2 ^ 31) a (omega arith), lt-leb (2 ^ 31) b (omega arith))

-- ---- whole numbers

-- tests of facts that follow from each other are one
leb_alike : (a b c d : ℕ) → (a ≤ b → c ≤ d) → (c ≤ d → a ≤ b) → leb a b ≡ leb c d
leb_alike a b c d f g = go (leb a b) refl
  where
    go : (t : Bool) → leb a b ≡ t → t ≡ leb c d
    go true e = sym (le-leb c d (f (leb-true a b e)))
    go false e = sym (is_false (leb c d) (not_T (leb c d) (λ t. clash (g (leb→le c d t)) (leb-false a b e))))
      where
        clash : a ≤ b → b < a → ⊥
        clash p q = omega arith

-- the test of the order, by the signed numbers
whole_test : (a b : ℕ) → a < 2 ^ 32 → b < 2 ^ 32 → at_most whole a b ≡ le_z (to_z w32 a) (to_z w32 b)
unfolding at_most is_negative
whole_test a b p q = go (leb (2 ^ 31) a) (leb (2 ^ 31) b) refl refl
  where
    go : (s t : Bool) → leb (2 ^ 31) a ≡ s → leb (2 ^ 31) b ≡ t → ordered false s t a b ≡ le_z (to_z w32 a) (to_z w32 b)
    go true true e f =
        rw (le-ltb a (2 ^ 31) (leb-true (2 ^ 31) a e), le-ltb b (2 ^ 31) (leb-true (2 ^ 31) b f))
        (leb_alike a b (2 ^ 32 - suc b) (2 ^ 32 - suc a) (λ h. omega arith) (λ h. omega arith))
    go true false e f = rw (le-ltb a (2 ^ 31) (leb-true (2 ^ 31) a e), lt-ltb b (2 ^ 31) (leb-false (2 ^ 31) b f))
    go false true e f = rw (lt-ltb a (2 ^ 31) (leb-false (2 ^ 31) a e), le-ltb b (2 ^ 31) (leb-true (2 ^ 31) b f))
    go false false e f = rw (lt-ltb a (2 ^ 31) (leb-false (2 ^ 31) a e), lt-ltb b (2 ^ 31) (leb-false (2 ^ 31) b f))

-- a test that is the order's of whole numbers says that order
by_test : (t : Bool) (x y : ℤ) → t ≡ le_z x y → T t ↔ (x ≤ℤ y)
by_test t x y e = (λ h. record { le = subst T e h }, λ h. subst T (sym e) h.le)

-- of whole numbers it is the order of the signed numbers
pub whole_signed : (a b : ℕ) → a < 2 ^ 32 → b < 2 ^ 32 → T (at_most whole a b) ↔ (to_z w32 a ≤ℤ to_z w32 b)
whole_signed a b p q = by_test (at_most whole a b) (to_z w32 a) (to_z w32 b) (whole_test a b p q)

-- ---- metres

-- a negative number is not zero
abbrev Nonzero : Bool → ℕ → Type 0
Nonzero s A = T s → 0 < A

-- the order of the bits is that of the sizes
sizes : (a b : ℕ) → LegalBits a → LegalBits b → at_most metres a b ≡ ordered true (leb sign a) (leb sign b) (magnitude (a % sign)) (magnitude (b % sign))
unfolding at_most is_negative
sizes a b p q = go (leb sign a) (leb sign b) refl refl
  where
    size_order : (p r : ℕ) → leb p r ≡ leb (magnitude p) (magnitude r)
    size_order p r = leb_alike p r (magnitude p) (magnitude r) (magnitude_mono p r) (λ h. back (compare p r) (told p r) h)
      where
        back : (o : Ordering) → Told o p r → magnitude p ≤ magnitude r → p ≤ r
        back Ordering.lt l h = le_of_lt l
        back Ordering.eq e h = le_of_eq e
        back Ordering.gt l h = absurd (omega (arith, magnitude_lt p r l))

    go : (s t : Bool) → leb sign a ≡ s → leb sign b ≡ t → ordered true s t a b ≡ ordered true s t (magnitude (a % sign)) (magnitude (b % sign))
    go true true e f =
        leb_alike b a (b % sign) (a % sign)
        (λ h. omega (arith, leb-true sign a e, leb-true sign b f, p.wide, q.wide)) (λ h. omega (arith, leb-true sign a e, leb-true sign b f, p.wide, q.wide))
        ∙ size_order (b % sign) (a % sign)
    go true false e f = refl
    go false true e f = refl
    go false false e f =
        leb_alike a b (a % sign) (b % sign)
        (λ h. omega (arith, leb-false sign a e, leb-false sign b f)) (λ h. omega (arith, leb-false sign a e, leb-false sign b f))
        ∙ size_order (a % sign) (b % sign)

-- a legal value is not negative zero
nonzero_size : (a : ℕ) → LegalBits a → Nonzero (leb sign a) (magnitude (a % sign))
nonzero_size a p t = magnitude_pos (a % sign) (go (leb→le sign a t) p.wide p.nonzero (a % sign) refl)
  where
    go : sign ≤ a → a < 2 ^ 32 → (a ≡ sign → ⊥) → (r : ℕ) → a % sign ≡ r → 0 < r
    go l w n zero e = absurd (n (omega arith))
    go l w n (suc r) e = omega arith

-- below or level
or_equal : (a b : ℕ) (e : Bool) → (e ≡ true → a ≡ b) → (e ≡ false → a ≡ b → ⊥) → (ltb a b || (e && true)) ≡ leb a b
or_equal a b true y n = rw (le-ltb a b (le_of_eq (sym (y refl))), le-leb a b (le_of_eq (y refl)))
or_equal a b false y n = go (compare a b) (told a b)
  where
    go : (o : Ordering) → Told o a b → (ltb a b || false) ≡ leb a b
    go Ordering.lt l = rw (lt-ltb a b l, le-leb a b (le_of_lt l))
    go Ordering.eq e = absurd (n refl e)
    go Ordering.gt l = rw (le-ltb a b (le_of_lt l), lt-leb a b l)

-- IEEE's order of two numbers by sign and size
le_tests : (s t : Bool) (A B : ℕ) → Nonzero s A → Nonzero t B → (below s A t B || level s A t B) ≡ ordered true s t A B
le_tests true true A B p q = or_equal B A (eqb A B) (λ e. sym (eqb-true A B e)) (λ e f. eqb-false A B e (sym f))
le_tests true false A B p q = rw (lt-ltb 0 (A + B) (omega (arith, p tt)))
le_tests false true A B p q = go (eqb A B) refl
  where
    go : (e : Bool) → eqb A B ≡ e → (e && eqb A 0) ≡ false
    go true e = ne_eqb A 0 (λ z. omega (arith, eqb-true A B e, q tt))
    go false e = refl
le_tests false false A B p q = or_equal A B (eqb A B) (eqb-true A B) (eqb-false A B)

-- sizes over one denominator are ordered as over another
over : (a b c A B C : ℕ) → 0 < c → 0 < C → a * C ≡ A * c → b * C ≡ B * c → leb a b ≡ leb A B
over a b c A B C p P e f =
    leb_alike a b A B (λ h. le_of_mul-le-mul_right (le_trans (le_of_eq (sym e)) (le_trans (mul-le-mul_right C h) (le_of_eq f))) p)
    (λ h. le_of_mul-le-mul_right (le_trans (le_of_eq e) (le_trans (mul-le-mul_right c h) (le_of_eq (sym f)))) P)

-- and none becomes zero
above : (a c A C : ℕ) → 0 < c → a * C ≡ A * c → 0 < A → 0 < a
above zero c A C p e h = absurd (omega (arith, mul-pos h p))
above (suc a) c A C p e h = omega arith

-- so IEEE's order of two values goes by sizes over any common denominator
le_fin : (s t : Bool) (a b c A B C : ℕ) → 0 < c → 0 < C → a * C ≡ A * c → b * C ≡ B * c → Nonzero s A → Nonzero t B → (below s a t b || level s a t b) ≡ ordered true s t A B
le_fin s t a b c A B C p P e f m n =
    le_tests s t a b (λ h. above a c A C p e (m h)) (λ h. above b c B C p f (n h))
    ∙ rw (over a b c A B C p P e f, over b a c B A C p P f e)

le_values : (x y : Float) (s t : Bool) (A B C : ℕ) → 0 < C → HasValue x s A C → HasValue y t B C → Nonzero s A → Nonzero t B → le x y ≡ ordered true s t A B
unfolding le
le_values nan y s t A B C P h k m n = absurd h
le_values (inf s') y s t A B C P h k m n = absurd h
le_values (fin s' m e) nan s t A B C P h k i j = absurd k
le_values (fin s' m e) (inf t') s t A B C P h k i j = absurd k
le_values (fin s' m e) (fin t' n d) s t A B C P h k i j =
    ap₂ (λ (x y : Bool). below x (m * up e * down d) y (n * up d * down e) || level x (m * up e * down d) y (n * up d * down e)) h.0 k.0
    ∙ le_fin s t (m * up e * down d) (n * up d * down e) (down e * down d) A B C (mul-pos (down_pos e) (down_pos d)) P
    (omega (arith, ap (λ (z : ℕ). z * down d) h.1)) (omega (arith, ap (λ (z : ℕ). z * down e) k.1)) i j

-- the order of two whole numbers by sign and size
le_z_tests : (s t : Bool) (A B : ℕ) → Nonzero s A → Nonzero t B → ordered true s t A B ≡ le_z (signed s A) (signed t B)
le_z_tests true t zero B p q = absurd (omega (arith, p tt))
le_z_tests false true A zero p q = absurd (omega (arith, q tt))
le_z_tests true true (suc a) zero p q = absurd (omega (arith, q tt))
le_z_tests true true (suc a) (suc b) p q = leb-suc-suc b a
le_z_tests true false (suc a) B p q = refl
le_z_tests false true A (suc b) p q = refl
le_z_tests false false A B p q = refl

module _ (a b : ℕ) (p : T (legal_value (value metres a))) (q : T (legal_value (value metres b))) where
  -- of metres it is the order of their numbers, as IEEE has it
  pub metres_ieee : at_most metres a b ≡ le (of_bits binary32 a) (of_bits binary32 b)
  metres_ieee =
      let u = legal_bits a p in
      let v = legal_bits b q in
      sizes a b u v
      ∙ sym (le_values (of_bits binary32 a) (of_bits binary32 b) (leb sign a) (leb sign b) (magnitude (a % sign)) (magnitude (b % sign)) (2 ^ 149) (pow_pos 149)
      (stands a u.below) (stands b v.below) (nonzero_size a u) (nonzero_size b v))

  -- and as the whole numbers of times 2 ^ -149 that they are
  pub metres_scaled : T (at_most metres a b) ↔ (scaled a ≤ℤ scaled b)
  unfolding scaled
  metres_scaled =
      let u = legal_bits a p in
      let v = legal_bits b q in
      by_test (at_most metres a b) (scaled a) (scaled b)
      (sizes a b u v ∙ le_z_tests (leb sign a) (leb sign b) (magnitude (a % sign)) (magnitude (b % sign)) (nonzero_size a u) (nonzero_size b v))
