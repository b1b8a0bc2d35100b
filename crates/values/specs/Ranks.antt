-- A value's rank among those of its kind: values are in the order of their ranks. Assumes nothing.
use Rattle.std.specs.Prelude.{ℕ, ◌+◌, ◌-◌, ◌<◌, ◌≤◌, ◌≡◌, Bool, true, false, cond, leb, eqb}
use Rattle.std.proofs.Math.Path.{refl}
use Rattle.std.proofs.Common.{arith}
use borrow.Author.Tests.{leb-true, leb-false, le-leb, lt-leb, eq-eqb, ne_eqb}
use Rattle.rounding.specs.Parts.{sign}
use Rattle.model.specs.Value.{metres, is_negative, at_most}
use Rattle.model.proofs.OrderLaws.{ordered}

-- negative values come before the others, negative metres, whose bits are their size, the other way round
abbrev ranked : (turned negative : Bool) (bits : ℕ) → ℕ
ranked turned negative n = cond negative (cond turned (4294967295 - n) (n - sign)) (n + sign)

unfoldable pub rank : (kind bits : ℕ) → ℕ
rank k n = ranked (eqb k metres) (is_negative n) n

-- tests of numbers that are in the same order agree
leb_alike : (x y a b : ℕ) → (a ≤ b → x ≤ y) → (b < a → y < x) → leb x y ≡ leb a b
leb_alike x y a b up down = go (leb a b) refl
  where
    go : (t : Bool) → leb a b ≡ t → leb x y ≡ t
    go true e = le-leb x y (up (leb-true a b e))
    go false e = lt-leb x y (down (leb-false a b e))

-- the sign of bits
signed : (n : ℕ) → is_negative n ≡ true → sign ≤ n
unfolding is_negative
signed n e = leb-true sign n e

unsigned : (n : ℕ) → is_negative n ≡ false → n < sign
unfolding is_negative
unsigned n e = leb-false sign n e

module _ (a b : ℕ) (f : a < 4294967296) (g : b < 4294967296) where
  ranks : (turned s t : Bool) → is_negative a ≡ s → is_negative b ≡ t
      → leb (ranked turned s a) (ranked turned t b) ≡ ordered turned s t a b
  ranks true true true p q = leb_alike (4294967295 - a) (4294967295 - b) b a (λ h. omega (arith, h)) (λ h. omega (arith, h, g))
  ranks false true true p q = leb_alike (a - sign) (b - sign) a b (λ h. omega (arith, h)) (λ h. omega (arith, h, signed b q))
  ranks true true false p q = le-leb (4294967295 - a) (b + sign) (omega (arith, signed a p))
  ranks false true false p q = le-leb (a - sign) (b + sign) (omega (arith, f))
  ranks true false true p q = lt-leb (a + sign) (4294967295 - b) (omega (arith, signed b q))
  ranks false false true p q = lt-leb (a + sign) (b - sign) (omega (arith, g))
  ranks turned false false p q = leb_alike (a + sign) (b + sign) a b (λ h. omega (arith, h)) (λ h. omega (arith, h))

  -- one value is at most another where its rank is
  pub rank_order : (k : ℕ) → leb (rank k a) (rank k b) ≡ at_most k a b
  unfolding rank at_most
  rank_order k = ranks (eqb k metres) (is_negative a) (is_negative b) refl refl

-- ---- the rank by the tests of the code

module _ (k n : ℕ) where
  pub rank_other : n < sign → n + sign ≡ rank k n
  unfolding rank is_negative
  rank_other h = rw (lt-leb sign n h)

  pub rank_metres : sign ≤ n → k ≡ metres → 4294967295 - n ≡ rank k n
  unfolding rank is_negative
  rank_metres h e = rw (le-leb sign n h, eq-eqb k metres e)

  pub rank_negative : sign ≤ n → (k ≡ metres → ⊥) → n - sign ≡ rank k n
  unfolding rank is_negative
  rank_negative h d = rw (le-leb sign n h, ne_eqb k metres d)
