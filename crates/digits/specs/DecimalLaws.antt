-- Laws of the text of numbers: the digits that `io` writes, and how many there are at most. Assumes nothing.
use Rattle.std.specs.Prelude.{◌≡◌, refl, ℕ, zero, suc, ◌-◌, ◌*◌, ◌/◌, ◌%◌, ◌^◌, ◌≤◌, ◌<◌, length}
use Rattle.std.proofs.Common.{pow-suc, arith, length-append, lt-ltb}
use Rattle.std.proofs.Math.Nat.{one-le-pow}
use Rattle.io.specs.Digits.{last_digits, hex_digit_ascii, IsDigitCount}
use Rattle.text.specs.Lines.{digit, digits_within, decimal}

-- a digit below 10
glyph_digit : (d : ℕ) → d < 10 → hex_digit_ascii d ≡ digit d
glyph_digit d h = rw (lt-ltb d 10 h)

less : (k : ℕ) → suc k - 1 ≡ k
less k = omega arith

-- a number of more digits than k has a tenth of k
tenth : (k n : ℕ) → 10 ^ k ≤ n → 0 < k → 10 ^ (k - 1) ≤ n / 10
tenth zero n some h = absurd (omega arith)
tenth (suc k) n some h =
    let more : 10 ^ k * 10 ≤ n = rw pow-suc at some in
    rw (less k) (omega arith)

-- the digits of a number, where there are no more than it needs
digits_within_lem : (k most n : ℕ) → n ≤ most → n < 10 ^ k → (0 < k → 10 ^ (k - 1) ≤ n) → last_digits 10 k n ≡ digits_within most n
unfolding digits_within
digits_within_lem zero zero n h low high = refl
digits_within_lem zero (suc most) zero h low high = refl
digits_within_lem zero (suc most) (suc n) h low high = absurd (omega arith)
digits_within_lem (suc k) most zero h low high =
    let some : 10 ^ k ≤ 0 = rw (less k) at (high (omega arith)) in
    absurd (omega (arith, one-le-pow k 10 (omega arith)))
digits_within_lem (suc k) zero (suc n) h low high = absurd (omega arith)
digits_within_lem (suc k) (suc most) (suc n) h low high =
    let few : suc n < 10 ^ k * 10 = rw pow-suc at low in
    let some : 10 ^ k ≤ suc n = rw (less k) at (high (omega arith)) in
    rw (glyph_digit (suc n % 10) (omega arith), digits_within_lem k most (suc n / 10) (omega arith) (omega arith) (tenth k (suc n) some))

-- "in the fewest digits"
pub digits_decimal : (r n : ℕ) → IsDigitCount 10 1 n r → last_digits 10 r n ≡ decimal n
unfolding decimal
digits_decimal zero n f = absurd (omega (arith, f.0))
digits_decimal (suc k) n f =
    let few : n < 10 ^ k * 10 = rw pow-suc at f.1 in
    rw (glyph_digit (n % 10) (omega arith), digits_within_lem k n (n / 10) (omega arith) (omega arith) (λ h. tenth k n (rw (less k) at (f.2 (omega arith))) h))

within_few : (k most n : ℕ) → n < 10 ^ k → length (digits_within most n) ≤ k
unfolding digits_within
within_few k zero n h = omega arith
within_few k (suc most) zero h = omega arith
within_few zero (suc most) (suc n) h = absurd (omega arith)
within_few (suc k) (suc most) (suc n) h =
    let small : suc n < 10 ^ k * 10 = rw pow-suc at h in
    simp length-append (omega (arith, within_few k most (suc n / 10) (omega arith)))

-- a number below 10 to the k has at most k digits
pub decimal_few : (k n : ℕ) → n < 10 ^ suc k → length (decimal n) ≤ suc k
unfolding decimal
decimal_few k n h =
    let small : n < 10 ^ k * 10 = rw pow-suc at h in
    simp length-append (omega (arith, within_few k n (n / 10) (omega arith)))
