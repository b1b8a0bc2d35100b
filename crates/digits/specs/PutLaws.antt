-- The laws of text put into a buffer: stores one after the other, digits and the loop over bytes. Assumes nothing.
use Rattle.std.specs.Prelude.{◌≡◌, refl, ℕ, ◌+◌, ◌*◌, ◌/◌, ◌%◌, ◌≤◌, ◌<◌, length, get_or, take, drop, set}
use Rattle.std.proofs.Common.{ap, ◌∙◌, add-one, arith, length-append, length-drop, length-set, get_or-drop, take-suc, length-take-le}
use mathlib.Core.List.{List, [], ◌∷◌, ◌++◌, flat_map, append-nil}
use Rattle.basis.specs.PadLaws.{Wide, flat_map_append, rows_length}
use Rattle.basis.specs.Sizes.{bits_width, positions, processes}
use Rattle.words.specs.Over.{over}
use Rattle.words.specs.OverLaws.{over_set, over_append, over_none}
use Rattle.io.specs.Digits.{last_digits, IsDigitCount}
use Rattle.text.specs.Lines.{hex_digit, decimal, hex_byte}
use Rattle.text.specs.Written.{most_digits, byte_room, process_room}
use Rattle.digits.specs.Put.{Put}
use Rattle.digits.specs.DecimalLaws.{digits_decimal, decimal_few}

-- ---- text after text

-- one byte
pub put_one : (d : List ℕ) (at b : ℕ) → at < length d → Put (b ∷ []) d (set d at b) at (at + 1)
put_one d at b h = record { index = refl; bytes = over_set d at b h }

pub put_then : (s t d e f : List ℕ) (at a b : ℕ) → a ≤ length d → Put s d e at a → Put t e f a b → Put (s ++ t) d f at b
put_then s t d e f at a b room p q = record {
  index = q.index ∙ omega (arith, p.index, length-append s t);
  bytes = rw (length-append s t) (q.bytes ∙ rw (p.index, p.bytes) (over_append d at s (length s) t (length t) (omega (arith, p.index)) refl));
}

-- ---- hexadecimal digits

pub byte_stored : (d : List ℕ) (at b x y : ℕ) → at + 2 ≤ length d → x ≡ hex_digit (b / 16) → y ≡ hex_digit (b % 16) → set (set d at x) (at + 1) y ≡ over d at (hex_byte b) 2
unfolding hex_byte
byte_stored d at b x y h e f =
    let l : length (set d at x) ≡ length d = length-set d at x in
    over_set (set d at x) (at + 1) y (omega arith)
    ∙ ap (λ (r : List ℕ). over r (at + 1) (y ∷ []) 1) (over_set d at x (omega arith))
    ∙ over_append d at (x ∷ []) 1 (y ∷ []) 1 (omega arith) refl
    ∙ rw (e, f)

-- those of the first i of some bytes
abbrev pub hex_bytes : ℕ → List ℕ → List ℕ
hex_bytes i s = flat_map hex_byte (take i s)

hex_byte_wide : Wide 2 hex_byte
unfolding hex_byte
hex_byte_wide b = refl

pub hex_length : (i : ℕ) (s : List ℕ) → i ≤ length s → length (hex_bytes i s) ≡ 2 * i
hex_length i s h = rows_length 2 hex_byte hex_byte_wide (take i s) ∙ omega (arith, length-take-le i s h)

hex_snoc : (l : List ℕ) (b : ℕ) → flat_map hex_byte (l ++ (b ∷ [])) ≡ flat_map hex_byte l ++ hex_byte b
unfolding flat_map
hex_snoc l b = flat_map_append hex_byte l (b ∷ []) ∙ ap (λ (r : List ℕ). flat_map hex_byte l ++ r) (append-nil (hex_byte b))

pub bits_none : (d : List ℕ) (at : ℕ) (s : List ℕ) → d ≡ over d at (hex_bytes 0 s) (2 * 0)
unfolding flat_map
bits_none d at s = over_none d at []

pub bits_more : (d e f : List ℕ) (at : ℕ) (l : List ℕ) (from i : ℕ) → from + i < length l → at + 2 * (i + 1) ≤ length d
    → e ≡ over d at (hex_bytes i (drop from l)) (2 * i) → f ≡ over e (at + 2 * i) (hex_byte (get_or l (from + i) 0)) 2 → f ≡ over d at (hex_bytes (i + 1) (drop from l)) (2 * (i + 1))
bits_more d e f at l from i within room p q =
    let s : List ℕ = drop from l in
    let h : i < length (drop from l) = simp length-drop (omega arith) in
    let w : length (hex_bytes i s) ≡ 2 * i = hex_length i s (omega arith) in
    let n : 2 * (i + 1) ≡ 2 * i + 2 = omega arith in
    let t : take (i + 1) s ≡ take i s ++ (get_or s i 0 ∷ []) = rw (add-one i) (take-suc s i 0 h) in
    q ∙ rw (p, n, t, ← get_or-drop from l i 0, hex_snoc (take i s) (get_or s i 0)) (over_append d at (hex_bytes i s) (2 * i) (hex_byte (get_or s i 0)) 2 (omega arith) w)

pub bits_all : (d e : List ℕ) (at : ℕ) (s : List ℕ) (i : ℕ) → i ≡ bits_width → e ≡ over d at (hex_bytes i s) (2 * i) → e ≡ over d at (hex_bytes bits_width s) (2 * bits_width)
bits_all d e at s i q p = rw q at p

-- ---- numbers

-- digits that `io` wrote, copied
module _ (n k : ℕ) (text : List ℕ) (counted : k ≡ length (take k text)) (fewest : IsDigitCount 10 1 n k) (written : take k text ≡ last_digits 10 k n) where
  pub number_text : take k text ≡ decimal n
  number_text = written ∙ digits_decimal k n fewest

  pub number_length : k ≡ length (decimal n)
  number_length = counted ∙ ap length number_text

  pub number_put : (d e : List ℕ) (at : ℕ) → e ≡ over d at (take k text) (length (take k text)) → Put (decimal n) d e at (at + k)
  number_put d e at p = record { index = ap (λ (m : ℕ). at + m) number_length; bytes = p ∙ rw number_text }

-- after a mark: those of a byte, and those of a process
pub part_put : (mark b x : ℕ) (d e : List ℕ) (at r : ℕ) → x ≡ b → b < 256 → Put (mark ∷ decimal x) d e at r → Put (mark ∷ decimal b) d e at r × (r ≤ at + byte_room)
part_put mark b x d e at r q h p = (rw q at p, omega (arith, p.index, decimal_few 2 x (omega arith)))

pub next_few : (mark n : ℕ) (d e : List ℕ) (at r : ℕ) → n < processes → Put (mark ∷ decimal n) d e at r → r ≤ at + process_room
next_few mark n d e at r h p = omega (arith, p.index, decimal_few 4 n (omega arith))

pub number_few : (n : ℕ) (d e : List ℕ) (at r : ℕ) → n < positions → Put (decimal n) d e at r → r ≤ at + most_digits
number_few n d e at r h p = omega (arith, p.index, decimal_few 9 n (omega arith))
