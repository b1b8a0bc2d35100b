-- The loops that read and write a number of any width. Assumes nothing.
use Rattle.std.specs.Prelude.{◌≡◌, ℕ, ◌+◌, ◌*◌, ◌/◌, ◌%◌, ◌^◌, ◌≤◌, ◌<◌, List, [], ◌∷◌, length, get_or, set}
use Rattle.std.proofs.Common.{sym, ap, ◌∙◌, pow-suc, add-one, arith, lit<}
use Rattle.std.proofs.Math.Nat.{pow-le-pow_right}
use Rattle.basis.specs.Numbers.{big_endian, number_at}
use Rattle.basis.specs.NumberLaws.{big_endian_length}
use Rattle.basis.specs.Sizes.{most_width}
use Rattle.words.specs.Over.{over}
use Rattle.words.specs.OverLaws.{over_none, over_set, over_append, over_swap}
use Rattle.words.specs.WordLaws.{number_at_none, number_at_more}

-- n is the number of the first i bytes from at on
pub record Reading (s : List ℕ) (at n i : ℕ) : Type 0 where
  pub number : n ≡ number_at at i s
  pub below : n < 256 ^ i

pub reading_start : (s : List ℕ) (at : ℕ) → Reading s at 0 0
reading_start s at = record { number = sym (number_at_none at s); below = lit< tt }

-- a number that is not the widest leaves room for one byte more
pub reading_room : (s : List ℕ) (at n i : ℕ) → Reading s at n i → i < most_width → n < 16777216
reading_room s at n i h k = let m : 256 ^ i ≤ 256 ^ 3 = pow-le-pow_right (lit< tt) {i = i} {j = 3} (omega arith) in omega (arith, h.below)

pub reading_more : (s : List ℕ) (at n i : ℕ) → Reading s at n i → at + i < length s → get_or s (at + i) 0 < 256 → Reading s at (n * 256 + get_or s (at + i) 0) (i + 1)
reading_more s at n i h room byte =
    let e : 256 ^ (i + 1) ≡ 256 ^ i * 256 = ap (λ (k : ℕ). 256 ^ k) (add-one i) ∙ pow-suc 256 i in
    record {
      number = ap (λ (m : ℕ). m * 256 + get_or s (at + i) 0) h.number ∙ sym (ap (λ (k : ℕ). number_at at k s) (add-one i) ∙ number_at_more at i s room);
      below = rw e (omega (arith, h.below));
    }

-- the last byte of a number set, then those before it
pub writing_more : (d : List ℕ) (at j m : ℕ) → at + j < length d → over (set d (at + j) (m % 256)) at (big_endian j (m / 256)) j ≡ over d at (big_endian (j + 1) m) (j + 1)
unfolding big_endian
writing_more d at j m room =
    let x : List ℕ = big_endian j (m / 256) in
    let y : List ℕ = m % 256 ∷ [] in
    let l : length x ≡ j = big_endian_length j (m / 256) in
    ap (λ (r : List ℕ). over r at x j) (over_set d (at + j) (m % 256) room)
    ∙ (sym (over_swap d at x j (at + j) y 1 (omega arith) (omega arith) (omega arith))
    ∙ (over_append d at x j y 1 (omega arith) l ∙ ap (λ (k : ℕ). over d at (big_endian k m) (j + 1)) (sym (add-one j))))

pub writing_end : (d : List ℕ) (at m : ℕ) → over d at (big_endian 0 m) 0 ≡ d
unfolding big_endian
writing_end d at m = sym (over_none d at [])
