-- The hosts that are up, as a list and as a mask, a bit for each host: a place of the list is a bit of the mask, and what holds true counts its ones. Assumes nothing.
use Prim.Native.Nat.{ℕ, zero, suc, ◌+◌, ◌*◌, ◌/◌, ◌%◌, ◌^◌, ◌<◌}
use mathlib.Core.Path.{◌≡◌, refl, sym, ap, ap₂, ◌∙◌}
use mathlib.Core.Bool.{Bool, true, false, cond}
use mathlib.Core.List.{List, [], ◌∷◌}
use native.Mathlib.Nat.{pow-suc, mul_comm, one-mul, zero-div, div-div-eq-div-mul}
use native.Mathlib.Omega.{arith}
use lib.ListN.{length, get_or, set, length-set}
use lib.Dec.{eqb, lit<}
use lib.Pow.{shl_exact}
use lib.Count.{ones, ones_step}
use Rattle.basis.specs.Numbers.{mask, bits, count}
use Rattle.basis.specs.PadLaws.{bits_length, mask_bits, mask_lt}
use Rattle.basis.specs.Sizes.{hosts}

abbrev bit : Bool → ℕ
bit b = cond b 1 0

bit_lt : (b : Bool) → bit b < 2
bit_lt true = omega arith
bit_lt false = omega arith

-- the mask of one host, `1 << h`
shifted : (h : ℕ) → h < hosts → 1 * 2 ^ h % (2 ^ hosts) ≡ 2 ^ h
shifted h l = shl_exact 1 h hosts (lit< tt) (omega arith) ∙ one-mul (2 ^ h)

-- ---- a list and its mask

-- a place is the bit of its number
bit_at : (bs : List Bool) (h : ℕ) → mask bs / 2 ^ h % 2 ≡ bit (get_or bs h false)
unfolding mask
bit_at [] h = ap (λ (x : ℕ). x % 2) (zero-div (2 ^ h))
bit_at (b ∷ bs) zero = omega (arith, bit_lt b)
bit_at (b ∷ bs) (suc h) =
    let half : (bit b + 2 * mask bs) / 2 ≡ mask bs = omega (arith, bit_lt b) in
    ap (λ (k : ℕ). (bit b + 2 * mask bs) / k % 2) (pow-suc 2 h ∙ mul_comm (2 ^ h) 2)
    ∙ ap (λ (k : ℕ). k % 2) (sym (div-div-eq-div-mul (bit b + 2 * mask bs) 2 (2 ^ h)))
    ∙ ap (λ (x : ℕ). x / 2 ^ h % 2) half
    ∙ bit_at bs h

-- a place that comes to hold true, or false
raised : (bs : List Bool) (h : ℕ) → h < length bs → get_or bs h false ≡ false → mask bs + 2 ^ h ≡ mask (set bs h true)
unfolding mask
raised [] h l e = absurd (omega arith)
raised (b ∷ bs) zero l e = omega (arith, ap bit e)
raised (b ∷ bs) (suc h) l e = omega (arith, pow-suc 2 h, raised bs h (omega arith) e)

lowered : (bs : List Bool) (h : ℕ) → h < length bs → get_or bs h false ≡ true → mask bs ≡ mask (set bs h false) + 2 ^ h
unfolding mask
lowered [] h l e = absurd (omega arith)
lowered (b ∷ bs) zero l e = omega (arith, ap bit e)
lowered (b ∷ bs) (suc h) l e = omega (arith, pow-suc 2 h, lowered bs h (omega arith) e)

-- the count is that of the ones
ones_count : (bs : List Bool) → ones (mask bs) ≡ count bs
unfolding mask count
ones_count [] = unfold ones in refl
ones_count (b ∷ bs) =
    let low : (bit b + 2 * mask bs) % 2 ≡ bit b = omega (arith, bit_lt b) in
    let high : (bit b + 2 * mask bs) / 2 ≡ mask bs = omega (arith, bit_lt b) in
    ones_step (bit b + 2 * mask bs) ∙ ap₂ (λ (x y : ℕ). x + ones y) low high ∙ ap (λ (x : ℕ). bit b + x) (ones_count bs)

-- ---- a mask and its list

eqb_bit : (b : Bool) → eqb (bit b) 1 ≡ b
eqb_bit true = refl
eqb_bit false = refl

module _ (m : ℕ) (f : m < 2 ^ hosts) where
  pub up_at : (h : ℕ) → eqb (m / 2 ^ h % 2) 1 ≡ get_or (bits hosts m) h false
  up_at h =
      ap (λ (n : ℕ). eqb (n / 2 ^ h % 2) 1) (sym (mask_bits hosts m f))
      ∙ ap (λ (n : ℕ). eqb n 1) (bit_at (bits hosts m) h)
      ∙ eqb_bit (get_or (bits hosts m) h false)

  pub up_count : ones m ≡ count (bits hosts m)
  up_count = ap ones (sym (mask_bits hosts m f)) ∙ ones_count (bits hosts m)

  module _ (h : ℕ) (l : h < hosts) where
    pub rises : get_or (bits hosts m) h false ≡ false → m + 1 * 2 ^ h % (2 ^ hosts) ≡ mask (set (bits hosts m) h true)
    rises e = rw (shifted h l) (ap (λ (n : ℕ). n + 2 ^ h) (sym (mask_bits hosts m f)) ∙ raised (bits hosts m) h (rw (bits_length hosts m) l) e)

    pub rises_fits : get_or (bits hosts m) h false ≡ false → m + 1 * 2 ^ h % (2 ^ hosts) < 2 ^ hosts
    rises_fits e = rw (rises e) (rw (length-set, bits_length) at (mask_lt (set (bits hosts m) h true)))

    pub falls : get_or (bits hosts m) h false ≡ true → m ≡ mask (set (bits hosts m) h false) + 1 * 2 ^ h % (2 ^ hosts)
    falls e = rw (shifted h l) (sym (mask_bits hosts m f) ∙ lowered (bits hosts m) h (rw (bits_length hosts m) l) e)
