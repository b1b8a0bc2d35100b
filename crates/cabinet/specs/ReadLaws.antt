-- A count of bytes read into a part of a buffer counts bytes of the buffer, and none past the record. Assumes nothing.
use Rattle.std.specs.Prelude.{◌≡◌, refl, ℕ, ◌+◌, ◌-◌, ◌≤◌, ◌<◌, List, [], ◌∷◌, ◌++◌, length, take, drop}
use Rattle.std.proofs.Common.{sym, ap, ◌∙◌, arith, length-append, length-take, length-take-le}
use borrow.Rule.Slice.PartMut.{put_mid, take_put}
use Rattle.basis.specs.Numbers.{number_at}
use Rattle.basis.specs.Sizes.{length_at, length_width, body_at}
use Rattle.io.specs.Counts.{IsPrefixLen}
use Rattle.cabinet.specs.Printed.{size_said}

-- ---- bytes of the buffer

-- from its length
pub counts : (n : ℕ) (l : List ℕ) → n ≤ length l → IsPrefixLen n l
counts n l h = (h, sym (length-take-le n l h))

-- a front part
pub counts_front : (n : ℕ) (l k : List ℕ) → n ≤ length l → IsPrefixLen n (l ++ k)
counts_front n l k h = counts n (l ++ k) (simp length-append (omega arith))

-- a front part as it is, and one after it
pub counts_mid : (a k n : ℕ) (l p : List ℕ) → a ≤ length l → n ≤ length p → IsPrefixLen (a + n) (put_mid a k l p)
counts_mid a k n l p h e = counts (a + n) (put_mid a k l p) (simp length-append (omega (arith, length-take-le a l h)))

-- ---- bytes of the record

-- less than its head
pub within_head : (n : ℕ) (l : List ℕ) → n < body_at → n ≤ size_said l
within_head n l h = omega arith

length_in_head : (l : List ℕ) → number_at length_at length_width (take body_at l) ≡ number_at length_at length_width l
unfolding number_at
length_in_head [] = refl
length_in_head (a ∷ []) = refl
length_in_head (a ∷ b ∷ []) = refl
length_in_head (a ∷ b ∷ c ∷ []) = refl
length_in_head (a ∷ b ∷ c ∷ d ∷ l) = refl

-- its head, and of its body at most as many bytes as the head says
pub within_body : (w n : ℕ) (l p : List ℕ) → body_at ≤ length l → w ≡ number_at length_at length_width l → n ≤ length p → length p ≡ length (take (body_at + w - body_at) (drop body_at l)) → body_at + n ≤ size_said (put_mid body_at (body_at + w - body_at) l p)
within_body w n l p h e few part =
    let x : List ℕ = put_mid body_at (body_at + w - body_at) l p in
    let said : number_at length_at length_width x ≡ w = sym (length_in_head x) ∙ (ap (λ (k : List ℕ). number_at length_at length_width k) (take_put body_at (body_at + w - body_at) l p h) ∙ (length_in_head l ∙ sym e)) in
    omega (arith, length-take (body_at + w - body_at) (drop body_at l))
