-- Bytes put one after the other, each from the index after those before it. Assumes nothing.
use Rattle.std.specs.Prelude.{◌≡◌, refl, List, [], ◌∷◌, ◌++◌, ℕ, ◌+◌, ◌≤◌, ◌<◌, length, take, drop, set}
use Rattle.std.proofs.Common.{sym, ap, ◌∙◌, append_assoc, arith, length-append, length-set, take_at, length-take-le}
use Rattle.words.specs.Over.{over}
use Rattle.words.specs.OverLaws.{over_parts, over_length, over_append, over_set, over_none}

-- `bytes` stand in `after` from index `at` up to index `end`, all else is as in `before`
pub record Puts (before : List ℕ) (at : ℕ) (bytes after : List ℕ) (end : ℕ) : Type 0 where
  pub stops : end ≡ at + length bytes
  pub is : after ≡ over before at bytes (length bytes)

-- no byte yet
pub puts_none : (d : List ℕ) (at : ℕ) → Puts d at [] d at
puts_none d at = record { stops = omega arith; is = over_none d at [] }

-- one byte
pub puts_byte : (d : List ℕ) (at b : ℕ) → at < length d → Puts d at (b ∷ []) (set d at b) (at + 1)
puts_byte d at b h = record { stops = refl; is = over_set d at b h }

-- bytes of a fixed width
pub puts_over : (d : List ℕ) (at : ℕ) (s : List ℕ) (n : ℕ) (e : List ℕ) → length s ≡ n → e ≡ over d at s n → Puts d at s e (at + n)
puts_over d at s n e l h = record { stops = omega arith; is = h ∙ ap (over d at s) (sym l) }

-- bytes after bytes
pub puts_then : (d : List ℕ) (at : ℕ) (s e : List ℕ) (m : ℕ) (u f : List ℕ) (end : ℕ) → Puts d at s e m → Puts e m u f end → m ≤ length d → Puts d at (s ++ u) f end
puts_then d at s e m u f end p q h =
    let l : length (s ++ u) ≡ length s + length u = length-append s u in
    let room : at + length s ≤ length d = omega (arith, p.stops) in
    record {
      stops = omega (arith, p.stops, q.stops);
      is = q.is ∙ rw (p.is, p.stops, l) (over_append d at s (length s) u (length u) room refl);
    }

-- the same bytes, said otherwise
pub puts_as : (d : List ℕ) (at : ℕ) (s u e : List ℕ) (m : ℕ) → Puts d at s e m → s ≡ u → Puts d at u e m
puts_as d at s u e m p h = record { stops = p.stops ∙ ap (λ (l : List ℕ). at + length l) h; is = p.is ∙ ap (λ (l : List ℕ). over d at l (length l)) h }

-- one byte more
pub puts_snoc : (d : List ℕ) (at : ℕ) (s e : List ℕ) (m b : ℕ) → Puts d at s e m → m < length d → length e ≡ length d → Puts d at (s ++ (b ∷ [])) (set e m b) (m + 1)
puts_snoc d at s e m b p h l = puts_then d at s e m (b ∷ []) (set e m b) (m + 1) p (puts_byte e m b (omega arith)) (omega arith)

-- two bytes, and three
pub puts_two : (d : List ℕ) (at a b : ℕ) → at + 2 ≤ length d → Puts d at (a ∷ b ∷ []) (set (set d at a) (at + 1) b) (at + 2)
puts_two d at a b h =
    let e : at + 1 + 1 ≡ at + 2 = omega arith in
    rw e at (puts_snoc d at (a ∷ []) (set d at a) (at + 1) b (puts_byte d at a (omega arith)) (omega arith) (length-set d at a))

pub puts_three : (d : List ℕ) (at a b c : ℕ) → at + 3 ≤ length d → Puts d at (a ∷ b ∷ c ∷ []) (set (set (set d at a) (at + 1) b) (at + 2) c) (at + 3)
puts_three d at a b c h =
    let e : at + 2 + 1 ≡ at + 3 = omega arith in
    rw e at (puts_snoc d at (a ∷ b ∷ []) (set (set d at a) (at + 1) b) (at + 2) c (puts_two d at a b (omega arith)) (omega arith) (simp length-set))

-- the length stays
pub puts_length : (d : List ℕ) (at : ℕ) (s e : List ℕ) (m : ℕ) → Puts d at s e m → m ≤ length d → length e ≡ length d
puts_length d at s e m p h =
    let k : length s ≤ length s = omega arith in
    ap length p.is ∙ over_length d at s (length s) (omega (arith, p.stops)) k

-- the front, up to the last byte put
pub puts_take : (d : List ℕ) (at : ℕ) (s e : List ℕ) (m : ℕ) → Puts d at s e m → m ≤ length d → take m e ≡ take at d ++ s
puts_take d at s e m p h =
    let front : length (take at d) ≡ at = length-take-le at d (omega (arith, p.stops)) in
    let l : length (take at d ++ s) ≡ m = length-append (take at d) s ∙ omega (arith, p.stops) in
    let split : e ≡ (take at d ++ s) ++ drop (at + length s) d = p.is ∙ over_parts d at s (length s) refl ∙ sym (append_assoc (take at d) s (drop (at + length s) d)) in
    ap (take m) split ∙ take_at (take at d ++ s) (drop (at + length s) d) m l
