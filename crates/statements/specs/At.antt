-- Readers at a position of some bytes: what is read from there on, and the position after it. Assumes nothing.
use Rattle.std.specs.Prelude.{◌≡◌, refl, ℕ, zero, suc, ◌+◌, ◌-◌, ◌≤◌, ◌<◌, Bool, true, false, ◌⊎◌, List, [], ◌∷◌, length, drop, leb, T, IsSome}
use Rattle.std.specs.Prelude as code
use Rattle.std.specs.Prelude.{None, Some}
use Rattle.std.proofs.Common.{sym, ap, ◌∙◌, arith, inl, inr, length-drop, drop_of_length-le, drop-drop, leb-true, leb-false}
use Rattle.std.proofs.Math.Option.{Option, none, some, some-injective, none-ne-some}
use Rattle.basis.specs.Choice.{maybe, is_some, provided}
use Rattle.model.specs.Reading.{Reader, ◌>>=◌, give, refuse, byte, several, counted}
use Rattle.model.proofs.ReadBack.{then_some}

-- what was read of some bytes, with the position of what is left
abbrev pub placed : {A : Type 0} → List ℕ → Option (A × List ℕ) → Option (A × ℕ)
placed b none = none
placed b (some r) = some (r.0, length b - length r.1)

-- what is read from a position on, and the position after it
unfoldable pub read_at : {A : Type 0} → Reader A → List ℕ → ℕ → Option (A × ℕ)
read_at p b at = placed b (p (drop at b))

-- only what passes a test
unfoldable pub passed : {A : Type 0} → (A → Bool) → Option (A × ℕ) → Option (A × ℕ)
passed ok o = maybe o none (λ r. provided (ok r.0) r)

-- the position alone
unfoldable pub ended : {A : Type 0} → Option (A × ℕ) → Option ℕ
ended o = maybe o none (λ r. some r.1)

-- what the code read, with the position after it, as the definitions have it
abbrev pub read_as : {A B : Type 0} → (A → B) → code.Option (A × ℕ) → Option (B × ℕ)
read_as is None = none
read_as is (Some r) = some (is r.0, r.1)

-- what is there is read
pub some_read : {A B : Type 0} (is : A → B) (r : code.Option (A × ℕ)) (o : Option (B × ℕ)) → read_as is r ≡ o → T (is_some o) → IsSome r
unfolding is_some
some_read is None o e t = absurd (rw (← e) at t)
some_read is (Some r) o e t = refl

-- ---- what is left is a last part

-- a reader leaves a last part of the bytes
abbrev pub Suffix : {A : Type 0} → Reader A → Type 0
Suffix {A} p = (s rest : List ℕ) (a : A) → p s ≡ some (a, rest) → (k : ℕ) × (rest ≡ drop k s)

pub suffix_give : {A : Type 0} (a : A) → Suffix (give a)
unfolding give
suffix_give {A} a s rest b e = (0, ap (λ (r : A × List ℕ). r.1) (sym (some-injective (a, s) (b, rest) e)))

pub suffix_refuse : {A : Type 0} → Suffix {A = A} refuse
unfolding refuse
suffix_refuse s rest a e = absurd (none-ne-some (a, rest) e)

pub suffix_byte : Suffix byte
unfolding byte
suffix_byte [] rest a e = absurd (none-ne-some (a, rest) e)
suffix_byte (x ∷ s) rest a e = (1, ap (λ (r : ℕ × List ℕ). r.1) (sym (some-injective (x, s) (a, rest) e)))

pub suffix_then : {A B : Type 0} (p : Reader A) (f : A → Reader B) → Suffix p → ((a : A) → Suffix (f a)) → Suffix (p >>= f)
suffix_then p f h k s rest b e =
    let r = then_some p f s (b, rest) e in
    let x = h s r.left r.item r.first in
    let y = k r.item r.left rest b r.later in
    (x.0 + y.0, y.1 ∙ ap (λ (l : List ℕ). drop y.0 l) x.1 ∙ drop-drop y.0 x.0 s)

pub suffix_last : {A B : Type 0} (p : Reader A) (made : A → B) → Suffix p → Suffix (p >>= λ x. give (made x))
suffix_last p made h = suffix_then p _ h (λ a. suffix_give (made a))

pub suffix_several : {A : Type 0} (p : Reader A) → Suffix p → (n : ℕ) → Suffix (several p n)
unfolding several
suffix_several p h zero = suffix_give []
suffix_several p h (suc n) = suffix_then p _ h (λ a. suffix_last (several p n) (λ l. a ∷ l) (suffix_several p h n))

pub suffix_counted : {A : Type 0} (p : Reader A) → Suffix p → Suffix (counted p)
unfolding counted
suffix_counted p h = suffix_then byte (several p) suffix_byte (λ n. suffix_several p h n)

-- ---- between a reader and the same at a position

-- at most, or above
pub which : (m n : ℕ) → (m ≤ n) ⊎ (n < m)
which m n = go (leb m n) refl
  where
    go : (t : Bool) → leb m n ≡ t → (m ≤ n) ⊎ (n < m)
    go true e = inl (leb-true m n e)
    go false e = inr (leb-false m n e)

-- the last part that is left stands at the position that its length says
pub suffix_at : {A : Type 0} (p : Reader A) → Suffix p → (b : List ℕ) (at : ℕ) (a : A) (rest : List ℕ) → p (drop at b) ≡ some (a, rest) → drop (length b - length rest) b ≡ rest
suffix_at p h b at a rest e =
    let x = h (drop at b) rest a e in
    let r : rest ≡ drop (at + x.0) b = x.1 ∙ drop-drop x.0 at b in
    go (at + x.0) r (ap length r ∙ length-drop (at + x.0) b) (which (at + x.0) (length b))
  where
    go : (k : ℕ) → rest ≡ drop k b → length rest ≡ length b - k → (k ≤ length b) ⊎ (length b < k) → drop (length b - length rest) b ≡ rest
    go k r n (inl l) = let same : length b - length rest ≡ k = omega arith in rw same (sym r)
    go k r n (inr l) =
        let none : rest ≡ [] = r ∙ drop_of_length-le b {i = k} (omega arith) in
        drop_of_length-le b {i = length b - length rest} (omega (arith, ap length none)) ∙ sym none

-- what is read at a position is what the reader reads there
pub record ReadAt {A : Type 0} (p : Reader A) (b : List ℕ) (at : ℕ) (a : A) (end : ℕ) : Type 0 where
  pub reads : p (drop at b) ≡ some (a, drop end b)
  pub within : end ≤ length b

pub read_at_some : {A : Type 0} (p : Reader A) → Suffix p → (b : List ℕ) (at : ℕ) (a : A) (end : ℕ) → read_at p b at ≡ some (a, end) → ReadAt p b at a end
unfolding read_at
read_at_some {A} p h b at a end e = go (p (drop at b)) refl e
  where
    go : (o : Option (A × List ℕ)) → p (drop at b) ≡ o → placed b o ≡ some (a, end) → ReadAt p b at a end
    go none q e = absurd (none-ne-some (a, end) e)
    go (some r) q e =
        let same = some-injective (r.0, length b - length r.1) (a, end) e in
        let x : r.0 ≡ a = ap (λ (z : A × ℕ). z.0) same in
        let y : length b - length r.1 ≡ end = ap (λ (z : A × ℕ). z.1) same in
        let l : r.1 ≡ drop end b = sym (suffix_at p h b at r.0 r.1 q) ∙ ap (λ (n : ℕ). drop n b) y in
        record { reads = q ∙ (λ i. some (x i, l i)); within = omega arith }

pub read_at_none : {A : Type 0} (p : Reader A) (b : List ℕ) (at : ℕ) → read_at p b at ≡ none → p (drop at b) ≡ none
unfolding read_at
read_at_none {A} p b at e = go (p (drop at b)) e
  where
    go : (o : Option (A × List ℕ)) → placed b o ≡ none → o ≡ none
    go none e = refl
    go (some r) e = absurd (none-ne-some (r.0, length b - length r.1) (sym e))

pub some_read_at : {A : Type 0} (p : Reader A) (b : List ℕ) (at : ℕ) (a : A) (end : ℕ) → p (drop at b) ≡ some (a, drop end b) → end ≤ length b → read_at p b at ≡ some (a, end)
unfolding read_at
some_read_at p b at a end e h =
    let n : length b - length (drop end b) ≡ end = omega (arith, length-drop end b) in
    rw (e, n)

pub none_read_at : {A : Type 0} (p : Reader A) (b : List ℕ) (at : ℕ) → p (drop at b) ≡ none → read_at p b at ≡ none
unfolding read_at
none_read_at p b at e = rw e

-- nothing is read, nothing passes
pub passed_none : {A : Type 0} (ok : A → Bool) (o : Option (A × ℕ)) → o ≡ none → passed ok o ≡ none
unfolding passed
passed_none ok o e = rw e
