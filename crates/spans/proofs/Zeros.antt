-- Whether bytes are zero, of the parts of the bytes. Assumes nothing.
use Rattle.std.specs.Prelude.{◌≡◌, ℕ, zero, suc, ◌+◌, ◌*◌, ◌<◌, Bool, ◌&&◌, List, [], ◌∷◌, length, take, drop, get_or, eqb}
use Rattle.std.proofs.Common.{ap, sym, ◌∙◌, refl, arith, take-append-drop, drop-drop, add-one}
use Rattle.std.proofs.lemmas.List.{take_more}
use Rattle.std.specs.Simd.{first_chunks}
use Rattle.basis.specs.Lists.{all}
use Rattle.words.specs.ZeroLaws.{and-true, and_assoc, all_append}

abbrev pub are_zero : List ℕ → Bool
are_zero l = all (λ b. eqb b 0) l

-- one byte more
pub zero_more : (l : List ℕ) (i : ℕ) → i < length l → are_zero (take (i + 1) l) ≡ (are_zero (take i l) && eqb (get_or l i 0) 0)
unfolding all
zero_more l i h = ap are_zero (take_more l i 0 h) ∙ all_append (λ b. eqb b 0) (take i l) _ ∙ ap (λ (b : Bool). are_zero (take i l) && b) (and-true (eqb (get_or l i 0) 0))

-- in pieces
pub zero_pieces : (n k : ℕ) (l : List ℕ) → (all are_zero (first_chunks n k l) && are_zero (drop (k * n) l)) ≡ are_zero l
unfolding all
zero_pieces n zero l = let e : 0 * n ≡ 0 = omega arith in ap (λ (j : ℕ). are_zero (drop j l)) e
zero_pieces n (suc k) l =
    let e : n + k * n ≡ suc k * n = omega arith in
    and_assoc (are_zero (take n l)) _ _
    ∙ ap (λ (r : List ℕ). are_zero (take n l) && (all are_zero (first_chunks n k (drop n l)) && are_zero r)) (ap (λ (j : ℕ). drop j l) (sym e) ∙ sym (drop-drop (k * n) n l))
    ∙ ap (λ (b : Bool). are_zero (take n l) && b) (zero_pieces n k (drop n l))
    ∙ sym (all_append (λ b. eqb b 0) (take n l) (drop n l))
    ∙ ap are_zero (take-append-drop n l)

-- a piece decides where it is not zero, else what is left
pub zero_next : (pieces : List (List ℕ)) (i : ℕ) (rest found b : Bool) → i < length pieces → found ≡ are_zero (get_or pieces i []) → found ≡ b
    → (all are_zero (drop i pieces) && rest) ≡ ((b && all are_zero (drop (i + 1) pieces)) && rest)
unfolding all
zero_next pieces i rest found b h e f = ap (λ (t : Bool). t && rest) (rw add-one (go pieces i h) ∙ ap (λ (t : Bool). t && all are_zero (drop (i + 1) pieces)) (sym e ∙ f))
  where
    go : (l : List (List ℕ)) (i : ℕ) → i < length l → all are_zero (drop i l) ≡ (are_zero (get_or l i []) && all are_zero (drop (suc i) l))
    go [] i h = absurd (omega arith)
    go (a ∷ l) zero h = refl
    go (a ∷ l) (suc i) h = go l i (omega arith)
