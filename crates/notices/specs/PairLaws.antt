-- A pair in the masks of a stored run: asked for, set and struck. Assumes nothing.
use Rattle.std.specs.Prelude.{◌≡◌, refl, ℕ, zero, suc, ◌+◌, ◌-◌, ◌<◌, Bool, true, false, List, [], ◌∷◌, length, get_or, set}
use Rattle.std.proofs.Common.{sym, ap, subst, ◌∙◌, arith}
use Rattle.basis.specs.Numbers.{mask, bits}
use Rattle.basis.specs.Sizes.{hosts, most_monitors}
use Rattle.model.specs.Run.{Run, has_room, noticed, owed_mask, is_owed, set_owed, laid_one}
use Rattle.model.specs.Step.{notified}
use Rattle.model.proofs.Debts.{mask_wide}
use Rattle.model.proofs.Effects.{owed_fit}
use Rattle.layout.specs.States.{decode}
use Rattle.layout.specs.Stored.{Stored, IsStored}
use Rattle.header.specs.Rows.{owed_part, with_row}
use Rattle.header.specs.RowLaws.{owed_changed}
use Rattle.header.specs.StoredLaws.{stored_says}
use Rattle.notices.specs.Pairs.{IsPair}

-- its place
pub place_low : (b : List ℕ) (m h : ℕ) → IsStored b → IsPair (decode b) m h → m - 1 < most_monitors
place_low b m h k p = omega (arith, p.one, p.given, k.fit.monitors)

-- the mask at its place, read and written
pub mask_at_lem : (s : Run) (u p m : ℕ) → p ≡ m - 1 → bits hosts u ≡ owed_mask s p → bits hosts u ≡ owed_mask s (m - 1)
mask_at_lem s u p m e r = r ∙ ap (owed_mask s) e

pub row_at : (b b' : List ℕ) (v p m : ℕ) → p ≡ m - 1 → b' ≡ with_row (owed_part + p) v b → b' ≡ with_row (owed_part + (m - 1)) v b
row_at b b' v p m e w = w ∙ ap (λ (k : ℕ). with_row (owed_part + k) v b) e

-- whether it is owed, in the mask that the code reads
pub pair_read : (s : Run) (u m h : ℕ) → bits hosts u ≡ owed_mask s (m - 1) → get_or (bits hosts u) h false ≡ is_owed s m h
unfolding is_owed
pair_read s u m h e = ap (λ (l : List Bool). get_or l h false) e

-- the mask with one host changed
pub pair_set : (b b' : List ℕ) (u v m h : ℕ) (x : Bool) → IsStored b → IsPair (decode b) m h → bits hosts u ≡ owed_mask (decode b) (m - 1) → v ≡ mask (set (bits hosts u) h x) → b' ≡ with_row (owed_part + (m - 1)) v b
    → Stored b' (set_owed (decode b) m h x)
unfolding set_owed
pair_set b b' u v m h x k p eu ev e =
    let us : List Bool = set (owed_mask (decode b) (m - 1)) h x in
    let same : v ≡ mask us = ev ∙ ap (λ (l : List Bool). mask (set l h x)) eu in
    owed_changed k (m - 1) us (place_low b m h k p) (unfold set_owed in owed_fit (decode b) k.fit m h x p.one p.given) (rw same at e)

set_own : {A : Type 0} (l : List A) (i : ℕ) (a d : A) → get_or l i d ≡ a → i < length l → set l i a ≡ l
set_own [] i a d e low = refl
set_own {A} (b ∷ l) zero a d e low = ap (λ (x : A). x ∷ l) (sym e)
set_own {A} (b ∷ l) (suc i) a d e low = ap (λ (k : List A). b ∷ k) (set_own l i a d e (omega arith))

-- one that is owed already
pub pair_kept : (b : List ℕ) (u m h : ℕ) → IsStored b → IsPair (decode b) m h → bits hosts u ≡ owed_mask (decode b) (m - 1) → get_or (bits hosts u) h false ≡ true → Stored b (set_owed (decode b) m h true)
unfolding set_owed owed_mask
pair_kept b u m h k p eu set-already =
    let s : Run = decode b in
    let wide = mask_wide s.owed k.fit.owed.masks (m - 1) (place_low b m h k p) in
    let inner : set (get_or s.owed (m - 1) []) h true ≡ get_or s.owed (m - 1) [] = set_own (get_or s.owed (m - 1) []) h true false (ap (λ (l : List Bool). get_or l h false) (sym eu) ∙ set-already) (omega (arith, p.low)) in
    let outer : set s.owed (m - 1) (set (get_or s.owed (m - 1) []) h true) ≡ s.owed = ap (set s.owed (m - 1)) inner ∙ set_own s.owed (m - 1) (get_or s.owed (m - 1) []) [] refl (omega (arith, place_low b m h k p, k.fit.owed.masks.places)) in
    rw outer k

-- ---- one notice, and one pair laid

pub told_room : (b b' : List ℕ) (m h : ℕ) → has_room (decode b) ≡ true → Stored b' (noticed (decode b) m h) → Stored b' (notified h (decode b) m)
unfolding notified
told_room b b' m h r k = rw r k

pub told_full : (b b' : List ℕ) (m h : ℕ) → has_room (decode b) ≡ false → Stored b' (set_owed (decode b) m h true) → Stored b' (notified h (decode b) m)
unfolding notified
told_full b b' m h r k = rw r k

pub not_owed : (b : List ℕ) (m h : ℕ) → IsStored b → is_owed (decode b) m h ≡ false → Stored b (laid_one (decode b) m h)
unfolding laid_one
not_owed b m h k o = rw o k

pub no_room : (b : List ℕ) (m h : ℕ) → IsStored b → is_owed (decode b) m h ≡ true → has_room (decode b) ≡ false → Stored b (laid_one (decode b) m h)
unfolding laid_one
no_room b m h k o r = rw (o, r) k

pub struck_room : (b b₁ : List ℕ) (m h : ℕ) → Stored b₁ (set_owed (decode b) m h false) → has_room (decode b) ≡ true → has_room (decode b₁) ≡ true
unfolding set_owed has_room
struck_room b b₁ m h k r = rw (stored_says b₁ (set_owed (decode b) m h false) k) r

pub struck_pair : (b b₁ : List ℕ) (m h : ℕ) → Stored b₁ (set_owed (decode b) m h false) → IsPair (decode b) m h → IsPair (decode b₁) m h
unfolding set_owed
struck_pair b b₁ m h k p = record { one = p.one; given = rw (stored_says b₁ (set_owed (decode b) m h false) k) p.given; low = p.low }

pub is_laid : (b b₁ b₂ : List ℕ) (m h : ℕ) → is_owed (decode b) m h ≡ true → has_room (decode b) ≡ true → Stored b₁ (set_owed (decode b) m h false) → Stored b₂ (noticed (decode b₁) m h) → Stored b₂ (laid_one (decode b) m h)
unfolding laid_one
is_laid b b₁ b₂ m h o r k₁ k₂ = rw (o, r) (subst (λ (s : Run). Stored b₂ (noticed s m h)) (stored_says b₁ (set_owed (decode b) m h false) k₁) k₂)
