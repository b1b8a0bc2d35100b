-- The walks along monitor numbers and hosts: each step adds one to those done. Assumes nothing.
use Rattle.std.specs.Prelude.{◌≡◌, refl, ℕ, ◌+◌, ◌<◌, Bool, true, false, not, ◌&&◌, T}
use Rattle.std.proofs.Common.{sym, subst, ◌∙◌, arith, true≢false}
use Rattle.std.proofs.Math.Path.{ap}
use mathlib.Core.List.{List, foldl}
use Rattle.basis.specs.Choice.{cond_ind}
use Rattle.basis.specs.Lists.{count_from}
use Rattle.basis.specs.ListLaws.{foldl-keeps, foldl_count}
use Rattle.basis.specs.Sizes.{hosts}
use Rattle.model.specs.Run.{Run, monitor_numbers, has_room, noticed, set_owed, is_owed, owes_some, laid_one, laid_for, laid}
use Rattle.model.specs.Step.{dropped, notified, crashed}
use Rattle.model.specs.Valid.{owes_only_full}
use Rattle.model.proofs.Debts.{laid_still}
use Rattle.layout.specs.States.{decode}
use Rattle.layout.specs.Stored.{Stored, IsStored}
use Rattle.header.specs.StoredLaws.{stored_says}
use Rattle.notices.specs.Pairs.{IsPair}

-- ---- a walk

-- nothing is done yet
pub walk_start : (f : Run → ℕ → Run) (b : List ℕ) (k : ℕ) → IsStored b → Stored b (foldl f (decode b) (count_from 0 k))
unfolding count_from
walk_start f b k h = h

-- one step more
pub walk_more : (f : Run → ℕ → Run) (s : Run) (b b' : List ℕ) (m k n : ℕ) → Stored b (foldl f s (count_from m k)) → k + m ≡ n → Stored b' (f (decode b) n) → Stored b' (foldl f s (count_from (m + 1) k))
walk_more f s b b' m k n h e next =
    let last : Stored b' (f (foldl f s (count_from m k)) (k + m)) = rw e (subst (λ (u : Run). Stored b' (f u n)) (stored_says b _ h) next) in
    subst (Stored b') (sym (foldl_count f s m k)) last

-- what a step keeps of the monitor numbers
abbrev pub Keeps : (Run → ℕ → Run) → Type 0
Keeps f = (s : Run) (n : ℕ) → (f s n).monitors ≡ s.monitors

-- the number after those done was given
pub pair_ahead : (f : Run → ℕ → Run) → Keeps f → (s : Run) (b : List ℕ) (m h : ℕ) → Stored b (foldl f s (count_from m 1)) → m < s.monitors → h < hosts → IsPair (decode b) (m + 1) h
pair_ahead f keeps s b m h k below low =
    let same : (foldl f s (count_from m 1)).monitors ≡ s.monitors = foldl-keeps (λ (u : Run). u.monitors ≡ s.monitors) f (count_from m 1) (λ u n i e. keeps u n ∙ e) s refl in
    record { one = omega arith; given = rw (stored_says b _ k, same) (omega arith); low = low }

-- ---- a crash

pub notified_keeps : (h : ℕ) → Keeps (notified h)
unfolding notified noticed set_owed
notified_keeps h s m = cond_ind (λ (u : Run). u.monitors ≡ s.monitors) (has_room s) (noticed s m h) (set_owed s m h true) (λ e. refl) (λ e. refl)

-- all numbers are told
pub all_told : (b b₁ b₂ : List ℕ) (h m : ℕ) → Stored b₁ (dropped (decode b) h) → m ≡ (decode b₁).monitors → Stored b₂ (foldl (notified h) (decode b₁) (count_from m 1)) → Stored b₂ (crashed (decode b) h)
unfolding crashed monitor_numbers
all_told b b₁ b₂ h m k e w =
    let numbers : m ≡ (decode b).monitors = e ∙ (unfold dropped in ap (λ (u : Run). u.monitors) (stored_says b₁ _ k)) in
    rw (numbers, stored_says b₁ _ k) at w

-- ---- laying

one_keeps : (s : Run) (m h : ℕ) → (laid_one s m h).monitors ≡ s.monitors
unfolding laid_one noticed set_owed
one_keeps s m h = cond_ind (λ (u : Run). u.monitors ≡ s.monitors) (is_owed s m h && has_room s) _ _ (λ e. refl) (λ e. refl)

-- the pair after the hosts done
pub host_ahead : (m : ℕ) (s : Run) (b : List ℕ) (h : ℕ) → Stored b (foldl (λ u g. laid_one u m g) s (count_from h 0)) → IsPair s m 0 → h < hosts → IsPair (decode b) m h
host_ahead m s b h k p low =
    let same : (foldl (λ u g. laid_one u m g) s (count_from h 0)).monitors ≡ s.monitors = foldl-keeps (λ (u : Run). u.monitors ≡ s.monitors) (λ u g. laid_one u m g) (count_from h 0) (λ u g i e. one_keeps u m g ∙ e) s refl in
    record { one = p.one; given = rw (stored_says b _ k, same) p.given; low = low }

-- all hosts of a number
pub all_hosts : (b : List ℕ) (s : Run) (m : ℕ) → Stored b (foldl (λ u g. laid_one u m g) s (count_from hosts 0)) → Stored b (laid_for s m)
unfolding laid_for
all_hosts b s m k = k

pub laid_for_keeps : Keeps laid_for
unfolding laid_for
laid_for_keeps s m = foldl-keeps (λ (u : Run). u.monitors ≡ s.monitors) (λ u g. laid_one u m g) (count_from hosts 0) (λ u g i e. one_keeps u m g ∙ e) s refl

-- all numbers
pub all_numbers : (b : List ℕ) (s : Run) (m : ℕ) → m ≡ s.monitors → Stored b (foldl laid_for s (count_from m 1)) → Stored b (laid s)
unfolding laid monitor_numbers
all_numbers b s m e k = rw e at k

-- ---- nothing to lay

pub full_laid : (b : List ℕ) → IsStored b → has_room (decode b) ≡ false → Stored b (laid (decode b))
unfolding owes_only_full
full_laid b k r = subst (Stored b) (sym (laid_still (decode b) (only (owes_some (decode b)) (has_room (decode b)) r))) k
  where
    only : (o r : Bool) → r ≡ false → T (not (o && r))
    only true r e = rw e tt
    only false r e = tt

pub nothing_laid : (b : List ℕ) → IsStored b → not (owes_some (decode b)) ≡ true → Stored b (laid (decode b))
unfolding owes_only_full
nothing_laid b k z = subst (Stored b) (sym (laid_still (decode b) (only (owes_some (decode b)) (has_room (decode b)) z))) k
  where
    only : (o r : Bool) → not o ≡ true → T (not (o && r))
    only false r e = tt
    only true r e = absurd (true≢false (sym e))
