-- A host that is dropped, and DS whole: effects one after the other. Assumes nothing.
use Rattle.std.specs.Prelude.{◌≡◌, ℕ, Bool, false, not, ◌||◌, List, set, T, eqb}
use Rattle.std.proofs.Common.{subst}
use Rattle.basis.specs.Lists.{all, keep}
use Rattle.basis.specs.ListLaws.{all_of, keep_true}
use Rattle.model.specs.Matching.{Tuple}
use Rattle.model.specs.Run.{Waiting, Run, with_up, with_spaces, with_tuples, with_waiting, host_up}
use Rattle.model.specs.Step.{some_waiting_names, dropped, closed}
use Rattle.layout.specs.States.{decode}
use Rattle.layout.specs.Stored.{Stored}
use Rattle.header.specs.StoredLaws.{stored_says}
use Rattle.spaces.specs.Spaces.{other_than}
use Rattle.queue.specs.Queue.{of_other}
use Rattle.tuples.specs.Section.{outside}

-- ---- CR: the queue, the mask

pub others_kept : (b b₁ : List ℕ) (h : ℕ) → Stored b₁ (with_waiting (decode b) (keep (of_other h) (decode b).waiting)) → T (all (of_other h) (decode b₁).waiting)
others_kept b b₁ h k = rw (stored_says b₁ _ k) (all_of (of_other h) (keep (of_other h) (decode b).waiting) (keep_true (of_other h) (decode b).waiting))

pub still_up : (b b₁ : List ℕ) (ws : List Waiting) (h : ℕ) (x : Bool) → Stored b₁ (with_waiting (decode b) ws) → host_up (decode b) h ≡ x → host_up (decode b₁) h ≡ x
unfolding host_up
still_up b b₁ ws h x k e = rw (stored_says b₁ (with_waiting (decode b) ws) k) e

pub host_dropped : (b b₁ b₂ : List ℕ) (h : ℕ) → Stored b₁ (with_waiting (decode b) (keep (of_other h) (decode b).waiting)) → Stored b₂ (with_up (decode b₁) (set (decode b₁).up h false)) → Stored b₂ (dropped (decode b) h)
unfolding dropped
host_dropped b b₁ b₂ h k₁ k₂ = subst (λ (s : Run). Stored b₂ (with_up s (set s.up h false))) (stored_says b₁ _ k₁) k₂

-- ---- DS: the tuples, the list of spaces

pub outside_kept : (b b₁ : List ℕ) (m : ℕ) → Stored b₁ (with_tuples (decode b) (keep (outside m) (decode b).tuples)) → T (all (outside m) (decode b₁).tuples)
outside_kept b b₁ m k = rw (stored_says b₁ _ k) (all_of (outside m) (keep (outside m) (decode b).tuples) (keep_true (outside m) (decode b).tuples))

pub still_free : (b b₁ : List ℕ) (ts : List Tuple) (m : ℕ) → Stored b₁ (with_tuples (decode b) ts) → T (not (eqb m 0 || some_waiting_names (decode b) m)) → T (not (eqb m 0 || some_waiting_names (decode b₁) m))
unfolding some_waiting_names
still_free b b₁ ts m k t = rw (stored_says b₁ (with_tuples (decode b) ts) k) t

pub closes : (b b₁ b₂ : List ℕ) (m : ℕ) → Stored b₁ (with_tuples (decode b) (keep (outside m) (decode b).tuples)) → Stored b₂ (with_spaces (decode b₁) (decode b₁).next (keep (other_than m) (decode b₁).spaces)) → Stored b₂ (closed (decode b) m)
unfolding closed
closes b b₁ b₂ m k₁ k₂ = subst (λ (s : Run). Stored b₂ (with_spaces s s.next (keep (other_than m) s.spaces))) (stored_says b₁ _ k₁) k₂
