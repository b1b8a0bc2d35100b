-- What a statement that waits, one that leaves and a crash do to the queue. Assumes nothing.
use Rattle.std.specs.Prelude.{◌≡◌, ℕ, Bool, List, [], ◌∷◌, ◌++◌, length}
use Rattle.basis.specs.Lists.{keep, remove_at}
use Rattle.basis.specs.ListLaws.{keep_in}
use Rattle.model.specs.Statement.{Statement}
use Rattle.model.specs.Run.{Waiting, Run, with_waiting}
use Rattle.model.proofs.Fit.{Queue, Fit}
use Rattle.model.proofs.Effects.{queue_keep, queue_remove_at}
use Rattle.layout.specs.States.{decode}
use Rattle.layout.specs.Stored.{Stored, IsStored}
use Rattle.header.specs.Rows.{waiting_count_part, waiting_part, with_row, with_part, queue_lent}
use Rattle.queue.specs.Queue.{waiting_of, Queued, of_other, waits}
use Rattle.lent.specs.Sections.{queue_read}
use Rattle.state.specs.Meaning.{enqueued}
use Rattle.state.specs.Changes.{waiting_changed}

-- ---- the limits

with_queue : (s : Run) (ws : List Waiting) → Fit s → Queue s.last s.up s.spaces ws → Fit (with_waiting s ws)
with_queue s ws f q = record { last = f.last; hosts = f.hosts; monitors = f.monitors; spaces = f.spaces; tuples = f.tuples; waiting = q; owed = f.owed }

kept_fit : (s : Run) (p : Waiting → Bool) → Fit s → Fit (with_waiting s (keep p s.waiting))
kept_fit s p f = with_queue s (keep p s.waiting) f (queue_keep s.last s.up s.up s.spaces s.waiting p f.waiting (λ w i. f.waiting.each w (keep_in p s.waiting w i)))

left_fit : (s : Run) (i : ℕ) → Fit s → Fit (with_waiting s (remove_at i s.waiting))
left_fit s i f = with_queue s (remove_at i s.waiting) f (queue_remove_at s.last s.up s.spaces s.waiting i f.waiting)

-- ---- what the code leaves, where x is the section that comes back

module _ {b x b' : List ℕ} {n m : ℕ} (h : IsStored b) (e : n ≡ length (decode b).waiting) (put : b' ≡ with_row waiting_count_part m (with_part waiting_part b x)) where
  pub leaves : (i : ℕ) → Queued x m (remove_at i (waiting_of (queue_lent b) n)) → Stored b' (with_waiting (decode b) (remove_at i (decode b).waiting))
  leaves i q = waiting_changed h (rw (queue_read b n h e) at q) (left_fit (decode b) i h.fit) put

  pub drops : (host : ℕ) → Queued x m (keep (of_other host) (waiting_of (queue_lent b) n)) → Stored b' (with_waiting (decode b) (keep (of_other host) (decode b).waiting))
  drops host q = waiting_changed h (rw (queue_read b n h e) at q) (kept_fit (decode b) (of_other host) h.fit) put

  pub enqueues : {last : ℕ} (st : Statement) → last ≡ (decode b).last → Fit (enqueued (decode b) st) → Queued x m (waiting_of (queue_lent b) n ++ (waits last st ∷ [])) → Stored b' (enqueued (decode b) st)
  enqueues st el f q = waiting_changed h (rw (queue_read b n h e, el) at q) f put
