-- What DS does to the tuples. Assumes nothing.
use Rattle.std.specs.Prelude.{◌≡◌, ℕ, Bool, List, length}
use Rattle.std.proofs.Common.{arith}
use Rattle.basis.specs.Lists.{keep}
use Rattle.basis.specs.ListLaws.{keep_in, keep_few}
use Rattle.model.specs.Matching.{Tuple}
use Rattle.model.proofs.Keeps.{Kept}
use Rattle.model.specs.Run.{Run, with_tuples}
use Rattle.model.proofs.Fit.{Fit}
use Rattle.layout.specs.States.{decode}
use Rattle.layout.specs.Stored.{Stored, IsStored}
use Rattle.header.specs.Rows.{tuple_count_part, tuples_part, with_row, with_part, tuples_lent}
use Rattle.tuples.specs.Section.{tuples_of, Holds, outside}
use Rattle.state.specs.Lent.{tuples_read}
use Rattle.state.specs.Changes.{tuples_changed}

-- ---- the limits

with_tuples_lem : (s : Run) (ts : List Tuple) → Fit s → Kept s.spaces ts → Fit (with_tuples s ts)
with_tuples_lem s ts f k = record { last = f.last; hosts = f.hosts; monitors = f.monitors; spaces = f.spaces; tuples = k; waiting = f.waiting; owed = f.owed }

kept_fit : (s : Run) (p : Tuple → Bool) → Fit s → Fit (with_tuples s (keep p s.tuples))
kept_fit s p f = with_tuples_lem s (keep p s.tuples) f (record { few = omega (arith, keep_few p s.tuples, f.tuples.few); each = λ t m. f.tuples.each t (keep_in p s.tuples t m) })

-- ---- what the code leaves, where x is the section that comes back

module _ {b x b' : List ℕ} {n m : ℕ} (h : IsStored b) (e : n ≡ length (decode b).tuples) (put : b' ≡ with_row tuple_count_part m (with_part tuples_part b x)) where
  pub clears : (space : ℕ) → Holds x m (keep (outside space) (tuples_of (tuples_lent b) n)) → Stored b' (with_tuples (decode b) (keep (outside space) (decode b).tuples))
  clears space k = tuples_changed h (rw (tuples_read b n h e) at k) (kept_fit (decode b) (outside space) h.fit) put
