-- A waiting statement that leaves the queue. Assumes nothing.
use Rattle.std.specs.Prelude.{◌≡◌, ℕ, ◌≤◌, List, take, get_or, T}
use Rattle.basis.specs.Lists.{remove_at}
use Rattle.basis.specs.Sizes.{most_body}
use Rattle.model.specs.Legal.{legal_body}
use Rattle.model.specs.Run.{Waiting, Run, with_waiting}
use Rattle.layout.specs.States.{decode}
use Rattle.layout.specs.Stored.{Stored, statement_of}
use Rattle.header.specs.Rows.{queue_lent}
use Rattle.queue.specs.PlaceLaws.{no_waiting, body_of}

-- the waiting statement at index i
unfoldable pub place : Run → ℕ → Waiting
place s i = get_or s.waiting i no_waiting

-- the run without it
abbrev pub without : Run → ℕ → Run
without s i = with_waiting s (remove_at i s.waiting)

-- it has left the state buffer; its position p, and its body, the first n bytes of a buffer, as it stood in its row
pub record Gone (b : List ℕ) (i : ℕ) (state buffer : List ℕ) (p n : ℕ) : Type 0 where
  pub stored : Stored state (without (decode b) i)
  pub position : p ≡ (place (decode b) i).position
  pub size : n ≤ most_body
  pub body : take n buffer ≡ body_of (queue_lent b) i
  pub legal : T (legal_body (take n buffer))
  pub statement : statement_of (take n buffer) ≡ (place (decode b) i).statement
