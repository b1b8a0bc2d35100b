-- The search for the oldest waiting statement with a guard that holds. Assumes nothing.
use Rattle.std.specs.Prelude as code
use Rattle.std.specs.Prelude.{◌≡◌, ℕ, ◌+◌, ◌≤◌, ◌<◌, Bool, List, None, Some, length}
use Rattle.std.proofs.Math.Path.{refl}
use Rattle.std.proofs.Math.Option.{none, some}
use Rattle.basis.specs.Lists.{first, first_from}
use Rattle.basis.specs.RestLaws.{Passed, passed_none, first_here, first_more, first_end}
use Rattle.model.specs.Matching.{Tuple}
use Rattle.model.specs.Execution.{ready, chosen}
use Rattle.model.specs.Run.{Waiting}
use Rattle.layout.specs.Stored.{statement_of}
use Rattle.queue.specs.Queue.{waiting_of, IsQueued}
use Rattle.queue.specs.Bodies.{bytes_statement}
use Rattle.queue.specs.PlaceLaws.{no_waiting, waiting_nth, body_of}
use Rattle.walk.specs.declared.Choice.{Choice}
use Rattle.walk.specs.Choosing.{Chooses}
use Rattle.guards.specs.Searching.{picks_ready, none_ready}

-- a guard of it holds
abbrev pub ready_in : List Tuple → Waiting → Bool
ready_in ts w = ready ts w.statement

module _ (p : List ℕ) (n : ℕ) (ts : List Tuple) where
  -- the branch that the guards of the waiting statement at an index choose, by the bytes of its body
  abbrev pub ChoosesAt : ℕ → code.Option Choice → Type 0
  ChoosesAt i c = Chooses (body_of p i) ts (chosen ts (waiting_nth p n i).statement) c

  -- as its body is lent
  pub chooses_at : (i : ℕ) → IsQueued p n → i < n → (b : List ℕ) → b ≡ body_of p i → (c : code.Option Choice) → Chooses b ts (chosen ts (statement_of b)) c → ChoosesAt i c
  chooses_at i h below b e c k = rw (e, bytes_statement p n i h below) at k

  -- it is the oldest with a guard that holds
  pub record RunsAt (i : ℕ) (c : Choice) : Type 0 where
    pub is : first (ready_in ts) (waiting_of p n) ≡ some (record { index = i; item = waiting_nth p n i })
    pub picks : ChoosesAt i (Some c)

  -- who runs next, as the code tells it
  abbrev pub Answers : code.Option (ℕ × Choice) → Type 0
  Answers None = first (ready_in ts) (waiting_of p n) ≡ none
  Answers (Some r) = RunsAt r.0 r.1

  -- i are passed, and none of them is the one
  abbrev pub Searching : ℕ → Type 0
  Searching i = Passed (first (ready_in ts) (waiting_of p n)) (first_from (ready_in ts) i) (waiting_of p n) i

  pub searching_start : Searching 0
  unfolding first
  searching_start = passed_none refl

  module _ (i : ℕ) (u : Searching i) where
    pub search_end : length (waiting_of p n) ≤ i → Answers None
    search_end past = first_end (ready_in ts) u past

    module _ (below : i < length (waiting_of p n)) where
      abbrev here : Waiting
      here = waiting_nth p n i

      pub search_hit : (c : Choice) → ChoosesAt i (Some c) → Answers (Some (i, c))
      search_hit c h = record { is = first_here (ready_in ts) u no_waiting below (picks_ready ts here.statement (body_of p i) c h); picks = h }

      pub search_miss : ChoosesAt i None → Searching (i + 1)
      search_miss h = first_more (ready_in ts) u no_waiting below (none_ready ts here.statement h)
