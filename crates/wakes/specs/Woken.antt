-- The turns of rule 7. Assumes nothing.
use Rattle.std.specs.Prelude.{◌≡◌, ℕ, ◌+◌, List, ◌++◌, length, take, drop}
use Rattle.std.proofs.Math.Option.{get_or}
use Rattle.model.specs.Execution.{chosen}
use Rattle.model.specs.Run.{Run, Turn, wake}
use Rattle.layout.specs.Replies.{replies_bytes}
use Rattle.layout.specs.States.{decode}
use Rattle.layout.specs.Stored.{Stored}
use Rattle.header.specs.Rows.{queue_lent}
use Rattle.queue.specs.PlaceLaws.{body_of}
use Rattle.walk.specs.Choosing.{Picks}
use Rattle.walk.specs.declared.Choice.{Choice}
use Rattle.running.specs.Executed.{still, executed}
use Rattle.leaving.specs.Leaving.{place, without}

-- the turn's run in the state buffer, its replies over the reply buffer where own bytes already stand at the front, and the count of all
pub record Further (t : Turn) (own : ℕ) (buffer state out : List ℕ) (count : ℕ) : Type 0 where
  pub stored : Stored state t.run
  pub bytes : out ≡ take own buffer ++ (replies_bytes t.replies ++ drop (length (replies_bytes t.replies)) (drop own buffer))
  pub number : count ≡ own + length (replies_bytes t.replies)

-- the waiting statement at index i leaves the queue and runs
unfoldable pub woken_at : Run → ℕ → Turn
woken_at s i = executed (without s i) (place s i).position (place s i).statement

-- a turn of rule 7, where one is taken
unfoldable pub woken : Run → Turn
woken s = get_or (wake s) (still s)

-- a branch of it was chosen, by the bytes of its body in the queue
abbrev pub PickedAt : (state : List ℕ) → ℕ → Choice → Type 0
PickedAt b i c = Picks (body_of (queue_lent b) i) (decode b).tuples (chosen (decode b).tuples (place (decode b) i).statement) c
