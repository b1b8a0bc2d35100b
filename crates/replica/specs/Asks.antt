-- What a record asks of a run. Assumes nothing.
use Rattle.std.specs.Prelude.{ℕ, ◌≤◌, ◌<◌, List}
use Rattle.basis.specs.Choice.{maybe}
use Rattle.basis.specs.ListLaws.{Each}
use Rattle.model.specs.Run.{Waiting, Run, Turn}
use Rattle.model.specs.Step.{Mark, request_of, malformed, handled}

-- check 6, then the request
unfoldable pub asked : Mark → List ℕ → Run → Turn
asked m body s = maybe (request_of m body) (malformed s) (handled s)

-- the last number is above those of the queue
pub record Later (s : Run) : Type 0 where
  pub above : 1 ≤ s.last
  pub older : Each (λ (w : Waiting). w.position < s.last) s.waiting
