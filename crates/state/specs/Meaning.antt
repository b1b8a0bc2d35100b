-- What the contracts cite. Assumes nothing.
use Rattle.std.specs.Prelude.{[], ◌∷◌, ◌++◌}
use Rattle.model.specs.Statement.{Statement}
use Rattle.model.specs.Run.{Run, with_waiting}
use Rattle.queue.specs.Queue.{waits}

-- a statement more waits, at the last position
abbrev pub enqueued : Run → Statement → Run
enqueued s st = with_waiting s (s.waiting ++ (waits s.last st ∷ []))
