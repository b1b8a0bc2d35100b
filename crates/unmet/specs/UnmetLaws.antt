-- The first of 18 and 13 that refuses a statement with no guard that holds. Assumes nothing.
use Rattle.std.specs.Prelude.{◌≡◌, ◌≤◌, ◌<◌, true, false, length, Ok, Err}
use borrow.Author.Tests.{le-leb, lt-leb}
use Rattle.basis.specs.Sizes.{most_waiting}
use Rattle.model.specs.Statement.{Statement}
use Rattle.model.specs.Execution.{can_wait}
use Rattle.model.specs.Run.{Run}
use Rattle.model.specs.Step.{unmet}
use Rattle.order.specs.declared.Refusal.TheVariants.{CannotWait, QueueFull}
use Rattle.unmet.specs.Unmet.{answered_by}

module _ (s : Run) (st : Statement) where
  pub unmet_18 : can_wait st ≡ false → unmet s st ≡ answered_by (Err CannotWait) s st
  unfolding unmet
  unmet_18 e = rw e

  module _ (e : can_wait st ≡ true) where
    pub unmet_13 : most_waiting ≤ length s.waiting → unmet s st ≡ answered_by (Err QueueFull) s st
    unfolding unmet
    unmet_13 h = rw (e, le-leb most_waiting (length s.waiting) h)

    pub unmet_waits : length s.waiting < most_waiting → unmet s st ≡ answered_by (Ok tt) s st
    unfolding unmet
    unmet_waits h = rw (e, lt-leb most_waiting (length s.waiting) h)
