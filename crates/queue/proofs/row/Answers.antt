-- `queue::row` meets its contract. Assumes nothing.
use mathlib.Core.Path.{refl}
use Rattle.basis.specs.Lists.{zeros}
use Rattle.queue.specs.QueueLaws.{row_written}
use Rattle.queue.proofs.row.Goals as goal

pub returns : goal.returns
unfolding zeros
returns c =
    row_written _ _ _ _ _ _ refl c.requires c.put4.ensures c.put2.ensures c.copy_at.ensures
