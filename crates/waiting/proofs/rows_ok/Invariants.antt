-- `waiting::rows_ok` meets its contract. Assumes nothing.
use Rattle.basis.specs.Lists.{pieces}
use Rattle.basis.specs.Sizes.{waiting_size}
use Rattle.scans.specs.Tests.{Passing}
use Rattle.queue.specs.Legal.{row_legal}
use Rattle.waiting.proofs.rows_ok.Given as goal

abbrev pub invariant-loop-i : goal.invariant-loop-i
invariant-loop-i l = Passing row_legal (pieces l.n waiting_size l.waiting) 0 l.i
