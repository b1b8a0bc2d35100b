-- `scans::are_apart` meets its contract. Assumes nothing.
use Rattle.basis.specs.Lists.{pieces}
use Rattle.scans.specs.Tests.{differ, Apart}
use Rattle.scans.proofs.are_apart.Given as goal

abbrev pub invariant-loop-i : goal.invariant-loop-i
invariant-loop-i l = Apart (differ l.at l.w) (pieces l.n l.size l.rows) l.i
