-- `scans::rises` meets its contract. Assumes nothing.
use Rattle.basis.specs.Lists.{pieces}
use Rattle.basis.specs.Numbers.{number_at}
use Rattle.scans.specs.Tests.{Climbing}
use Rattle.scans.proofs.rises.Given as goal

abbrev pub invariant-loop-i : goal.invariant-loop-i
invariant-loop-i l = Climbing (number_at l.at l.w) l.least l.most (pieces l.n l.size l.rows) l.low l.i
