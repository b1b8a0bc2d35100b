-- `scans::find` meets its contract. Assumes nothing.
use Rattle.basis.specs.Lists.{pieces}
use Rattle.sections.specs.Rows.{has}
use Rattle.sections.specs.Loops.{Looking}
use Rattle.scans.proofs.find.Given as goal

abbrev pub invariant-loop-i : goal.invariant-loop-i
invariant-loop-i l = Looking (has l.at l.w l.value) (pieces l.n l.size l.rows) l.i
