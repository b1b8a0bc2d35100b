-- `scans::is_alone` meets its contract. Assumes nothing.
use Prim.Native.Nat.{◌+◌}
use mathlib.Core.List.{[]}
use lib.ListN.{get_or}
use Rattle.basis.specs.Lists.{pieces}
use Rattle.scans.specs.Tests.{differ, Passing}
use Rattle.scans.proofs.is_alone.Given as goal

abbrev pub invariant-loop-j : goal.invariant-loop-j
invariant-loop-j l = Passing (differ l.at l.w (get_or (pieces l.n l.size l.rows) l.i [])) (pieces l.n l.size l.rows) (l.i + 1) l.j
