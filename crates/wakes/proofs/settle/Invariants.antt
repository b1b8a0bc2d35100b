-- `wakes::settle` meets its contract. Assumes nothing.
use Prim.Native.Nat.{◌+◌, ◌*◌, ◌≤◌}
use mathlib.Core.Path.{◌≡◌}
use lib.ListN.{length}
use Rattle.layout.specs.States.{decode}
use Rattle.basis.specs.Sizes.{most_reply}
use Rattle.layout.specs.Stored.{IsStored}
use Rattle.wakes.specs.Settling.{Midway}
use Rattle.wakes.proofs.settle.Given as goal

abbrev pub invariant-loop-own : goal.invariant-loop-own
invariant-loop-own l = IsStored l.state × (length l.out ≡ length l.initial.out) × (l.own ≤ length l.out) × (l.at + most_reply * length (decode l.state).waiting ≤ length l.out) × Midway (decode l.initial.state) (decode l.state) l.own l.at l.initial.out l.out

abbrev pub decreases-loop-own : goal.decreases-loop-own
decreases-loop-own l = length (decode l.state).waiting
