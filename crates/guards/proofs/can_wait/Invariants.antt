-- `guards::can_wait` meets its contract. Assumes nothing.
use Prim.Native.Nat.{◌-◌}
use Rattle.guards.specs.Searching.{Asking}
use Rattle.guards.proofs.can_wait.Given as goal

abbrev pub invariant-loop : goal.invariant-loop
invariant-loop l = Asking l.body l.at (l.end - l.counter)
