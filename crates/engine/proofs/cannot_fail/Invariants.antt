-- `engine::cannot_fail` meets its contract. Assumes nothing.
use Prim.Native.Nat.{◌-◌}
use Rattle.engine.specs.Unfailing.{Passing}
use Rattle.engine.proofs.cannot_fail.Given as goal

abbrev pub invariant-loop : goal.invariant-loop
invariant-loop l = Passing l.body l.at l.count l.room l.next (l.count - l.counter) l.free
