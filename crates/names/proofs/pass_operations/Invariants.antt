-- `names::pass_operations` meets its contract. Assumes nothing.
use Prim.Native.Nat.{◌-◌}
use Rattle.basis.specs.Lists.{any}
use Rattle.walk.specs.Walk.{operations_at, after_operations}
use Rattle.spaces.specs.Spaces.{spaces_of}
use Rattle.names.specs.Asks.{asks}
use Rattle.names.specs.Named.{names_one, Passing}
use Rattle.names.proofs.pass_operations.Given as goal

abbrev pub invariant-loop : goal.invariant-loop
invariant-loop l = Passing (asks (spaces_of l.spaces l.n) l.what) l.body (any (names_one (asks (spaces_of l.spaces l.n) l.what)) (operations_at l.body l.at l.count)) (after_operations l.body l.at l.count) l.end (l.count - l.counter)
