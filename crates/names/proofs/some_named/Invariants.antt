-- `names::some_named` meets its contract. Assumes nothing.
use Prim.Native.Nat.{◌-◌}
use Rattle.basis.specs.Lists.{any}
use Rattle.model.specs.Statement.{spaces_named}
use Rattle.layout.specs.Stored.{statement_of}
use Rattle.spaces.specs.Spaces.{spaces_of}
use Rattle.names.specs.Asks.{asks}
use Rattle.names.specs.Named.{Naming}
use Rattle.names.proofs.some_named.Given as goal

abbrev pub invariant-loop : goal.invariant-loop
invariant-loop l = Naming (asks (spaces_of l.spaces l.n) l.what) (any (asks (spaces_of l.spaces l.n) l.what) (spaces_named (statement_of l.body))) l.body l.at (l.end - l.counter)
