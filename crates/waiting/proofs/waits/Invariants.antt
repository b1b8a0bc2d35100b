-- `waiting::waits` meets its contract. Assumes nothing.
use Prim.Native.Nat.{◌-◌}
use Rattle.layout.specs.Stored.{statement_of}
use Rattle.tuples.specs.Section.{tuples_of}
use Rattle.spaces.specs.Spaces.{spaces_of}
use Rattle.waiting.specs.Waits.{waits}
use Rattle.waiting.specs.Walking.{Walking}
use Rattle.waiting.proofs.waits.Given as goal

abbrev pub invariant-loop : goal.invariant-loop
invariant-loop l = Walking (spaces_of l.spaces l.n) (tuples_of l.tuples l.m) l.process (waits (spaces_of l.spaces l.n) (tuples_of l.tuples l.m) l.process (statement_of l.body)) l.body l.at (l.end - l.counter) l.blocking
