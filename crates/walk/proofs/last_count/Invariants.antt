-- `walk::last_count` meets its contract. Assumes nothing.
use Rattle.walk.specs.LastCount.{Reached}
use Rattle.walk.proofs.last_count.Given as goal

abbrev pub invariant-loop : goal.invariant-loop
invariant-loop l = Reached l.b l.count l.at l.counter
