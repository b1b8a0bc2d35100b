-- `walk::operations_end` meets its contract. Assumes nothing.
use Rattle.basis.specs.Lists.{all}
use Rattle.model.specs.Reading.{operation}
use Rattle.statements.specs.Ends.{Passing}
use Rattle.statements.specs.Flat.{few_fields}
use Rattle.walk.proofs.operations_end.Given as goal

abbrev pub invariant-loop : goal.invariant-loop
invariant-loop l = Passing operation (all few_fields) (all few_fields) l.b l.at l.count l.end l.counter
