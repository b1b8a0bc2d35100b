-- `bodies::operations_ok` meets its contract. Assumes nothing.
use Rattle.model.specs.Reading.{operation}
use Rattle.statements.specs.Ends.{Passing}
use Rattle.fields.specs.Kinds.{kinds_are}
use Rattle.legality.specs.Steps.{body_legal}
use Rattle.bodies.proofs.operations_ok.Given as goal

abbrev pub invariant-loop : goal.invariant-loop
invariant-loop l = Passing operation (body_legal (kinds_are l.initial.now)) (body_legal (kinds_are l.now)) l.b l.at l.count l.end l.counter
