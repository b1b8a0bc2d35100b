-- `statements::fields_end` meets its contract. Assumes nothing.
use Rattle.model.specs.Reading.{field}
use Rattle.basis.specs.Lists.{all}
use Rattle.statements.specs.Ends.{Passing}
use Rattle.statements.specs.Front.{every}
use Rattle.statements.proofs.fields_end.Given as goal

abbrev pub invariant-loop : goal.invariant-loop
invariant-loop l = Passing field (all every) (all every) l.b l.at l.count l.end l.counter
