-- `parts::put_fields` meets its contract. Assumes nothing.
use Rattle.parts.specs.Fields.{Putting}
use Rattle.parts.proofs.put_fields.Given as goal

abbrev pub invariant-loop-f : goal.invariant-loop-f
invariant-loop-f l = Putting l.fields l.initial.t l.at l.t l.end l.f-index
