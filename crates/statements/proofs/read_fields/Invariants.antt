-- `statements::read_fields` meets its contract. Assumes nothing.
use Rattle.statements.specs.Several.{Underway}
use Rattle.statements.proofs.read_fields.Given as goal

abbrev pub invariant-loop-field : goal.invariant-loop-field
invariant-loop-field l = Underway l.b l.at l.count l.field-items l.end l.field-index
