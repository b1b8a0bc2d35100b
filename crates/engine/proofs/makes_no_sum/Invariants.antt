-- `engine::makes_no_sum` meets its contract. Assumes nothing.
use Rattle.statements.specs.Flat.{fields_are}
use Rattle.engine.specs.Unfailing.{PlainFrom}
use Rattle.engine.proofs.makes_no_sum.Given as goal

abbrev pub invariant-loop-f : goal.invariant-loop-f
invariant-loop-f l = PlainFrom (fields_are l.f-items) l.f-index
