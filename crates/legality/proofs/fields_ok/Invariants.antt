-- `legality::fields_ok` meets its contract. Assumes nothing.
use Rattle.legality.specs.Judging.{Judging}
use Rattle.legality.proofs.fields_ok.Given as goal

abbrev pub invariant-loop-f : goal.invariant-loop-f
invariant-loop-f l = Judging l.fn.op.code l.f-items l.earlier l.initial.now l.now l.f-index
