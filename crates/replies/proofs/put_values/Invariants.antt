-- What the loop of `replies::put_values` keeps. Assumes nothing.
use Rattle.replies.specs.WrittenLaws.{Passed}
use Rattle.replies.proofs.put_values.Given as goal

abbrev pub invariant-loop-x : goal.invariant-loop-x
invariant-loop-x l = Passed l.values l.x l.initial.out l.out l.count
