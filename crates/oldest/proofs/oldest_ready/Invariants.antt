-- `oldest::oldest_ready` meets its contract. Assumes nothing.
use Rattle.tuples.specs.Section.{tuples_of}
use Rattle.oldest.specs.Searching.{Searching}
use Rattle.oldest.proofs.oldest_ready.Given as goal

abbrev pub invariant-loop-i : goal.invariant-loop-i
invariant-loop-i l = Searching l.waiting l.n (tuples_of l.tuples l.m) l.i
