-- `spaces::place` meets its contract. Assumes nothing.
use Rattle.spaces.specs.SearchLaws.{Among}
use Rattle.spaces.proofs.place.Given as goal

abbrev pub invariant-loop-left : goal.invariant-loop-left
invariant-loop-left l = Among l.spaces l.n l.number l.low l.left

abbrev pub decreases-loop-left : goal.decreases-loop-left
decreases-loop-left l = l.left
