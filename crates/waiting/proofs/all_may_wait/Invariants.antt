-- `waiting::all_may_wait` meets its contract. Assumes nothing.
use Rattle.basis.specs.Numbers.{bits}
use Rattle.basis.specs.Sizes.{hosts}
use Rattle.scans.specs.Tests.{Passing}
use Rattle.queue.specs.Queue.{waiting_of}
use Rattle.spaces.specs.Spaces.{spaces_of}
use Rattle.tuples.specs.Section.{tuples_of}
use Rattle.waiting.specs.Waits.{keeps_waiting}
use Rattle.waiting.proofs.all_may_wait.Given as goal

abbrev pub invariant-loop-i : goal.invariant-loop-i
invariant-loop-i l = Passing (keeps_waiting (bits hosts l.up) (spaces_of l.spaces l.m) (tuples_of l.tuples l.k)) (waiting_of l.waiting l.n) 0 l.i
