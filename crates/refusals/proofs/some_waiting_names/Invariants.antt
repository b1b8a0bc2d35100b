-- What the loop of `refusals::some_waiting_names` keeps. Assumes nothing.
use Rattle.basis.specs.Lists.{any}
use Rattle.basis.specs.RestLaws.{Passed}
use Rattle.queue.specs.Queue.{waiting_of}
use Rattle.refusals.specs.Naming.{naming}
use Rattle.refusals.proofs.some_waiting_names.Given as goal

abbrev pub invariant-loop-i : goal.invariant-loop-i
invariant-loop-i l = let ws = waiting_of l.waiting l.n in Passed (any (naming l.space) ws) (any (naming l.space)) ws l.i
