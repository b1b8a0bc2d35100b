-- What the loop of `spaces::accesses_ok` keeps. Assumes nothing.
use Rattle.basis.specs.Lists.{pieces}
use Rattle.basis.specs.Sizes.{space_size}
use Rattle.scans.specs.Tests.{Passing}
use Rattle.spaces.specs.Legal.{access_ok}
use Rattle.spaces.proofs.accesses_ok.Given as goal

abbrev pub invariant-loop-i : goal.invariant-loop-i
invariant-loop-i l = Passing access_ok (pieces l.n space_size l.spaces) 0 l.i
