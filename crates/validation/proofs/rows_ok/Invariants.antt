-- What the loop of `validation::rows_ok` keeps. Assumes nothing.
use Rattle.basis.specs.Lists.{pieces}
use Rattle.basis.specs.Sizes.{tuple_size}
use Rattle.scans.specs.Tests.{Passing}
use Rattle.spaces.specs.Spaces.{spaces_of}
use Rattle.validation.specs.Validation.{row_open}
use Rattle.validation.proofs.rows_ok.Given as goal

abbrev pub invariant-loop-i : goal.invariant-loop-i
invariant-loop-i l = Passing (row_open (spaces_of l.spaces l.n)) (pieces l.m tuple_size l.tuples) 0 l.i
