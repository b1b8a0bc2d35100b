-- What the loop of `notices::lay_for` keeps. Assumes nothing.
use mathlib.Core.List.{foldl}
use Rattle.basis.specs.Lists.{count_from}
use Rattle.model.specs.Run.{laid_one}
use Rattle.layout.specs.States.{decode}
use Rattle.layout.specs.Stored.{Stored}
use Rattle.notices.proofs.lay_for.Given as goal

abbrev pub invariant-loop-host : goal.invariant-loop-host
invariant-loop-host l = Stored l.state (foldl (λ u g. laid_one u l.monitor g) (decode l.initial.state) (count_from l.host 0))
