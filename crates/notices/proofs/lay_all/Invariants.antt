-- What the loop of `notices::lay_all` keeps. Assumes nothing.
use mathlib.Core.List.{foldl}
use Rattle.basis.specs.Lists.{count_from}
use Rattle.model.specs.Run.{laid_for}
use Rattle.layout.specs.States.{decode}
use Rattle.layout.specs.Stored.{Stored}
use Rattle.notices.proofs.lay_all.Given as goal

abbrev pub invariant-loop-m : goal.invariant-loop-m
invariant-loop-m l = Stored l.state (foldl laid_for (decode l.initial.state) (count_from l.m 1))
