-- What the loop of `notices::crash` keeps. Assumes nothing.
use mathlib.Core.List.{foldl}
use Rattle.basis.specs.Lists.{count_from}
use Rattle.model.specs.Step.{notified}
use Rattle.layout.specs.States.{decode}
use Rattle.layout.specs.Stored.{Stored}
use Rattle.notices.proofs.crash.Given as goal

abbrev pub invariant-loop-m : goal.invariant-loop-m
invariant-loop-m l = Stored l.state (foldl (notified l.host) (decode l.initial.state) (count_from l.m 1))
