-- `guards::holds` meets its contract. Assumes nothing.
use mathlib.Core.Path.{sym, ◌∙◌}
use Rattle.tuples.specs.Section.{tuples_of}
use Rattle.guards.specs.Searching.{guard_true}
use Rattle.guards.specs.Holding.{found_holds}
use Rattle.guards.proofs.holds.Goals as goal

pub returns-then-guard-eq-TRUE : goal.returns-then-guard-eq-TRUE
returns-then-guard-eq-TRUE c = sym (guard_true c.args.guard (tuples_of c.args.tuples.now c.args.n) c.if-guard-eq-TRUE.true)

pub returns : goal.returns
returns c =
    c.is_some.ensures ∙ found_holds c.args.guard _ _ _ c.template_of-template.result c.find.result c.requires.2 c.if-guard-eq-TRUE.false c.no_vars.ensures c.template_of-template.ensures.0 c.find.ensures
