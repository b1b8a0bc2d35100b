-- `matching::find` meets its contract. Assumes nothing.
use mathlib.Core.Path.{sym, ◌∙◌}
use Rattle.model.specs.Matching.{is_match}
use Rattle.matching.specs.Meaning.{template_is}
use Rattle.matching.specs.SearchLaws.{search_all, search_hit, search_miss, search_end}
use Rattle.matching.proofs.find.Goals as goal
use Rattle.matching.proofs.find.Goals.{else-may_match-via-then-may_match+else-agrees, else-may_match-via-else-may_match}

pub loop-i-init : goal.loop-i-init
loop-i-init c = let a = c.args in search_all (is_match (template_is a.template)) a.tuples.now a.n

pub returns-then-agrees : goal.returns-then-agrees
returns-then-agrees c =
    let a = c.args in
    search_hit (is_match (template_is a.template)) a.tuples.now a.n c.loop-i.i c.loop-i-test.true (sym c.agrees.ensures ∙ c.if-agrees.true) ∙ sym c.loop-i.invariant

pub loop-i-preserved : goal.loop-i-preserved
loop-i-preserved c =
    let a = c.args in
    c.loop-i.invariant
    ∙ search_miss (is_match (template_is a.template)) a.tuples.now a.n c.loop-i.i c.loop-i-test.true
    (elim c.else-may_match.branch [
      | else-may_match-via-then-may_match+else-agrees w ↦ sym w.agrees.ensures ∙ w.if-agrees.false
      | else-may_match-via-else-may_match w ↦ c.may_match.ensures w.if-may_match.false
    ])

pub returns : goal.returns
returns c =
    let a = c.args in
    search_end (is_match (template_is a.template)) a.tuples.now a.n c.loop-i.i c.loop-i-test.false ∙ sym c.loop-i.invariant
