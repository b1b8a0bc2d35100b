-- `matching::agrees` meets its contract. Assumes nothing.
use Rattle.std.proofs.Common.{sym, ap, ◌∙◌}
use Rattle.std.specs.Prelude.{is_ok}
use Rattle.tuples.specs.Section.{tuple_at}
use Rattle.matching.specs.Meaning.{mismatch_is}
use Rattle.matching.specs.SearchLaws.{match_space, match_told, told_ok}
use Rattle.matching.proofs.agrees.Goals as goal

pub returns-then-space-template : goal.returns-then-space-template
returns-then-space-template c =
    let a = c.args in
    match_space a.template (tuple_at a.tuples.now a.i) _ c.space.ensures c.if-space-template.true

pub returns-in-Ok : goal.returns-in-Ok
returns-in-Ok c =
    let a = c.args in
    sym (ap is_ok c.in-Ok.is) ∙ told_ok c.first_mismatch.result
    ∙ match_told a.template (tuple_at a.tuples.now a.i) _ c.space.ensures c.if-space-template.false (mismatch_is c.first_mismatch.result) c.first_mismatch.ensures

pub returns-in_default : goal.returns-in_default
returns-in_default c =
    let a = c.args in
    sym (ap is_ok c.in_default.is) ∙ told_ok c.first_mismatch.result
    ∙ match_told a.template (tuple_at a.tuples.now a.i) _ c.space.ensures c.if-space-template.false (mismatch_is c.first_mismatch.result) c.first_mismatch.ensures
