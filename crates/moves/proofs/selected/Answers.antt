-- `moves::selected` meets its contract. Assumes nothing.
use mathlib.Core.Path.{◌∙◌}
use Rattle.tuples.specs.Section.{tuple_at}
use Rattle.moves.specs.SelectedLaws.{selected_space, selected_match}
use Rattle.moves.proofs.selected.Goals as goal

pub returns-then-template-eq0 : goal.returns-then-template-eq0
returns-then-template-eq0 c =
    let a = c.args in
    selected_space a.template (tuple_at a.tuples.now a.i) _ c.space.ensures c.if-template-eq0.true

pub returns : goal.returns
returns c =
    let a = c.args in
    c.is_match.ensures ∙ selected_match a.template (tuple_at a.tuples.now a.i) c.if-template-eq0.false
