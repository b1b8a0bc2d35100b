-- `statements::fields_end` meets its contract. Assumes nothing.
use mathlib.Core.Path.{◌∙◌}
use Rattle.model.specs.Reading.{field}
use Rattle.basis.specs.Lists.{all}
use Rattle.statements.specs.Ends.{passing_start, passing_turn, passing_stop, passing_done, one_passes, one_stops, all_none}
use Rattle.statements.specs.Front.{every, field_end_lem, fields_end}
use Rattle.statements.specs.Several.{suffix_field}
use Rattle.statements.proofs.fields_end.Goals as goal

pub loop-init : goal.loop-init
loop-init c = passing_start field (all every) _ _ _ c.requires

pub returns-in_err-end : goal.returns-in_err-end
returns-in_err-end c = let e = c.in_err-end.ensures in
    rw c.from_residual.ensures
    (passing_stop field (all every) (all every) c.args.b.now c.args.at c.args.count c.loop.end c.loop.counter c.loop.invariant c.loop-test.true
    (one_stops field suffix_field every c.args.b.now c.loop.end (e ∙ field_end_lem c.args.b.now c.loop.end))
    ∙ fields_end c.args.count c.args.b.now c.args.at)

pub loop-preserved : goal.loop-preserved
loop-preserved c = let e = c.in_ok-end.ensures in
    passing_turn field (all every) (all every) c.args.b.now c.args.at c.args.count c.loop.end c.loop.counter c.loop.invariant (all every) c.in_ok-end.end c.loop-test.true
    (one_passes field suffix_field every c.args.b.now c.loop.end c.in_ok-end.end (e ∙ field_end_lem c.args.b.now c.loop.end))

pub returns : goal.returns
returns c = passing_done field (all every) (all every) c.args.b.now c.args.at c.args.count c.loop.end c.loop.counter c.loop.invariant c.loop-test.false (all_none every)
    ∙ fields_end c.args.count c.args.b.now c.args.at
