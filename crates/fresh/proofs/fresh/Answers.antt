-- `fresh::fresh` meets its contract. Assumes nothing.
use native.Mathlib.Omega.{arith}
use mathlib.Core.Path.{◌∙◌}
use Rattle.fresh.specs.FreshLaws.{fresh_refused, fresh_done}
use Rattle.fresh.proofs.fresh.Goals as goal

pub returns-then-state-ne-STATE : goal.returns-then-state-ne-STATE
returns-then-state-ne-STATE c = fresh_refused c.args.state.now c.if-state-ne-STATE.true

pub clear-requires : goal.clear-requires
clear-requires c = omega (arith, c.if-state-ne-STATE.false)

pub shape_of-state : goal.shape_of-state
shape_of-state c =
    c.set_space_count.auto.state ∙ (c.set_next.auto.state ∙ (c.set_mark.auto.state ∙ c.clear.auto.a))

pub returns : goal.returns
returns c =
    fresh_done c.args.state.now c.clear.new.a c.set_mark.new.state c.set_next.new.state c.set_space_count.new.state c.if-state-ne-STATE.false c.clear.ensures c.set_mark.ensures c.set_next.ensures c.set_space_count.ensures
