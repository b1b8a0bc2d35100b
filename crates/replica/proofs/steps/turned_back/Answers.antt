-- `replica::steps::turned_back` meets its contract. Assumes nothing.
use native.Mathlib.Omega.{arith}
use mathlib.Core.Path.{sym, ◌∙◌}
use Rattle.basis.specs.Logic.{true_is}
use Rattle.layout.specs.StateLaws.{state_length}
use Rattle.replica.specs.TakeLaws.{back_1, back_at}
use Rattle.replica.proofs.steps.turned_back.Goals as goal

pub returns-then-not-is_state : goal.returns-then-not-is_state
returns-then-not-is_state c =
    let a = c.args in
    let s = c.is_state in
    back_1 a.state.now a.input.now a.reply.now s.result s.ensures c.if-not-is_state.true

pub last-requires : goal.last-requires
last-requires c =
    let s = c.is_state in
    omega (arith, state_length c.args.state.now (true_is _ (sym s.ensures ∙ c.if-not-is_state.false)))

pub returns : goal.returns
returns c =
    let a = c.args in
    let s = c.is_state in
    back_at a.state.now a.input.now a.reply.now s.result s.ensures c.last.result _ c.if-not-is_state.false c.last.ensures.0 c.refusal_at.ensures
