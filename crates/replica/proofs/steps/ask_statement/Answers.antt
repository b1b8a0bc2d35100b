-- `replica::steps::ask_statement` meets its contract. Assumes nothing.
use mathlib.Core.Path.{sym, ◌∙◌}
use mathlib.Core.Option.{none, some}
use Rattle.basis.specs.Logic.{true_is}
use Rattle.layout.specs.States.{decode}
use Rattle.model.specs.Step.{AG, guarded}
use Rattle.layout.specs.Stored.{statement_of}
use Rattle.replica.specs.HandleLaws.{asked_as, statement_yes, statement_no}
use Rattle.replica.proofs.steps.ask_statement.Goals as goal

pub returns-then-not-body_ok : goal.returns-then-not-body_ok
returns-then-not-body_ok c =
    let a = c.args in
    let h = c.body_ok in
    let d = c.malformed in
    asked_as AG a.body.now (decode a.state.now) none a.out.now a.state.now d.new.out d.result.size (sym (statement_no a.body.now h.result h.ensures c.if-not-body_ok.true)) d.ensures

pub handle_statement-requires : goal.handle_statement-requires
handle_statement-requires c = (c.requires.0, true_is _ (sym c.body_ok.ensures ∙ c.if-not-body_ok.false), c.requires.1, c.requires.2)

pub returns : goal.returns
returns c =
    let a = c.args in
    let h = c.body_ok in
    let d = c.handle_statement in
    asked_as AG a.body.now (decode a.state.now) (some (guarded (statement_of a.body.now))) a.out.now d.new.state d.new.out d.result (sym (statement_yes a.body.now h.result h.ensures c.if-not-body_ok.false)) d.ensures
