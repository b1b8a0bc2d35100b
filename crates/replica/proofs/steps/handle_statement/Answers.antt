-- `replica::steps::handle_statement` meets its contract. Assumes nothing.
use native.Mathlib.Omega.{arith}
use Rattle.layout.specs.States.{decode}
use Rattle.model.specs.Step.{guarded, asking_host, asking_process}
use Rattle.layout.specs.Stored.{statement_of}
use Rattle.handling.specs.AnswerLaws.{none_refuses, handled_refused}
use Rattle.replica.specs.HandleLaws.{settle_may, handled_done}
use Rattle.replica.proofs.steps.handle_statement.Goals as goal

pub returns-in-Err : goal.returns-in-Err
unfolding asking_host asking_process
returns-in-Err c =
    let a = c.args in
    let d = c.refuse_body in
    handled_refused (decode a.state.now) (guarded (statement_of a.body.now)) c.in-Err.why a.out.now a.state.now d.new.out d.result c.in-Err.ensures d.ensures

pub run_statement-own-requires : goal.run_statement-own-requires
run_statement-own-requires c =
    let a = c.args in
    (c.requires.0, c.requires.1, c.requires.2, none_refuses (decode a.state.now) (guarded (statement_of a.body.now)) c.in_default.ensures, omega (arith, c.requires.3))

pub settle-requires : goal.settle-requires
settle-requires c =
    let d = c.run_statement-own in
    settle_may _ c.args.out.now d.new.state d.new.out d.result d.ensures.0 d.ensures.1 (omega (arith, c.requires.3, d.auto.out))

pub returns : goal.returns
returns c =
    let a = c.args in
    let d = c.run_statement-own in
    let f = c.settle in
    let z = none_refuses (decode a.state.now) (guarded (statement_of a.body.now)) c.in_default.ensures in
    handled_done (decode a.state.now) (guarded (statement_of a.body.now)) a.out.now d.new.out f.new.out d.new.state f.new.state d.result f.result z d.ensures.0 f.ensures
