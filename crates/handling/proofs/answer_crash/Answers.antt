-- `handling::answer_crash` meets its contract. Assumes nothing.
use native.Mathlib.Omega.{arith}
use Rattle.layout.specs.States.{decode}
use Rattle.model.specs.Step.{crash, asking_host, asking_process}
use Rattle.handling.specs.AnswerLaws.{none_refuses, may_crash, took, was_refused}
use Rattle.handling.proofs.answer_crash.Goals as goal

pub returns-in-Err : goal.returns-in-Err
unfolding asking_host asking_process
returns-in-Err c =
    let a = c.args in
    let d = c.refuse in
    was_refused (decode a.state.now) (crash a.host) c.in-Err.why a.out.now a.state.now d.new.out d.result c.in-Err.ensures (rw c.number.ensures at d.ensures)

pub take_crash-requires : goal.take_crash-requires
take_crash-requires c =
    let a = c.args in
    let z = none_refuses (decode a.state.now) (crash a.host) c.in_default.ensures in
    (c.requires.0, c.requires.1, may_crash (decode a.state.now) a.host z, omega (arith, c.requires.2))

pub returns : goal.returns
returns c =
    let a = c.args in
    let d = c.take_crash in
    took (decode a.state.now) (crash a.host) a.out.now d.new.state d.new.out d.result tt c.in_default.ensures d.ensures
