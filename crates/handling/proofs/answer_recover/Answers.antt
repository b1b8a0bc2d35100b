-- `handling::answer_recover` meets its contract. Assumes nothing.
use native.Mathlib.Omega.{arith}
use Rattle.layout.specs.States.{decode}
use Rattle.model.specs.Step.{recover, asking_host, asking_process}
use Rattle.handling.specs.AnswerLaws.{none_refuses, may_recover, took, was_refused}
use Rattle.handling.proofs.answer_recover.Goals as goal

pub returns-in-Err : goal.returns-in-Err
unfolding asking_host asking_process
returns-in-Err c =
    let a = c.args in
    let d = c.refuse in
    was_refused (decode a.state.now) (recover a.host) c.in-Err.why a.out.now a.state.now d.new.out d.result c.in-Err.ensures (rw c.number.ensures at d.ensures)

pub take_recover-requires : goal.take_recover-requires
take_recover-requires c =
    let a = c.args in
    let z = none_refuses (decode a.state.now) (recover a.host) c.in_default.ensures in
    (c.requires.0, c.requires.1, may_recover (decode a.state.now) a.host z, omega (arith, c.requires.2))

pub returns : goal.returns
returns c =
    let a = c.args in
    let d = c.take_recover in
    took (decode a.state.now) (recover a.host) a.out.now d.new.state d.new.out d.result tt c.in_default.ensures d.ensures
