-- `handling::answer_monitor` meets its contract. Assumes nothing.
use native.Mathlib.Omega.{arith}
use Rattle.layout.specs.States.{decode}
use Rattle.model.specs.Step.{monitor, asking_host, asking_process}
use Rattle.handling.specs.AnswerLaws.{none_refuses, may_monitor, took, was_refused}
use Rattle.handling.proofs.answer_monitor.Goals as goal

pub returns-in-Err : goal.returns-in-Err
unfolding asking_host asking_process
returns-in-Err c =
    let a = c.args in
    let d = c.refuse in
    was_refused (decode a.state.now) (monitor a.host a.process) c.in-Err.why a.out.now a.state.now d.new.out d.result c.in-Err.ensures (rw c.number.ensures at d.ensures)

pub take_monitor-requires : goal.take_monitor-requires
take_monitor-requires c =
    let a = c.args in
    let z = none_refuses (decode a.state.now) (monitor a.host a.process) c.in_default.ensures in
    (c.requires.0, may_monitor (decode a.state.now) a.host a.process z, omega (arith, c.requires.2))

pub returns : goal.returns
returns c =
    let a = c.args in
    let d = c.take_monitor in
    took (decode a.state.now) (monitor a.host a.process) a.out.now d.new.state d.new.out d.result tt c.in_default.ensures d.ensures
