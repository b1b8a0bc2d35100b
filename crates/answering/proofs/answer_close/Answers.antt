-- `answering::answer_close` meets its contract. Assumes nothing.
use native.Mathlib.Omega.{arith}
use Rattle.layout.specs.States.{decode}
use Rattle.model.specs.Step.{close_space, asking_host, asking_process}
use Rattle.handling.specs.AnswerLaws.{none_refuses, may_close, took, was_refused}
use Rattle.answering.proofs.answer_close.Goals as goal

pub returns-in-Err : goal.returns-in-Err
unfolding asking_host asking_process
returns-in-Err c =
    let a = c.args in
    let d = c.refuse in
    was_refused (decode a.state.now) (close_space a.host a.process a.space) c.in-Err.why a.out.now a.state.now d.new.out d.result c.in-Err.ensures (rw c.number.ensures at d.ensures)

pub take_close-requires : goal.take_close-requires
take_close-requires c =
    let a = c.args in
    let z = none_refuses (decode a.state.now) (close_space a.host a.process a.space) c.in_default.ensures in
    (c.requires.0, may_close (decode a.state.now) a.host a.process a.space z, omega (arith, c.requires.3))

pub returns : goal.returns
returns c =
    let a = c.args in
    let d = c.take_close in
    took (decode a.state.now) (close_space a.host a.process a.space) a.out.now d.new.state d.new.out d.result tt c.in_default.ensures d.ensures
