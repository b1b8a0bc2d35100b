-- `handling::answer_open` meets its contract. Assumes nothing.
use native.Mathlib.Omega.{arith}
use Rattle.layout.specs.States.{decode}
use Rattle.model.specs.Step.{open_space, asking_host, asking_process}
use Rattle.handling.specs.AnswerLaws.{none_refuses, may_open, took, was_refused}
use Rattle.handling.proofs.answer_open.Goals as goal

pub returns-in-Err : goal.returns-in-Err
unfolding asking_host asking_process
returns-in-Err c =
    let a = c.args in
    let d = c.refuse in
    was_refused (decode a.state.now) (open_space a.host a.process a.owned) c.in-Err.why a.out.now a.state.now d.new.out d.result (c.in-Err.ensures a.owned) (rw c.number.ensures at d.ensures)

pub take_open-requires : goal.take_open-requires
take_open-requires c =
    let a = c.args in
    let z = none_refuses (decode a.state.now) (open_space a.host a.process a.owned) (c.in_default.ensures a.owned) in
    (c.requires.0, may_open (decode a.state.now) a.host a.process a.owned z, omega (arith, c.requires.2))

pub returns : goal.returns
returns c =
    let a = c.args in
    let d = c.take_open in
    took (decode a.state.now) (open_space a.host a.process a.owned) a.out.now d.new.state d.new.out d.result tt (c.in_default.ensures a.owned) d.ensures
