-- `replica::steps::refuse_body` meets its contract. Assumes nothing.
use native.Mathlib.Omega.{arith}
use Rattle.layout.specs.States.{decode}
use Rattle.order.specs.Told.{number_of}
use Rattle.walk.specs.Walk.{body_is}
use Rattle.replica.specs.HandleLaws.{refused_body}
use Rattle.replica.proofs.steps.refuse_body.Goals as goal

pub bounds-body-0 : goal.bounds-body-0
bounds-body-0 c = omega (arith, (body_is c.args.body.now c.requires.1).long)

pub word2-requires : goal.word2-requires
word2-requires c = omega (arith, (body_is c.args.body.now c.requires.1).long)

pub returns : goal.returns
returns c =
    let a = c.args in
    let w = c.word2 in
    let d = c.refuse in
    refused_body (decode a.state.now) a.body.now w.result (number_of a.outcome) a.out.now a.state.now d.new.out d.result.size c.requires.1 w.ensures (rw c.number.ensures at d.ensures)
