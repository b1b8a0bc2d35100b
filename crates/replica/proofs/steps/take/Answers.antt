-- `replica::steps::take` meets its contract. Assumes nothing.
use Rattle.calls.specs.Calls.{lent}
use Rattle.replica.specs.TakeLaws.{take_refused, take_ready, take_done}
use Rattle.replica.proofs.steps.take.Goals as goal

pub returns-in-Err : goal.returns-in-Err
returns-in-Err c =
    let a = c.args in
    rw c.number.ensures (take_refused (lent a.state.now a.input.now a.reply.now) _ c.in-Err.ensures)

pub step-requires : goal.step-requires
step-requires c =
    let a = c.args in
    let r = take_ready (lent a.state.now a.input.now a.reply.now) c.in_default.ensures in
    (r.stored, r.number, r.room)

pub returns : goal.returns
returns c =
    let a = c.args in
    let d = c.step in
    take_done (lent a.state.now a.input.now a.reply.now) d.new.state d.new.out d.result c.in_default.ensures d.ensures
