-- `bodies::operations_ok` meets its contract. Assumes nothing.
use Rattle.model.specs.Reading.{operation}
use Rattle.statements.specs.Ends.{passing_start, passing_turn, passing_stop, passing_done}
use Rattle.fields.specs.Kinds.{kinds_are}
use Rattle.legality.specs.Steps.{body_legal}
use Rattle.bodies.specs.BranchLaws.{body_none, step_passes, step_stops}
use Rattle.bodies.proofs.operations_ok.Goals as goal

pub loop-init : goal.loop-init
loop-init c = passing_start operation (body_legal (kinds_are c.args.kinds)) _ _ _ c.requires

pub returns-in_err-now : goal.returns-in_err-now
returns-in_err-now c =
    rw c.from_residual.ensures
    (passing_stop operation (body_legal (kinds_are c.args.kinds)) (body_legal (kinds_are c.loop.now)) c.args.b.now c.args.at c.args.count c.loop.end c.loop.counter c.loop.invariant c.loop-test.true
    (step_stops (kinds_are c.loop.now) c.args.b.now c.loop.end c.in_err-now.ensures))

pub loop-preserved : goal.loop-preserved
loop-preserved c =
    passing_turn operation (body_legal (kinds_are c.args.kinds)) (body_legal (kinds_are c.loop.now)) c.args.b.now c.args.at c.args.count c.loop.end c.loop.counter c.loop.invariant (body_legal (kinds_are c.in_ok-now.field-0-0)) c.in_ok-now.field-0-1 c.loop-test.true
    (step_passes (kinds_are c.loop.now) c.args.b.now c.loop.end (kinds_are c.in_ok-now.field-0-0) c.in_ok-now.field-0-1 c.in_ok-now.ensures)

pub returns : goal.returns
returns c = passing_done operation (body_legal (kinds_are c.args.kinds)) (body_legal (kinds_are c.loop.now)) c.args.b.now c.args.at c.args.count c.loop.end c.loop.counter c.loop.invariant c.loop-test.false (body_none (kinds_are c.loop.now))
