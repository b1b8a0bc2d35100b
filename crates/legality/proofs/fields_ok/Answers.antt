-- `legality::fields_ok` meets its contract. Assumes nothing.
use Rattle.std.specs.Prelude.{take}
use Rattle.legality.specs.Judging.{judging_start, judging_turn, judging_stop, judging_done}
use Rattle.legality.proofs.fields_ok.Goals as goal

pub loop-f-init : goal.loop-f-init
loop-f-init c = judging_start _ _ _ _

pub returns-in_err-now : goal.returns-in_err-now
returns-in_err-now c =
    rw c.from_residual.ensures
    (judging_stop c.args.op.code (take c.args.op.count c.args.op.fields) c.args.earlier.now c.args.start.now c.loop-f.now c.loop-f.f-index _ c.loop-f-test.true c.loop-f.invariant c.in_err-now.ensures)

pub loop-f-preserved : goal.loop-f-preserved
loop-f-preserved c =
    judging_turn c.args.op.code (take c.args.op.count c.args.op.fields) c.args.earlier.now c.args.start.now c.loop-f.now c.loop-f.f-index _ c.loop-f-test.true c.loop-f.invariant c.in_ok-now.now c.in_ok-now.ensures

pub returns : goal.returns
returns c = judging_done c.args.op.code (take c.args.op.count c.args.op.fields) c.args.earlier.now c.args.start.now c.loop-f.now c.loop-f.f-index c.loop-f-test.false c.loop-f.invariant
