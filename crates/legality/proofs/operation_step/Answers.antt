-- `legality::operation_step` meets its contract. Assumes nothing.
use Rattle.std.proofs.Common.{sym}
use Rattle.legality.specs.Places.{no_step, no_place, no_legal, step_there}
use Rattle.legality.proofs.operation_step.Goals as goal

pub returns-in_err-op : goal.returns-in_err-op
returns-in_err-op c = rw c.from_residual.ensures (no_step c.args.guard c.args.kinds.now c.args.b.now c.args.at c.in_err-op.ensures.is)

pub returns-then-not-place_ok : goal.returns-then-not-place_ok
returns-then-not-place_ok c = no_place c.args.guard c.args.kinds.now c.args.b.now c.args.at c.in_ok-op.op c.in_ok-op.end c.in_ok-op.ensures.is (sym c.if-not-place_ok.ensures)

pub returns-in_err-after : goal.returns-in_err-after
returns-in_err-after c =
    rw c.from_residual-in_err-after.ensures (no_legal c.args.guard c.args.kinds.now c.args.b.now c.args.at c.in_ok-op.op c.in_ok-op.end c.in_ok-op.ensures.is (sym c.if-not-place_ok.ensures) c.in_err-after.ensures)

pub returns : goal.returns
returns c = step_there c.args.guard c.args.kinds.now c.args.b.now c.args.at c.in_ok-op.op c.in_ok-op.end c.in_ok-op.ensures.is c.in_ok-after.after (sym c.if-not-place_ok.ensures) c.in_ok-after.ensures
