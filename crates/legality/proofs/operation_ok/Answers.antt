-- `legality::operation_ok` meets its contract. Assumes nothing.
use Rattle.std.proofs.Common.{sym, arith}
use Rattle.legality.specs.OperationLaws.{step_always, step_refused, step_fields}
use Rattle.legality.proofs.operation_ok.Goals as goal

pub returns-then-op-eq-TRUE : goal.returns-then-op-eq-TRUE
returns-then-op-eq-TRUE c = step_always c.args.kinds.now c.args.op c.if-op-eq-TRUE.true

pub returns-then-not-head_ok : goal.returns-then-not-head_ok
returns-then-not-head_ok c = step_refused c.args.kinds.now c.args.op c.if-op-eq-TRUE.false (omega arith) (sym c.if-not-head_ok.ensures)

pub returns : goal.returns
returns c = step_fields c.args.kinds.now c.args.op c.if-op-eq-TRUE.false (omega arith) c.fields_ok.result (sym c.if-not-head_ok.ensures) c.fields_ok.ensures
