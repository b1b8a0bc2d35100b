-- `additions::operation_at` meets its contract. Assumes nothing.
use Rattle.std.proofs.lemmas.Result.{err_from_is_err_and}
use Rattle.writer.specs.Writer.{with_operation, add_operation}
use Rattle.composer.specs.Grown.{grows_operation}
use Rattle.additions.specs.AdditionLaws.{add_refused, add_done}
use Rattle.additions.proofs.operation_at.Goals as goal

pub returns-in_err-addable : goal.returns-in_err-addable
unfolding add_operation
returns-in_err-addable c =
    let a = c.args in
    let p = err_from_is_err_and c.from_residual.result c.from_residual.ensures.1 in
    rw (p.1, p.2) (add_refused with_operation a.buffer.now a.fill a.operation c.in_err-addable.field-0.0 c.in_err-addable.ensures)

pub returns : goal.returns
unfolding add_operation
returns c =
    let a = c.args in
    add_done with_operation grows_operation a.buffer.now a.fill a.operation _ _ c.in_ok-addable.ensures.0 c.in_ok-addable.ensures.1 c.compose_operation-n.ensures.1 c.settle.ensures
