-- `walk::operations_end` meets its contract. Assumes nothing.
use Rattle.std.specs.Prelude.{None, Some}
use Rattle.basis.specs.Lists.{all}
use Rattle.model.specs.Reading.{operation}
use Rattle.statements.specs.Ends.{passing_start, passing_turn, passing_stop, passing_done, one_passes, one_stops, all_none}
use Rattle.statements.specs.Flat.{few_fields}
use Rattle.statements.specs.Operations.{suffix_operation}
use Rattle.walk.specs.BranchEnds.{bare_end}
use Rattle.walk.proofs.operations_end.Goals as goal

pub loop-init : goal.loop-init
loop-init c = passing_start operation (all few_fields) _ _ _ c.requires

pub returns-in_err-end : goal.returns-in_err-end
returns-in_err-end c = let e = c.in_err-end.ensures in
    rw c.from_residual.ensures
    (passing_stop operation (all few_fields) (all few_fields) c.args.b.now c.args.at c.args.count c.loop.end c.loop.counter c.loop.invariant c.loop-test.true
    (one_stops operation suffix_operation few_fields c.args.b.now c.loop.end (bare_end c.args.b.now c.loop.end None e)))

pub loop-preserved : goal.loop-preserved
loop-preserved c = let e = c.in_ok-end.ensures in
    passing_turn operation (all few_fields) (all few_fields) c.args.b.now c.args.at c.args.count c.loop.end c.loop.counter c.loop.invariant (all few_fields) c.in_ok-end.field-0-1 c.loop-test.true
    (one_passes operation suffix_operation few_fields c.args.b.now c.loop.end c.in_ok-end.field-0-1 (bare_end c.args.b.now c.loop.end (Some (c.in_ok-end.field-0-0, c.in_ok-end.field-0-1)) e))

pub returns : goal.returns
returns c = passing_done operation (all few_fields) (all few_fields) c.args.b.now c.args.at c.args.count c.loop.end c.loop.counter c.loop.invariant c.loop-test.false (all_none few_fields)
