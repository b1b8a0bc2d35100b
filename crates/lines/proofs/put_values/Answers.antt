-- `lines::put_values` meets its contract. Assumes nothing.
use Rattle.std.proofs.Common.{arith}
use Rattle.lines.specs.WrittenLaws.{values_none, values_next, values_all}
use Rattle.lines.proofs.put_values.Goals as goal

pub loop-i-init : goal.loop-i-init
loop-i-init c = record {
  room = omega arith;
  written = values_none c.args.replies.now c.args.out.now c.args.from c.args.at;
}

pub loop-i-preserved : goal.loop-i-preserved
loop-i-preserved c = record {
  room = omega arith;
  written = values_next c.args.replies.now c.args.out.now c.loop-i.out c.put_value-end.new.out c.args.from c.loop-i.i c.args.at c.loop-i.end c.put_value-end.result (omega arith) c.loop-i.invariant.written c.put_value-end.ensures.put;
}

pub returns-clause-put : goal.returns-clause-put
returns-clause-put c =
    (values_all c.args.replies.now c.args.out.now c.loop-i.out c.args.from c.loop-i.i c.args.count c.args.at c.loop-i.end (omega arith) c.loop-i.invariant.room c.loop-i.invariant.written).0

pub returns-clause-upper_bound : goal.returns-clause-upper_bound
returns-clause-upper_bound c =
    (values_all c.args.replies.now c.args.out.now c.loop-i.out c.args.from c.loop-i.i c.args.count c.args.at c.loop-i.end (omega arith) c.loop-i.invariant.room c.loop-i.invariant.written).1
