-- `alone::read_alone` meets its contract. Assumes nothing.
use Rattle.alone.specs.Alone.{nothing_alone, alone_spare, alone_illegal, alone_legal}
use Rattle.alone.proofs.read_alone.Goals as goal
use Rattle.alone.proofs.read_alone.Goals.{else-end-b-via-then-end-b+else-lookup_ok, else-end-b-via-else-end-b}

pub returns-in_err-op : goal.returns-in_err-op
returns-in_err-op c = rw c.from_residual.ensures (nothing_alone c.args.b.now c.in_err-op.ensures.is)

pub returns-then-lookup_ok : goal.returns-then-lookup_ok
returns-then-lookup_ok c = alone_legal c.args.b.now c.in_ok-op.op c.in_ok-op.end c.in_ok-op.ensures.is c.if-end-b.true c.in_ok-op.ensures.parts.count c.if-lookup_ok.ensures

pub returns-else-end-b : goal.returns-else-end-b
returns-else-end-b c = elim c.else-end-b.branch [
  | else-end-b-via-then-end-b+else-lookup_ok w ↦ alone_illegal c.args.b.now c.in_ok-op.op c.in_ok-op.end c.in_ok-op.ensures.is w.if-end-b.true w.if-lookup_ok.ensures
  | else-end-b-via-else-end-b w ↦ alone_spare c.args.b.now c.in_ok-op.op c.in_ok-op.end c.in_ok-op.ensures.is w.if-end-b.false
]
