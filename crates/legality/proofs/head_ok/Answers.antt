-- `legality::head_ok` meets its contract. Assumes nothing.
use Rattle.std.proofs.Common.{rules, ◌∙◌, le-leb}
use Rattle.legality.specs.OperationLaws.{head_lookup, head_transfer}
use Rattle.legality.proofs.head_ok.Goals as goal

pub returns-then-op-ge-TWO_SPACES : goal.returns-then-op-ge-TWO_SPACES
returns-then-op-ge-TWO_SPACES c =
    le-leb 6 c.args.op.code c.if-op-ge-TWO_SPACES.true ∙ head_transfer c.args.op.code c.args.op.from c.args.op.to c.args.op.count (search rules) (search rules) c.if-op-ge-TWO_SPACES.true c.requires

pub returns-else-op-ge-TWO_SPACES : goal.returns-else-op-ge-TWO_SPACES
returns-else-op-ge-TWO_SPACES c = head_lookup c.args.op.code c.args.op.from c.args.op.to c.args.op.count (search rules) c.if-op-ge-TWO_SPACES.false c.requires
