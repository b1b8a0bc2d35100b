-- `lines::reply_size` meets its contract. Assumes nothing.
use Rattle.std.specs.Prelude.{◌-◌}
use Rattle.std.proofs.Common.{arith}
use Rattle.lines.specs.WrittenLaws.{size_none, size_whole}
use Rattle.lines.proofs.reply_size.Goals as goal

pub returns-then-left-lt-REPLY_HEADER : goal.returns-then-left-lt-REPLY_HEADER
returns-then-left-lt-REPLY_HEADER c = size_none c.args.replies.now c.args.from (c.args.n - c.args.from) c.if-left-lt-REPLY_HEADER.true

pub returns : goal.returns
returns c = size_whole c.args.replies.now c.args.from (c.args.n - c.args.from) c.size.result c.then_some.result c.size.ensures.0 (omega arith) c.then_some.ensures
