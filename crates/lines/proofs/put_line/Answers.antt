-- `lines::put_line` meets its contract. Assumes nothing.
use Rattle.std.proofs.Common.{arith}
use Rattle.lines.specs.WrittenLaws.{line_put}
use Rattle.lines.proofs.put_line.Goals as goal

pub returns-clause-put : goal.returns-clause-put
returns-clause-put c =
    let h = c.put_head-values_at in
    let v = c.put_values-end in
    line_put c.args.replies.now c.args.out.now h.new.out v.new.out c.args.from c.size-count.result c.args.at h.result v.result
    (omega arith) (omega arith) (omega arith) c.size-count.ensures.0 h.ensures.put v.ensures.put
