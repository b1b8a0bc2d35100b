-- `lines::put_head` meets its contract. Assumes nothing.
use Rattle.std.proofs.Common.{arith}
use Rattle.lines.specs.WrittenLaws.{head_put}
use Rattle.lines.proofs.put_head.Goals as goal

pub returns-clause-put : goal.returns-clause-put
returns-clause-put c =
    let p = c.put_source-outcome_at in
    let o = c.put_part-branch_at in
    let b = c.put_part in
    head_put c.args.replies.now c.args.out.now p.new.out o.new.out b.new.out c.args.from c.args.at p.result o.result b.result (omega arith) (omega arith)
    p.ensures.put o.ensures.put b.ensures.put
