-- `lines::put_source` meets its contract. Assumes nothing.
use Rattle.std.specs.Prelude.{◌≤◌, ◌+◌}
use Rattle.std.proofs.Common.{◌∙◌, arith}
use Rattle.text.specs.Written.{most_digits}
use Rattle.digits.specs.PutLaws.{number_few, next_few}
use Rattle.lines.specs.WrittenLaws.{source_put}
use Rattle.lines.proofs.put_source.Goals as goal

pub put_part-process_at-requires : goal.put_part-process_at-requires
put_part-process_at-requires c =
    omega (arith, number_few c.word4.result c.args.out.now c.put_number-host_at.new.out c.args.at c.put_number-host_at.result (omega arith) c.put_number-host_at.ensures)

pub put_next-requires : goal.put_next-requires
put_next-requires c =
    omega (arith, number_few c.word4.result c.args.out.now c.put_number-host_at.new.out c.args.at c.put_number-host_at.result (omega arith) c.put_number-host_at.ensures)

pub returns-clause-put : goal.returns-clause-put
returns-clause-put c =
    let p = c.put_number-host_at in
    let h = c.put_part-process_at in
    let n = c.put_next in
    let most : p.result ≤ c.args.at + most_digits = number_few c.word4.result c.args.out.now p.new.out c.args.at p.result (omega arith) p.ensures in
    source_put c.args.replies.now c.args.out.now p.new.out h.new.out n.new.out c.args.from c.word4.result c.from.result c.args.at p.result h.result n.result
    (omega arith) (omega arith) c.word4.ensures (c.from.ensures ∙ c.word2.ensures) p.ensures h.ensures.put n.ensures

pub returns-clause-upper_bound : goal.returns-clause-upper_bound
returns-clause-upper_bound c =
    let p = c.put_number-host_at in
    let n = c.put_next in
    omega (arith, number_few c.word4.result c.args.out.now p.new.out c.args.at p.result (omega arith) p.ensures, next_few _ c.from.result c.put_part-process_at.new.out n.new.out c.put_part-process_at.result n.result (omega arith) n.ensures)
