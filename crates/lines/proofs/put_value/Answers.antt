-- `lines::put_value` meets its contract. Assumes nothing.
use Rattle.std.proofs.Common.{◌∙◌}
use Rattle.lines.specs.WrittenLaws.{value_put}
use Rattle.lines.proofs.put_value.Goals as goal

pub returns-clause-put : goal.returns-clause-put
returns-clause-put c =
    let v = c.put_part-kind_at in
    let k = c.put_part-bits_at in
    value_put c.args.replies.now c.args.out.now v.new.out k.new.out c.put_bits.new.out c.args.from c.args.at v.result k.result
    c.requires.1 c.requires.0 v.auto.out (k.auto.out ∙ v.auto.out) v.ensures.upper_bound k.ensures.upper_bound v.ensures.put k.ensures.put c.put_bits.ensures
