-- `digits::put_part` meets its contract. Assumes nothing.
use Rattle.std.proofs.Common.{arith}
use Rattle.digits.specs.PutLaws.{part_put}
use Rattle.digits.proofs.put_part.Goals as goal

pub returns-clause-upper_bound : goal.returns-clause-upper_bound
returns-clause-upper_bound c =
    (part_put c.args.mark c.args.b c.wide.result c.args.out.now c.put_next.new.out c.args.at c.put_next.result c.wide.ensures.0 (omega (arith, c.ranges.b)) c.put_next.ensures).1
