-- `values::at_most` meets its contract. Assumes nothing.
use Rattle.values.specs.Ranks.{rank_order}
use Rattle.values.proofs.at_most.Goals as goal

pub returns : goal.returns
returns c =
    rw (c.rank_of.ensures, c.rank_of-2.ensures) (rank_order c.args.a c.args.b c.ranges.a.fits c.ranges.b.fits c.args.kind)
