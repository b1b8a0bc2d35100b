-- `tuples::bits` meets its contract. Assumes nothing.
use Rattle.tuples.specs.Entry.{value_at}
use Rattle.tuples.proofs.bits.Goals as goal

pub returns : goal.returns
unfolding value_at
returns c = c.word4.ensures
