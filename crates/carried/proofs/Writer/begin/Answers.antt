-- `carried::Writer::begin` meets its contract. Assumes nothing.
use Rattle.carried.specs.HeldLaws.{held_after}
use Rattle.carried.proofs.Writer.begin.Goals as goal

pub returns : goal.returns
returns c = held_after c.args.buffer c.kept-filled.result _ c.begin_at.new.buffer _ c.kept-filled.ensures c.begin_at.ensures
