-- `walk::standing_end` meets its contract. Assumes nothing.
use Rattle.basis.specs.Choice.{some_given}
use Rattle.walk.proofs.standing_end.Goals as goal

pub unwrap-requires : goal.unwrap-requires
unwrap-requires c = some_given c.operations_end.result _ c.operations_end.ensures c.requires.1
