-- `statements::standing_operation` meets its contract. Assumes nothing.
use Rattle.statements.specs.At.{some_read}
use Rattle.statements.specs.Flat.{operation_is}
use Rattle.statements.proofs.standing_operation.Goals as goal

pub unwrap-requires : goal.unwrap-requires
unwrap-requires c = some_read operation_is c.read_operation.result _ c.read_operation.ensures.is c.requires
