-- `statements::standing_bare` meets its contract. Assumes nothing.
use Rattle.statements.specs.At.{some_read}
use Rattle.statements.specs.Front.{some_bare}
use Rattle.statements.proofs.standing_bare.Goals as goal

pub unwrap-requires : goal.unwrap-requires
unwrap-requires c = some_read _ c.pass_operation.result _ c.pass_operation.ensures (some_bare _ c.requires)
