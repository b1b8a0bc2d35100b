-- `header::set_space_count` meets its contract. Assumes nothing.
use Rattle.std.proofs.Common.{arith}
use Rattle.header.specs.RowLaws.{byte_row}
use Rattle.header.proofs.set_space_count.Goals as goal

pub returns : goal.returns
returns c = byte_row _ _ _ (omega arith) (omega arith)
