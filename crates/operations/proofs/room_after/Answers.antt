-- `operations::room_after` meets its contract. Assumes nothing.
use native.Mathlib.Omega.{arith}
use Rattle.operations.specs.Codes.{room_true, room_in, room_rd}
use Rattle.operations.proofs.room_after.Goals as goal

pub returns-in-1 : goal.returns-in-1
returns-in-1 c = let a = c.args in room_in a.code a.n (λ z. omega arith) (omega arith)

pub returns-in_default : goal.returns-in_default
returns-in_default c = let a = c.args in room_true a.code a.n (omega arith)

pub returns-in_default-2 : goal.returns-in_default-2
returns-in_default-2 c = let a = c.args in room_rd a.code a.n (omega arith)
