-- `metres::joined` meets its contract. Assumes nothing.
use native.Mathlib.Omega.{arith}
use Rattle.metres.proofs.joined.Goals as goal

pub overflow_sub-result : goal.overflow_sub-result
overflow_sub-result c = omega (arith, c.requires.y_lt_x c.if-minus.true)

pub returns-then-minus : goal.returns-then-minus
returns-then-minus c = rw c.if-minus.true

pub returns-else-minus : goal.returns-else-minus
returns-else-minus c = rw c.if-minus.false
