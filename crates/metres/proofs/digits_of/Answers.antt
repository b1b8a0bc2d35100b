-- `metres::digits_of` meets its contract. Assumes nothing.
use native.Mathlib.Omega.{arith}
use Rattle.rounding.specs.Parts.{digits}
use Rattle.metres.proofs.digits_of.Goals as goal

pub returns-then-p-lt-LEAD : goal.returns-then-p-lt-LEAD
unfolding digits
returns-then-p-lt-LEAD c = omega arith

pub returns-else-p-lt-LEAD : goal.returns-else-p-lt-LEAD
unfolding digits
returns-else-p-lt-LEAD c = omega arith
