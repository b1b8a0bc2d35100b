-- `statements::spaces_width` meets its contract. Assumes nothing.
use native.Mathlib.Omega.{arith}
use Rattle.statements.specs.Operations.{width_one, width_two}
use Rattle.statements.proofs.spaces_width.Goals as goal

pub returns-then-code-lt-TWO_SPACES : goal.returns-then-code-lt-TWO_SPACES
returns-then-code-lt-TWO_SPACES c = (width_one _ c.if-code-lt-TWO_SPACES.true, omega arith, omega arith)

pub returns-else-code-lt-TWO_SPACES : goal.returns-else-code-lt-TWO_SPACES
returns-else-code-lt-TWO_SPACES c = (width_two _ c.if-code-lt-TWO_SPACES.false, omega arith, omega arith)
