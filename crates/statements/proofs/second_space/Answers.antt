-- `statements::second_space` meets its contract. Assumes nothing.
use native.Mathlib.Omega.{arith}
use Rattle.statements.specs.Operations.{width_two, second_none, second_there}
use Rattle.statements.proofs.second_space.Goals as goal

pub returns-then-code-lt-TWO_SPACES : goal.returns-then-code-lt-TWO_SPACES
returns-then-code-lt-TWO_SPACES c = second_none _ _ _ c.if-code-lt-TWO_SPACES.true

pub space_number-requires : goal.space_number-requires
space_number-requires c = omega (arith, c.requires, width_two c.args.code c.if-code-lt-TWO_SPACES.false)

pub returns : goal.returns
returns c = second_there _ _ _ _ c.if-code-lt-TWO_SPACES.false c.space_number.ensures
