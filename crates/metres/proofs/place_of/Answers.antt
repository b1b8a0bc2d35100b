-- `metres::place_of` meets its contract. Assumes nothing.
use native.Mathlib.Omega.{arith}
use Rattle.rounding.specs.Parts.{place}
use Rattle.metres.proofs.place_of.Goals as goal

pub returns : goal.returns
unfolding place
returns c = omega arith
