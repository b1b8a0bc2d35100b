-- `words::word4` meets its contract. Assumes nothing.
use native.Mathlib.Omega.{arith}
use Rattle.words.specs.WordLaws.{number_at_4}
use Rattle.words.proofs.word4.Goals as goal

pub returns : goal.returns
returns c =
    let a = c.args in
    omega (arith, number_at_4 a.at a.s.now (omega arith))
