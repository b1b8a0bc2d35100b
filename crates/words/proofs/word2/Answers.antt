-- `words::word2` meets its contract. Assumes nothing.
use native.Mathlib.Omega.{arith}
use Rattle.words.specs.WordLaws.{number_at_2}
use Rattle.words.proofs.word2.Goals as goal

pub returns : goal.returns
returns c =
    let a = c.args in
    omega (arith, number_at_2 a.at a.s.now (omega arith))
