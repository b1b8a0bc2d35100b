-- `words::number` meets its contract. Assumes nothing.
use Rattle.words.specs.Widths.{Reading}
use Rattle.words.proofs.number.Given as goal

abbrev pub invariant-loop-byte : goal.invariant-loop-byte
invariant-loop-byte l = Reading l.s l.at l.n l.byte-index
