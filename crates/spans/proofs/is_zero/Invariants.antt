-- `spans::is_zero` meets its contract. Assumes nothing.
use Rattle.std.proofs.Common.{◌≡◌, take, eqb}
use Rattle.basis.specs.Lists.{all}
use Rattle.spans.proofs.is_zero.Given as goal

abbrev pub invariant-loop-byte : goal.invariant-loop-byte
invariant-loop-byte l = l.all ≡ all (λ b. eqb b 0) (take l.byte-index l.piece)
