-- `spans::zero_run` meets its contract. Assumes nothing.
use Rattle.std.proofs.Common.{◌≡◌, ◌&&◌, drop}
use Rattle.basis.specs.Lists.{all}
use Rattle.words.specs.Over.{zeros_at}
use Rattle.spans.proofs.Zeros.{are_zero}
use Rattle.spans.proofs.zero_run.Given as goal

-- what is left decides
abbrev pub invariant-loop-piece : goal.invariant-loop-piece
invariant-loop-piece l = zeros_at l.s l.at l.n ≡ (all are_zero (drop l.piece-index l.pieces) && are_zero l.rest)
