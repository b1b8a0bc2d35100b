-- `spans::move_down` meets its contract. Assumes nothing.
use Rattle.std.proofs.Common.{◌≡◌, length, drop}
use Rattle.words.specs.Over.{over}
use Rattle.spans.proofs.move_down.Given as goal

abbrev pub invariant-loop-i : goal.invariant-loop-i
invariant-loop-i l = (length l.a ≡ length l.initial.a) × (l.a ≡ over l.initial.a l.to (drop l.from l.initial.a) l.i)
