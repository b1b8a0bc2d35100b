-- `words::put_number` meets its contract. Assumes nothing.
use Rattle.std.proofs.Common.{◌≡◌, length}
use Rattle.basis.specs.Numbers.{big_endian}
use Rattle.words.specs.Over.{over}
use Rattle.words.proofs.put_number.Given as goal

-- what is left to write, over what is written, is the whole
abbrev pub invariant-loop-i : goal.invariant-loop-i
invariant-loop-i l = (length l.d ≡ length l.initial.d) × (over l.d l.at (big_endian l.i l.left) l.i ≡ over l.initial.d l.at (big_endian l.w l.n) l.w)
