-- What the loop of `digits::put_bits` keeps. Assumes nothing.
use Rattle.std.specs.Prelude.{◌≡◌, ◌*◌, drop}
use Rattle.words.specs.Over.{over}
use Rattle.digits.specs.PutLaws.{hex_bytes}
use Rattle.digits.proofs.put_bits.Given as goal

abbrev pub invariant-loop-i : goal.invariant-loop-i
invariant-loop-i l = l.out ≡ over l.fn.out l.fn.at (hex_bytes l.i (drop l.fn.from l.fn.replies)) (2 * l.i)
