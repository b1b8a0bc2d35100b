-- `moves::copy_all` meets its contract. Assumes nothing.
use mathlib.Core.Path.{◌≡◌}
use lib.ListN.{length}
use Rattle.moves.specs.CopyLaws.{Copying}
use Rattle.moves.proofs.copy_all.Given as goal

abbrev pub invariant-loop-i : goal.invariant-loop-i
invariant-loop-i l = (length l.tuples ≡ length l.initial.tuples) × Copying l.template l.to l.initial.tuples l.n l.tuples l.m l.i
