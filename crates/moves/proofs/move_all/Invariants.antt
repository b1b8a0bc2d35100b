-- `moves::move_all` meets its contract. Assumes nothing.
use mathlib.Core.Path.{◌≡◌}
use Prim.Native.Nat.{◌+◌, ◌*◌, ◌<◌}
use lib.ListN.{length}
use Rattle.basis.specs.Sizes.{tuple_size}
use Rattle.moves.specs.Moves.{most_held}
use Rattle.moves.specs.MoveLaws.{Moving}
use Rattle.moves.proofs.move_all.Given as goal

abbrev pub invariant-loop-i : goal.invariant-loop-i
invariant-loop-i l = (l.i < l.m + l.k + most_held) × (length l.tuples ≡ length l.initial.tuples) × (length l.held ≡ most_held * tuple_size) × Moving l.template l.to l.initial.tuples l.n l.tuples l.held l.m l.k l.i
