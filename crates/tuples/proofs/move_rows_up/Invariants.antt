-- What the loop of `tuples::move_rows_up` keeps. Assumes nothing.
use mathlib.Core.Path.{◌≡◌}
use Prim.Native.Nat.{◌+◌, ◌-◌}
use Rattle.basis.specs.Sizes.{tuple_size}
use Rattle.sections.specs.Rows.{rows_from, rows_over}
use Rattle.tuples.proofs.move_rows_up.Given as goal

abbrev pub invariant-loop-k : goal.invariant-loop-k
invariant-loop-k l = l.tuples ≡ rows_over tuple_size l.initial.tuples (l.to + l.k) (rows_from tuple_size l.initial.tuples (l.from + l.k)) (l.n - l.k)
