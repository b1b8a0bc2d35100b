-- `guards::search` meets its contract. Assumes nothing.
use mathlib.Core.Path.{◌≡◌}
use Prim.Native.Nat.{◌-◌}
use Rattle.std.specs.Prelude.{None}
use Rattle.tuples.specs.Section.{tuples_of}
use Rattle.guards.specs.Searching.{Unmatched, Seeking}
use Rattle.guards.proofs.search.Given as goal

abbrev pub invariant-tuples : goal.invariant-tuples
invariant-tuples l = (l.choice ≡ None) × Unmatched l.template l.tuples l.n l.tuple

abbrev pub invariant-branches : goal.invariant-branches
invariant-branches l = (l.choice ≡ None) × Seeking l.body (tuples_of l.tuples l.n) l.i l.at (l.i-end - l.i)
