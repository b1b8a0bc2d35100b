-- `copier::copy_operations` meets its contract. Assumes nothing.
use mathlib.Core.List.{List}
use Prim.Native.Nat.{ℕ, ◌-◌}
use Rattle.rewriter.specs.Copying.{Underway}
use Rattle.copier.proofs.copy_operations.Given as goal

abbrev pub invariant-loop : goal.invariant-loop
invariant-loop l = (buffer : List ℕ) (later : ℕ) → Underway l.body buffer l.at l.count later l.fill l.initial.out → Underway l.body buffer l.next (l.count - l.counter) later l.filled l.out
