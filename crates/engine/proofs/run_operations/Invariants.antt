-- `engine::run_operations` meets its contract. Assumes nothing.
use mathlib.Core.Path.{◌≡◌}
use Prim.Native.Nat.{◌-◌}
use lib.ListN.{length}
use Rattle.model.specs.Execution.{perform_all}
use Rattle.tuples.specs.Section.{tuples_of}
use Rattle.bindings.specs.Variables.{bindings_of}
use Rattle.walk.specs.Walk.{operations_at}
use Rattle.engine.specs.Ahead.{Running}
use Rattle.engine.proofs.run_operations.Given as goal

abbrev pub invariant-loop : goal.invariant-loop
invariant-loop l = (length l.tuples ≡ length l.initial.tuples) × (l.d.outcome ≡ 0) × Running l.body (perform_all (operations_at l.body l.at l.count) (bindings_of l.initial.d.vars) (tuples_of l.initial.tuples l.initial.d.n)) l.tuples l.d.n l.d.vars l.next (l.count - l.counter)
