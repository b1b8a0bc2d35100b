-- `bindings::bind_at` meets its contract. Assumes nothing.
use mathlib.Core.Path.{◌≡◌}
use lib.ListN.{drop}
use Rattle.model.specs.Matching.{bind}
use Rattle.tuples.specs.Section.{tuple_at}
use Rattle.tuples.specs.Entry.{values_from}
use Rattle.bindings.specs.Fields.{fields_in}
use Rattle.bindings.specs.Variables.{bindings_of}
use Rattle.bindings.proofs.bind_at.Given as goal

abbrev pub invariant-loop-j : goal.invariant-loop-j
invariant-loop-j l = bind (bindings_of l.initial.w) (fields_in l.op) (tuple_at l.tuples l.i).values ≡ bind (bindings_of l.w) (drop l.j (fields_in l.op)) (values_from l.tuples l.i l.op.count l.j)
