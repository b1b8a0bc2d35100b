-- `bindings::make_tuple` meets its contract. Assumes nothing.
use mathlib.Core.Path.{◌≡◌}
use lib.ListN.{length}
use Rattle.basis.specs.Sizes.{tuple_size}
use Rattle.bindings.specs.Fields.{fields_in}
use Rattle.bindings.specs.Variables.{bindings_of}
use Rattle.bindings.specs.Making.{Making}
use Rattle.bindings.proofs.make_tuple.Given as goal

abbrev pub invariant-loop-j : goal.invariant-loop-j
invariant-loop-j l = (length l.tuple ≡ tuple_size) × Making (bindings_of l.v) l.op.from (fields_in l.op) l.op.count l.j l.tuple
