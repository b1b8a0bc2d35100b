-- `tuples::put_value` meets its contract. Assumes nothing.
use mathlib.Core.Path.{refl}
use native.Mathlib.Omega.{arith}
use lib.ListN.{length-set}
use Rattle.tuples.specs.EntryLaws.{value_stored}
use Rattle.tuples.proofs.put_value.Goals as goal

pub put4-requires : goal.put4-requires
put4-requires c = simp length-set (omega (arith, c.requires))

pub shape_of-entry : goal.shape_of-entry
shape_of-entry c = simp length-set at c.put4.auto.d

pub returns : goal.returns
returns c =
    value_stored _ _ _ _ _ _ (omega (arith, c.requires)) refl c.put4.ensures
