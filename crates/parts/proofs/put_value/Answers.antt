-- `parts::put_value` meets its contract. Assumes nothing.
use native.Mathlib.Omega.{arith}
use lib.ListN.{length-set}
use Rattle.parts.specs.Fields.{value_put}
use Rattle.parts.proofs.put_value.Goals as goal

pub put4-requires : goal.put4-requires
put4-requires c = simp length-set (omega arith)

pub returns : goal.returns
returns c =
    value_put c.args.t.now _ c.args.at c.args.kind c.args.bits c.requires c.put4.ensures
