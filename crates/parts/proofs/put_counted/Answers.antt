-- `parts::put_counted` meets its contract. Assumes nothing.
use native.Mathlib.Omega.{arith}
use Rattle.parts.specs.Operations.{counted_put}
use Rattle.parts.proofs.put_counted.Goals as goal

pub returns : goal.returns
returns c =
    let a = c.args in
    counted_put a.op.fields a.op.count a.t.now a.at _ _ (omega (arith, c.requires.0)) (omega (arith, c.requires.2)) c.put_fields.ensures
