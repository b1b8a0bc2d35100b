-- `values::Value::bits` meets its contract. Assumes nothing.
use borrow.Author.Rules.{rules}
use mathlib.Core.Path.{subst}
use lib.Dec.{T}
use lib.Ieee.{binary32, fits}
use Rattle.model.specs.Value.{legal_value}
use Rattle.values.specs.Meaning.{value_is}
use Rattle.values.specs.declared.Value.{Value}
use Rattle.values.proofs.Finite.{no_nan, metres_finite}
use Rattle.values.proofs.Value.bits.Goals as goal

pub float_to_bits-result : goal.float_to_bits-result
float_to_bits-result c =
    let x = c.in-Metres.x in
    let f : T (fits binary32 x) = search rules in
    no_nan x (metres_finite x f (subst (λ (v : Value). T (legal_value (value_is v))) c.in-Metres.is c.requires))
