-- What a sum is in the terms of the one-by-one run: where there is one and where there is none, its number and value. Assumes nothing.
use Rattle.std.specs.Prelude as code
use Rattle.std.specs.Prelude.{ℕ, ◌≡◌, Bool, cond, T, None, Some}
use Rattle.std.proofs.Math.Option.{Option, none, some}
use Rattle.model.specs.Value as Model
use Rattle.model.specs.Value.{legal_value, plus, minus}
use Rattle.values.specs.declared.Value.{Value}
use Rattle.values.specs.Meaning.{value_is, Answer}

-- 17, "result off the range or not finite"
abbrev pub off_range : ℕ
off_range = 17

-- the answer of a plus or minus
abbrev pub sum_is : code.Option Value → Answer
sum_is (Some v) = record { number = 0; given = some (value_is v) }
sum_is None = record { number = off_range; given = none }

-- rule 4 on the bits of two values of kind k: minus, or else plus
abbrev pub sum_of : Bool → (k a b : ℕ) → Option Model.Value
sum_of subtract k a b = cond subtract (minus k a b) (plus k a b)

-- two legal values of one kind
pub record Alike (a b : Value) : Type 0 where
  pub first : T (legal_value (value_is a))
  pub second : T (legal_value (value_is b))
  pub kind : (value_is a).kind ≡ (value_is b).kind
