-- The arms of `sum`, and the operands that it is called with. Assumes nothing.
use Prim.Native.Nat.{ℕ}
use mathlib.Core.Path.{◌≡◌, refl, sym, ap, ap₂, ◌∙◌, subst}
use mathlib.Core.Bool.{Bool, true, false, cond}
use mathlib.Core.Option.{Option, none}
use lib.Dec.{T}
use lib.IntN.{ℤ, ◌+ℤ◌, ◌-ℤ◌}
use lib.Ieee.{Float, binary32, add, sub, fits, of_bits, to_bits}
use lib.Ieee.Bits.{of_bits-to_bits}
use mir.Syntax.{w32}
use mir.Val.{to_z, of_z}
use Rattle.model.specs.Value as Model
use Rattle.model.specs.Value.{value, metres, by_kind, legal_value, exact, rounded, no_sum, plus, minus, whole_plus, whole_minus, metres_plus, metres_minus}
use Rattle.values.specs.Meaning.{value_is, answered}
use Rattle.sums.specs.Meaning.{off_range, sum_of, Alike}
use Rattle.values.specs.declared.Value.{Value}
use Rattle.values.specs.declared.Value.TheVariants.{Whole, Name, Metres}
use Rattle.values.proofs.Twos.{again}

-- a plus or minus is a table with a row for whole numbers and one for metres, and none else
table : (t : Bool) (k a b : ℕ)
    → by_kind k (λ a b. exact (cond t (to_z w32 a -ℤ to_z w32 b) (to_z w32 a +ℤ to_z w32 b))) no_sum (λ a b. rounded (cond t (sub binary32 (of_bits binary32 a) (of_bits binary32 b)) (add binary32 (of_bits binary32 a) (of_bits binary32 b)))) no_sum a b
    ≡ sum_of t k a b
unfolding plus whole_plus metres_plus minus whole_minus metres_minus
table true k a b = refl
table false k a b = refl

module _ (t : Bool) (a b : Value) (p : Alike a b) where
  abbrev Gives : Option Model.Value → Type 0
  Gives o = answered off_range o ≡ answered off_range (sum_of t (value_is b).kind (value_is a).bits (value_is b).bits)

  pub whole_row : (x y z : ℤ) → a ≡ Whole x → b ≡ Whole y → z ≡ cond t (again x -ℤ again y) (again x +ℤ again y) → Gives (exact z)
  whole_row x y z d e q = rw (d, e, q) (ap (answered off_range) (table t 0 (of_z w32 x) (of_z w32 y)))

  pub metres_row : (x y : Float) → T (fits binary32 x) → T (fits binary32 y) → a ≡ Metres x → b ≡ Metres y → Gives (rounded (cond t (sub binary32 x y) (add binary32 x y)))
  metres_row x y h k d e =
      rw (d, e) (ap (answered off_range) (ap₂ (λ (u v : Float). rounded (cond t (sub binary32 u v) (add binary32 u v))) (sym (of_bits-to_bits binary32 x h)) (sym (of_bits-to_bits binary32 y k)) ∙ table t 2 (to_bits binary32 x) (to_bits binary32 y)))

  -- names have no sum; the second operand has the first one's kind
  pub name_row : (n : ℕ) → a ≡ Name n → Gives none
  unfolding no_sum
  name_row n d = rw (← p.kind, d) (ap (answered off_range) (table t 1 n (value_is b).bits))

pub metres_legal : (a b : Value) → Alike a b → (x y : Float) → a ≡ Metres x → b ≡ Metres y → T (legal_value (value metres (to_bits binary32 x))) × T (legal_value (value metres (to_bits binary32 y)))
metres_legal a b p x y d e = (subst (λ (v : Value). T (legal_value (value_is v))) d p.first, subst (λ (v : Value). T (legal_value (value_is v))) e p.second)

-- operands that were read from a kind and bits
pub alike : (k a b : ℕ) (x y : Value) → value_is x ≡ value k a → value_is y ≡ value k b → T (legal_value (value k a)) → T (legal_value (value k b)) → Alike x y
alike k a b x y d e p q = record { first = rw d p; second = rw e q; kind = rw (d, e) }
