-- Sums of metres by their bits: what is read back from the bits of a sum is the sum, and it is finite exactly if they are below an infinity's. Assumes nothing.
use Rattle.std.specs.Prelude.{None, Some}
use Prim.Native.Nat.{ℕ, ◌%◌, ◌<◌, ◌≤◌}
use mathlib.Core.Path.{◌≡◌, ap, ap₂, ◌∙◌}
use mathlib.Core.Bool.{not}
use lib.Dec.{T}
use lib.Ieee.{Float, binary32, fits, is_nan, of_bits, to_bits}
use lib.Ieee.Bits.{of_bits-to_bits}
use borrow.Author.Tests.{lt-ltb, le-ltb}
use Rattle.basis.specs.Choice.{provided}
use Rattle.rounding.specs.Parts.{sign, infinite}
use Rattle.rounding.specs.Binary32.{finite_bits}
use Rattle.model.specs.Value.{value, metres, legal_value, rounded}
use Rattle.model.specs.Metres.{legal_bits}
use Rattle.values.specs.Meaning.{answered}
use Rattle.values.specs.declared.Value.TheVariants.{Metres}
use Rattle.values.proofs.Finite.{no_nan, metres_finite}
use Rattle.sums.specs.Meaning.{off_range, sum_is}

pub finite_given : (n : ℕ) → n % sign < infinite → sum_is (Some (Metres (of_bits binary32 n))) ≡ answered off_range (rounded (of_bits binary32 n))
unfolding rounded provided
finite_given n h = rw (finite_bits n, lt-ltb (n % sign) infinite h)

pub infinite_refused : (n : ℕ) → infinite ≤ n % sign → sum_is None ≡ answered off_range (rounded (of_bits binary32 n))
unfolding rounded provided
infinite_refused n h = rw (finite_bits n, le-ltb (n % sign) infinite h)

-- legal metres have bits, which are what the sum on bits asks for
pub has_bits : (x : Float) → T (fits binary32 x) → T (legal_value (value metres (to_bits binary32 x))) → T (not (is_nan x))
has_bits x f t = no_nan x (metres_finite x f t)

pub sum_asks : (x y : Float) → T (legal_value (value metres (to_bits binary32 x))) → T (legal_value (value metres (to_bits binary32 y)))
    → (to_bits binary32 x % sign < infinite) × ((to_bits binary32 y % sign < infinite) × (to_bits binary32 x ≡ sign → ⊥))
sum_asks x y p q = let b = legal_bits (to_bits binary32 x) p in (b.below, ((legal_bits (to_bits binary32 y) q).below, b.nonzero))

-- an operation on the bits is that on the values
pub by_bits : (f : Float → Float → Float) (x y : Float) (n : ℕ) → T (fits binary32 x) → T (fits binary32 y) → T (fits binary32 (f x y))
    → n ≡ to_bits binary32 (f (of_bits binary32 (to_bits binary32 x)) (of_bits binary32 (to_bits binary32 y))) → answered off_range (rounded (of_bits binary32 n)) ≡ answered off_range (rounded (f x y))
by_bits f x y n h k l e =
    ap (λ (z : Float). answered off_range (rounded z))
    (ap (of_bits binary32) (e ∙ ap₂ (λ (u v : Float). to_bits binary32 (f u v)) (of_bits-to_bits binary32 x h) (of_bits-to_bits binary32 y k)) ∙ of_bits-to_bits binary32 (f x y) l)
