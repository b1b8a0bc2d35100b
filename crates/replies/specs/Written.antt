-- What the writers of a reply leave. Assumes nothing.
use Rattle.std.specs.Prelude as code
use Rattle.std.specs.Prelude.{None}
use Rattle.std.specs.Prelude.{◌≡◌, ℕ, zero, suc, ◌+◌, ◌*◌, ◌≤◌, cond, length, get_or, drop, eqb}
use mathlib.Core.List.{List, [], ◌∷◌, ◌++◌, flat_map}
use Rattle.basis.specs.Choice.{maybe}
use Rattle.basis.specs.Numbers.{big_endian}
use Rattle.basis.specs.Sizes.{position_width, host_width, process_width, variables, reply_header_size, reply_value_size}
use Rattle.words.specs.Over.{over}
use Rattle.model.specs.Value.{Value}
use Rattle.values.specs.declared.Scalar.{Scalar}
use Rattle.values.specs.Meaning.{scalar_given}
use Rattle.model.specs.Run.{Reply}
use Rattle.layout.specs.Replies.{reply_mark, reply_value, reply_bytes}

-- ---- parts

-- the bytes before the values
unfoldable pub head_bytes : (position host process outcome branch count : ℕ) → List ℕ
head_bytes position host process outcome branch count =
    reply_mark ++ (big_endian position_width position ++ (big_endian host_width host ++ (big_endian process_width process ++ (outcome ∷ branch ∷ count ∷ []))))

unfoldable pub values_bytes : List (ℕ × Value) → List ℕ
values_bytes vs = flat_map reply_value vs

-- the bound ones of the variables below n, in rising number; each variable's place has its value, where it is bound
unfoldable pub bound_to : ℕ → List (code.Option Scalar) → List (ℕ × Value)
bound_to zero vs = []
bound_to (suc x) vs = bound_to x vs ++ maybe (scalar_given (get_or vs x None)) [] (λ v. (x, v) ∷ [])

-- these values over a buffer, from the end of the head on, and their count
pub record PutValues (vs : List (ℕ × Value)) (entry exit : List ℕ) (count : ℕ) : Type 0 where
  pub number : count ≡ length vs
  pub few : count ≤ variables
  pub bytes : exit ≡ over entry reply_header_size (values_bytes vs) (count * reply_value_size)

-- ---- replies

abbrev pub reply : (position host process outcome branch : ℕ) → List (ℕ × Value) → Reply
reply position host process outcome branch values = record { position = position; host = host; process = process; outcome = outcome; branch = branch; values = values }

-- "values .. for 0 alone"
unfoldable pub ran_values : (outcome : ℕ) → List (code.Option Scalar) → List (ℕ × Value)
ran_values outcome vs = cond (eqb outcome 0) (bound_to variables vs) []

-- the reply's bytes over the front of a buffer, and their count
pub record Wrote (r : Reply) (entry exit : List ℕ) (count : ℕ) : Type 0 where
  pub bytes : exit ≡ reply_bytes r ++ drop (length (reply_bytes r)) entry
  pub number : count ≡ length (reply_bytes r)
