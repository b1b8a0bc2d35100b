-- The number of the first check that refuses, 0 where none does. Assumes nothing.
use Rattle.std.specs.Prelude.{ℕ, Bool, ◌||◌, List, [], ◌∷◌, ◌++◌, length, leb, eqb}
use Rattle.std.proofs.Math.Option.{Option}
use Rattle.basis.specs.Choice.{maybe, first_number}
use Rattle.basis.specs.Sizes.{most_spaces, space_numbers}
use Rattle.model.specs.Run.{Run}
use Rattle.model.specs.Step.{access, some_waiting_names}

abbrev pub number_or0 : Option ℕ → ℕ
number_or0 o = maybe o 0 (λ n. n)

unfoldable pub refusal : List (Bool × ℕ) → ℕ
refusal cs = number_or0 (first_number cs)

-- 14, of spaces: as many as can be are open, or their numbers are used up
abbrev pub used_up : Run → List (Bool × ℕ)
used_up s = (leb most_spaces (length s.spaces) || leb space_numbers s.next, 14) ∷ []

-- the space that is closed: 10, 11, 15
unfoldable pub closing : Run → (process space : ℕ) → List (Bool × ℕ)
closing s p n = access s p (n ∷ []) ++ ((eqb n 0 || some_waiting_names s n, 15) ∷ [])
