-- The kinds of the variables that a branch has bound, as the code holds them: 16 options. Assumes nothing.
use Rattle.std.specs.Prelude as code
use Rattle.std.specs.Prelude.{◌≡◌, refl, ℕ, ◌≤◌, List, map, length, get_or, set, replicate, None, Some}
use Rattle.std.proofs.Common.{arith}
use Rattle.std.proofs.Math.Option.{Option, none, some}
use Rattle.std.proofs.Math.ListN.{get_or-map, get_or-eq_default}
use Rattle.std.proofs.lemmas.List.{length-map, map-set}
use Rattle.basis.specs.Choice.{given}
use Rattle.basis.specs.Sizes.{variables}
use Rattle.model.specs.Legal.{Kinds, no_kinds, kind_in}

-- kinds are 0 to 2
abbrev pub kinds : ℕ
kinds = 3

unfoldable pub kinds_are : List (code.Option ℕ) → Kinds
kinds_are l = map given l

-- the kinds after something legal; none where it is not
unfoldable pub bound_is : code.Option (List (code.Option ℕ)) → Option Kinds
bound_is None = none
bound_is (Some l) = some (kinds_are l)

pub kind_in_lem : (l : List (code.Option ℕ)) (x : ℕ) → kind_in (kinds_are l) x ≡ given (get_or l x None)
unfolding kinds_are
kind_in_lem l x = get_or-map given l x None

pub kind_past : (l : List (code.Option ℕ)) (x : ℕ) → length l ≤ x → kind_in (kinds_are l) x ≡ none
unfolding kinds_are
kind_past l x h = get_or-eq_default (map given l) none (omega (arith, length-map l given))

pub kinds_set : (l : List (code.Option ℕ)) (x k : ℕ) → kinds_are (set l x (Some k)) ≡ set (kinds_are l) x (some k)
unfolding kinds_are
kinds_set l x k = map-set given l x (Some k)

pub no_kinds_lem : kinds_are (replicate variables None) ≡ no_kinds
unfolding kinds_are
no_kinds_lem = refl
