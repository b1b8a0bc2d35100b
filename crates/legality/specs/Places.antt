-- One operation in code: where it may stand, by its code, and the kinds after it. Assumes nothing.
use Rattle.std.specs.Prelude as rust
use Rattle.std.specs.Prelude.{None, Some, ◌≡◌, ℕ, zero, suc, ◌%◌, ◌≤◌, ◌<◌, Bool, true, false, List, [], ◌∷◌, take, get_or, ltb, eqb}
use Rattle.std.proofs.Math.Path.{refl, sym}
use Rattle.std.proofs.Common.{arith, le-ltb}
use Rattle.std.proofs.Math.Option.{Option, none, some}
use Rattle.std.proofs.Math.ListN.{get_or-eq_default}
use Rattle.model.specs.Statement.{Field}
use Rattle.model.specs.Legal.{Kinds, is_guard, is_body_operation}
use Rattle.statements.specs.At.{read_as}
use Rattle.statements.specs.Flat.{fields_are, operation_of, operation_is, operation_at}
use Rattle.fields.specs.Kinds.{kinds_are, bound_is}
use Rattle.statements.specs.declared.Operation.{Operation}
use Rattle.legality.specs.Judging.{Held}
use Rattle.legality.specs.OperationLaws.{operation_step}
use Rattle.legality.specs.Steps.{place_ok, step_at}

-- where an operation of a code may stand: codes 0 to 4 as a guard, in and rd and those from 5 on in a body
unfoldable pub place_by : (guard : Bool) → ℕ → Bool
place_by true code = ltb code 5
place_by false code = get_or (false ∷ true ∷ false ∷ true ∷ false ∷ []) code true

pub place_low : (code : ℕ) → code < 5 → eqb (code % 2) 1 ≡ place_by false code
unfolding place_by
place_low zero h = refl
place_low (suc zero) h = refl
place_low (suc (suc zero)) h = refl
place_low (suc (suc (suc zero))) h = refl
place_low (suc (suc (suc (suc zero)))) h = refl
place_low (suc (suc (suc (suc (suc n))))) h = absurd (omega arith)

pub place_high : (code : ℕ) → 5 ≤ code → true ≡ place_by false code
unfolding place_by
place_high code h = sym (get_or-eq_default {A = Bool} (false ∷ true ∷ false ∷ true ∷ false ∷ []) true h)

place_is : (guard : Bool) (code from to : ℕ) (fs : List Field) → place_ok guard (operation_of code from to fs) ≡ place_by guard code
unfolding place_ok place_by operation_of is_guard is_body_operation
place_is true zero from to fs = refl
place_is true (suc zero) from to fs = refl
place_is true (suc (suc zero)) from to fs = refl
place_is true (suc (suc (suc zero))) from to fs = refl
place_is true (suc (suc (suc (suc zero)))) from to fs = refl
place_is true (suc (suc (suc (suc (suc zero))))) from to fs = refl
place_is true (suc (suc (suc (suc (suc (suc zero)))))) from to fs = refl
place_is true (suc (suc (suc (suc (suc (suc (suc n))))))) from to fs = sym (le-ltb (suc (suc (suc (suc (suc (suc (suc n))))))) 5 (omega arith))
place_is false zero from to fs = refl
place_is false (suc zero) from to fs = refl
place_is false (suc (suc zero)) from to fs = refl
place_is false (suc (suc (suc zero))) from to fs = refl
place_is false (suc (suc (suc (suc zero)))) from to fs = refl
place_is false (suc (suc (suc (suc (suc zero))))) from to fs = refl
place_is false (suc (suc (suc (suc (suc (suc zero)))))) from to fs = refl
place_is false (suc (suc (suc (suc (suc (suc (suc n))))))) from to fs = refl

-- the kinds after an operation, and the position after it
abbrev pub step_is : rust.Option (Held × ℕ) → Option (Kinds × ℕ)
step_is r = read_as kinds_are r

module _ (guard : Bool) (kinds : Held) (b : List ℕ) (at : ℕ) where
  -- no operation
  pub no_step : none ≡ operation_at b at → none ≡ step_at guard (kinds_are kinds) b at
  unfolding step_at
  no_step h = rw (← h)

  -- not where it stands
  module _ (o : Operation) (end : ℕ) (h : some (operation_is o, end) ≡ operation_at b at) where
    stands : place_ok guard (operation_is o) ≡ place_by guard o.code
    unfolding operation_is
    stands = place_is guard o.code o.from o.to (fields_are (take o.count o.fields))

    pub no_place : place_by guard o.code ≡ false → none ≡ step_at guard (kinds_are kinds) b at
    unfolding step_at
    no_place e = rw (← h, stands, e)

    -- not legal
    pub no_legal : place_by guard o.code ≡ true → bound_is None ≡ operation_step (kinds_are kinds) (operation_is o) → none ≡ step_at guard (kinds_are kinds) b at
    unfolding step_at bound_is
    no_legal e k = rw (← h, stands, e, ← k)

    -- legal
    pub step_there : (after : Held) → place_by guard o.code ≡ true → bound_is (Some after) ≡ operation_step (kinds_are kinds) (operation_is o) → some (kinds_are after, end) ≡ step_at guard (kinds_are kinds) b at
    unfolding step_at bound_is
    step_there after e k = rw (← h, stands, e, ← k)
