-- What an operation is by its code: the spaces that it names (none by true, two by move and copy, else one), and whether it is in or rd. Assumes nothing.
use Rattle.std.specs.Prelude.{◌≡◌, refl, ℕ, zero, suc, ◌≤◌, ◌<◌, ◌||◌, List, [], ◌∷◌, eqb}
use Rattle.std.proofs.Common.{arith, ne_eqb}
use Rattle.model.specs.Statement as model
use Rattle.model.specs.Statement.{spaces_of}
use Rattle.model.specs.Execution.{is_blocking}
use Rattle.statements.specs.Flat.{operation_of}

pub spaces_one : (code from to : ℕ) (fs : List model.Field) → 0 < code → code < 6 → spaces_of (operation_of code from to fs) ≡ from ∷ []
unfolding operation_of spaces_of
spaces_one zero from to fs l h = absurd (omega arith)
spaces_one (suc zero) from to fs l h = refl
spaces_one (suc (suc zero)) from to fs l h = refl
spaces_one (suc (suc (suc zero))) from to fs l h = refl
spaces_one (suc (suc (suc (suc zero)))) from to fs l h = refl
spaces_one (suc (suc (suc (suc (suc zero))))) from to fs l h = refl
spaces_one (suc (suc (suc (suc (suc (suc n)))))) from to fs l h = absurd (omega arith)

pub spaces_two : (code from to : ℕ) (fs : List model.Field) → 6 ≤ code → spaces_of (operation_of code from to fs) ≡ from ∷ to ∷ []
unfolding operation_of spaces_of
spaces_two zero from to fs h = absurd (omega arith)
spaces_two (suc zero) from to fs h = absurd (omega arith)
spaces_two (suc (suc zero)) from to fs h = absurd (omega arith)
spaces_two (suc (suc (suc zero))) from to fs h = absurd (omega arith)
spaces_two (suc (suc (suc (suc zero)))) from to fs h = absurd (omega arith)
spaces_two (suc (suc (suc (suc (suc zero))))) from to fs h = absurd (omega arith)
spaces_two (suc (suc (suc (suc (suc (suc zero)))))) from to fs h = refl
spaces_two (suc (suc (suc (suc (suc (suc (suc n))))))) from to fs h = refl

-- codes 1 and 3 are in and rd
pub blocking_of : (code from to : ℕ) (fs : List model.Field) → is_blocking (operation_of code from to fs) ≡ (eqb code 1 || eqb code 3)
unfolding operation_of is_blocking
blocking_of zero from to fs = refl
blocking_of (suc zero) from to fs = refl
blocking_of (suc (suc zero)) from to fs = refl
blocking_of (suc (suc (suc zero))) from to fs = refl
blocking_of (suc (suc (suc (suc zero)))) from to fs = refl
blocking_of (suc (suc (suc (suc (suc zero))))) from to fs = refl
blocking_of (suc (suc (suc (suc (suc (suc zero)))))) from to fs = refl
blocking_of (suc (suc (suc (suc (suc (suc (suc n))))))) from to fs =
    let code : ℕ = suc (suc (suc (suc (suc (suc (suc n)))))) in
    rw (ne_eqb code 1 (λ z. omega arith), ne_eqb code 3 (λ z. omega arith))
