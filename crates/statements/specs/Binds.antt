-- What a flat field binds: its variable, at its kind, if it is of form 1 or 6. Assumes nothing.
use Rattle.std.specs.Prelude.{◌≡◌, refl, ℕ, zero, suc, Bool, true, false, leb}
use Rattle.std.proofs.Math.Path.{sym}
use Rattle.std.proofs.Common.{◌∙◌, arith, le-leb}
use Rattle.std.proofs.Math.Option.{none, some}
use Rattle.basis.specs.Choice.{provided}
use Rattle.model.specs.Statement.{Binder, binder_of}
use Rattle.statements.specs.Flat.{field_of, field_is}
use Rattle.statements.specs.declared.Field.{Field}

-- the kind and the variable of a field's parts
abbrev pub binder_in : Field → Binder
binder_in f = record { kind = f.kind; variable = f.variable }

-- it binds if it is of form 1
pub formal_binds : (f : Field) → f.form ≡ 1 → provided true (binder_in f) ≡ binder_of (field_is f)
unfolding field_is provided field_of binder_of
formal_binds f e = rw e

-- or of form 6, the last, and else not
pub last_binds : (f : Field) → (f.form ≡ 1 → ⊥) → provided (leb 6 f.form) (binder_in f) ≡ binder_of (field_is f)
unfolding field_is provided field_of binder_of
last_binds f n = go f.form n
  where
    go : (form : ℕ) → (form ≡ 1 → ⊥) → provided (leb 6 form) (binder_in f) ≡ binder_of (field_of form f.kind f.variable f.bits f.highest)
    go zero n = refl
    go (suc zero) n = absurd (n refl)
    go (suc (suc zero)) n = refl
    go (suc (suc (suc zero))) n = refl
    go (suc (suc (suc (suc zero)))) n = refl
    go (suc (suc (suc (suc (suc zero))))) n = refl
    go (suc (suc (suc (suc (suc (suc m)))))) n = rw (le-leb 6 (suc (suc (suc (suc (suc (suc m)))))) (omega arith))

-- by the answer whether it binds
module _ (f : Field) (r : Bool) (e : provided r (binder_in f) ≡ binder_of (field_is f)) where
  pub binds_some : r ≡ true → binder_of (field_is f) ≡ some (binder_in f)
  unfolding provided
  binds_some t = sym e ∙ rw t

  pub binds_none : r ≡ false → binder_of (field_is f) ≡ none
  unfolding provided
  binds_none t = sym e ∙ rw t
