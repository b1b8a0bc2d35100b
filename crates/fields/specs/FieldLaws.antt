-- A field after the kinds that are bound: whether it is legal, by its parts and by what it binds. Assumes nothing.
use Rattle.std.specs.Prelude as rust
use Rattle.std.specs.Prelude.{◌≡◌, false, not, [], ◌∷◌, T, ltb, eqb, None, Some}
use Rattle.std.proofs.Math.Path.{refl}
use Rattle.std.proofs.Common.{sym, arith, ltb→lt}
use Prim.Native.Nat.{ℕ, zero, suc, ◌≤◌, ◌<◌}
use Rattle.std.proofs.Math.Bool.{true, and-true, and-false}
use Rattle.std.proofs.Math.Option.{none, some}
use Rattle.std.proofs.Math.ListN.{get_or-eq_default}
use Rattle.basis.specs.Choice.{maybe, is_some, given}
use Rattle.basis.specs.Logic.{and_l, and_r}
use Rattle.basis.specs.Sizes.{variables}
use Rattle.model.specs.Value.{value, is_kind, legal_value, range}
use Rattle.model.specs.Statement.{Field, actual, formal, reference, sum, difference, anonymous, ranged, Binder, binder_of}
use Rattle.model.specs.Legal.{Kinds, kind_in, legal_binder, summable, legal_range, legal_parts, legal_field}
use Rattle.statements.specs.Flat.{field_of}
use Rattle.fields.specs.Kinds.{kinds}

-- a variable is bound where there is a kind
pub some_given : (o : rust.Option ℕ) → rust.is_some o ≡ is_some (given o)
unfolding is_some
some_given None = refl
some_given (Some k) = refl

-- ---- the parts of a field, form by form

module _ (earlier : Kinds) (form k x n m : ℕ) where
  pub parts_actual : form ≡ 0 → legal_value (value k n) ≡ legal_parts earlier (field_of form k x n m)
  unfolding legal_parts field_of
  parts_actual e = rw e

  pub parts_formal : form ≡ 1 → true ≡ legal_parts earlier (field_of form k x n m)
  unfolding legal_parts field_of
  parts_formal e = rw e

  pub parts_reference : form ≡ 2 → is_some (kind_in earlier x) ≡ legal_parts earlier (field_of form k x n m)
  unfolding legal_parts field_of
  parts_reference e = rw e

  pub parts_sum : 3 ≤ form → form < 5 → summable (kind_in earlier x) (value k n) ≡ legal_parts earlier (field_of form k x n m)
  unfolding legal_parts field_of
  parts_sum l h = go form l h
    where
      go : (f : ℕ) → 3 ≤ f → f < 5 → summable (kind_in earlier x) (value k n) ≡ legal_parts earlier (field_of f k x n m)
      go zero l h = absurd (omega arith)
      go (suc zero) l h = absurd (omega arith)
      go (suc (suc zero)) l h = absurd (omega arith)
      go (suc (suc (suc zero))) l h = refl
      go (suc (suc (suc (suc zero)))) l h = refl
      go (suc (suc (suc (suc (suc i))))) l h = absurd (omega arith)

  pub parts_anonymous : form ≡ 5 → ltb k kinds ≡ legal_parts earlier (field_of form k x n m)
  unfolding legal_parts field_of is_kind
  parts_anonymous e = rw e

  pub parts_range : 6 ≤ form → legal_range k (range n m) ≡ legal_parts earlier (field_of form k x n m)
  unfolding legal_parts field_of
  parts_range h =
      rw (get_or-eq_default (actual (value k n) ∷ formal k x ∷ reference x ∷ sum x (value k n) ∷ difference x (value k n) ∷ anonymous k ∷ []) (ranged k (range n m) x) h)

-- ---- a field, by its parts and by what it binds

-- a legal binder's kind and variable
pub binder_parts : (now : Kinds) (b : Binder) → T (legal_binder now b) → (b.kind < kinds) × (b.variable < variables)
unfolding legal_binder is_kind
binder_parts now b t = (ltb→lt b.kind kinds (search (and_l, and_r, t) depth 16), ltb→lt b.variable variables (search (and_l, and_r, t) depth 16))

module _ (earlier now : Kinds) (f : Field) where
  pub field_refused : legal_parts earlier f ≡ false → false ≡ legal_field earlier now f
  unfolding legal_field
  field_refused p = rw p (sym (and-false (maybe (binder_of f) true (legal_binder now))))

  pub field_binds : (b : Binder) → binder_of f ≡ some b → legal_parts earlier f ≡ true → legal_binder now b ≡ legal_field earlier now f
  unfolding legal_field
  field_binds b e p = rw (e, p) (sym (and-true (legal_binder now b)))

  pub field_free : binder_of f ≡ none → legal_parts earlier f ≡ true → true ≡ legal_field earlier now f
  unfolding legal_field
  field_free e p = rw (e, p)
