-- The forms that an operation's code allows. Assumes nothing.
use Rattle.std.specs.Prelude.{◌≡◌, refl, ℕ, zero, suc, ◌≤◌, ◌<◌, Bool, true, false, not, cond, List, [], ◌∷◌, get_or, ltb, eqb}
use Rattle.std.proofs.Common.{arith, ne_eqb, ltb-true}
use Rattle.std.proofs.Math.ListN.{get_or-eq_default}
use Rattle.basis.specs.Lists.{any, is_in}
use Rattle.model.specs.Legal.{form_of, template_forms}
use Rattle.statements.specs.Flat.{field_of}

unfoldable pub form_is : ℕ → ℕ
form_is form = get_or (0 ∷ 1 ∷ 2 ∷ 3 ∷ 4 ∷ 5 ∷ []) form 6

pub form_is_lem : (form k x n m : ℕ) → form_of (field_of form k x n m) ≡ form_is form
unfolding form_of field_of form_is
form_is_lem zero k x n m = refl
form_is_lem (suc zero) k x n m = refl
form_is_lem (suc (suc zero)) k x n m = refl
form_is_lem (suc (suc (suc zero))) k x n m = refl
form_is_lem (suc (suc (suc (suc zero)))) k x n m = refl
form_is_lem (suc (suc (suc (suc (suc zero))))) k x n m = refl
form_is_lem (suc (suc (suc (suc (suc (suc f)))))) k x n m = refl

-- the forms of codes 1 to 4, else of out, else of move and copy
abbrev forms_if : (looksUp isOut : Bool) → List ℕ
forms_if a b = cond a template_forms (cond b (0 ∷ 2 ∷ 3 ∷ 4 ∷ []) (0 ∷ 2 ∷ 5 ∷ []))

-- "1 to 4 allow forms 0, 1, 2, 5", and 6; "out 0, 2, 3, 4; move and copy 0, 2, 5"
unfoldable pub allowed_by : ℕ → List ℕ
allowed_by code = forms_if (ltb code 5) (eqb code 5)

-- whether a code allows a form
unfoldable pub allows : (code form : ℕ) → Bool
allows code form = is_in (form_is form) (allowed_by code)

pub allows_given : (code form : ℕ) → form ≡ 0 → true ≡ allows code form
unfolding allows form_is allowed_by is_in any
allows_given code form e = rw e (go (ltb code 5) (eqb code 5))
  where
    go : (a b : Bool) → true ≡ any (eqb 0) (forms_if a b)
    go true b = refl
    go false true = refl
    go false false = refl

pub allows_formal : (code form : ℕ) → form ≡ 1 → ltb code 5 ≡ allows code form
unfolding allows form_is allowed_by is_in any
allows_formal code form e = rw e (go (ltb code 5) (eqb code 5))
  where
    go : (a b : Bool) → a ≡ any (eqb 1) (forms_if a b)
    go true b = refl
    go false true = refl
    go false false = refl

pub allows_reference : (code form : ℕ) → form ≡ 2 → true ≡ allows code form
unfolding allows form_is allowed_by is_in any
allows_reference code form e = rw e (go (ltb code 5) (eqb code 5))
  where
    go : (a b : Bool) → true ≡ any (eqb 2) (forms_if a b)
    go true b = refl
    go false true = refl
    go false false = refl

-- below 5 and 5 are not both
below_five : (code : ℕ) → ltb code 5 ≡ true → eqb code 5 ≡ false
below_five code h = ne_eqb code 5 (λ e. omega (arith, ltb-true code 5 h))

pub allows_sum : (code form : ℕ) → 3 ≤ form → form < 5 → eqb code 5 ≡ allows code form
unfolding allows form_is allowed_by is_in any
allows_sum code zero l h = absurd (omega arith)
allows_sum code (suc zero) l h = absurd (omega arith)
allows_sum code (suc (suc zero)) l h = absurd (omega arith)
allows_sum code (suc (suc (suc zero))) l h = go (ltb code 5) (eqb code 5) (below_five code)
  where
    go : (a b : Bool) → (a ≡ true → b ≡ false) → b ≡ any (eqb 3) (forms_if a b)
    go true b n = n refl
    go false true n = refl
    go false false n = refl
allows_sum code (suc (suc (suc (suc zero)))) l h = go (ltb code 5) (eqb code 5) (below_five code)
  where
    go : (a b : Bool) → (a ≡ true → b ≡ false) → b ≡ any (eqb 4) (forms_if a b)
    go true b n = n refl
    go false true n = refl
    go false false n = refl
allows_sum code (suc (suc (suc (suc (suc m))))) l h = absurd (omega arith)

pub allows_range : (code form : ℕ) → 6 ≤ form → ltb code 5 ≡ allows code form
unfolding allows form_is allowed_by is_in any
allows_range code form h = rw (get_or-eq_default {A = ℕ} (0 ∷ 1 ∷ 2 ∷ 3 ∷ 4 ∷ 5 ∷ []) 6 h) (go (ltb code 5) (eqb code 5))
  where
    go : (a b : Bool) → a ≡ any (eqb 6) (forms_if a b)
    go true b = refl
    go false true = refl
    go false false = refl

pub allows_anonymous : (code form : ℕ) → form ≡ 5 → not (eqb code 5) ≡ allows code form
unfolding allows form_is allowed_by is_in any
allows_anonymous code form e = rw e (go (ltb code 5) (eqb code 5) (below_five code))
  where
    go : (a b : Bool) → (a ≡ true → b ≡ false) → not b ≡ any (eqb 5) (forms_if a b)
    go true b n = rw (n refl)
    go false true n = refl
    go false false n = refl
