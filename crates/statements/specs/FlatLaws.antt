-- The parts read at a position are those of the field there. Assumes nothing.
use Rattle.std.specs.Prelude.{◌≡◌, refl, ℕ, zero, suc, ◌+◌, ◌≤◌, ◌<◌, ◌⊎◌, List, get_or, T}
use Rattle.std.proofs.Common.{sym, ◌∙◌, arith, inl, inr, lt→ltb}
use Rattle.std.proofs.Math.Option.{some, none-ne-some}
use Rattle.basis.specs.Numbers.{number_at}
use Rattle.basis.specs.Sizes.{form_width, kind_width, variable_width, bits_width, value_bits_at, sum_bits_at, highest_at, range_variable_at}
use Rattle.statements.specs.At.{which}
use Rattle.statements.specs.Fields.{width_of, width_past, field_after, field_parts}
use Rattle.statements.specs.Flat.{forms, has_form, field_of}
use Rattle.statements.specs.declared.Field.{Field}

-- a form that has a width is one of the seven
pub form_known : (f : Field) (form width : ℕ) → f.form ≡ form → width_of form ≡ some width → T (has_form f)
unfolding has_form
form_known f form width e w = lt→ltb f.form forms (go (which forms form))
  where
    go : (forms ≤ form) ⊎ (form < forms) → f.form < forms
    go (inl l) = absurd (none-ne-some width (sym (width_past form l) ∙ w))
    go (inr l) = omega arith

-- the parts that a form lacks make no difference
pub parts_actual : (b : List ℕ) (at x n m : ℕ) → get_or b at 0 ≡ 0 → n ≡ number_at (at + form_width + value_bits_at) bits_width b → field_of (get_or b at 0) (get_or b (at + form_width) 0) x n m ≡ field_parts b at
unfolding field_of field_parts field_after
parts_actual b at x n m e h = rw (e, h)

pub parts_formal : (b : List ℕ) (at n m : ℕ) → get_or b at 0 ≡ 1 → field_of (get_or b at 0) (get_or b (at + form_width) 0) (get_or b (at + form_width + kind_width) 0) n m ≡ field_parts b at
unfolding field_of field_parts field_after
parts_formal b at n m e = rw e

pub parts_reference : (b : List ℕ) (at k n m : ℕ) → get_or b at 0 ≡ 2 → field_of (get_or b at 0) k (get_or b (at + form_width) 0) n m ≡ field_parts b at
unfolding field_of field_parts field_after
parts_reference b at k n m e = rw e

pub parts_sum : (b : List ℕ) (at n m : ℕ) → 3 ≤ get_or b at 0 → get_or b at 0 < 5 → n ≡ number_at (at + form_width + sum_bits_at) bits_width b
    → field_of (get_or b at 0) (get_or b (at + form_width + variable_width) 0) (get_or b (at + form_width) 0) n m ≡ field_parts b at
unfolding field_of field_parts field_after
parts_sum b at n m l h e = rw e (go (get_or b at 0) l h)
  where
    go : (form : ℕ) → 3 ≤ form → form < 5 → field_of form (get_or b (at + form_width + variable_width) 0) (get_or b (at + form_width) 0) (number_at (at + form_width + sum_bits_at) bits_width b) m ≡ field_after form b (at + form_width)
    go zero l h = absurd (omega arith)
    go (suc zero) l h = absurd (omega arith)
    go (suc (suc zero)) l h = absurd (omega arith)
    go (suc (suc (suc zero))) l h = refl
    go (suc (suc (suc (suc zero)))) l h = refl
    go (suc (suc (suc (suc (suc k))))) l h = absurd (omega arith)

pub parts_anonymous : (b : List ℕ) (at x n m : ℕ) → get_or b at 0 ≡ 5 → field_of (get_or b at 0) (get_or b (at + form_width) 0) x n m ≡ field_parts b at
unfolding field_of field_parts field_after
parts_anonymous b at x n m e = rw e

pub parts_ranged : (b : List ℕ) (at n m : ℕ) → 6 ≤ get_or b at 0 → n ≡ number_at (at + form_width + value_bits_at) bits_width b → m ≡ number_at (at + form_width + highest_at) bits_width b
    → field_of (get_or b at 0) (get_or b (at + form_width) 0) (get_or b (at + form_width + range_variable_at) 0) n m ≡ field_parts b at
unfolding field_of field_parts field_after
parts_ranged b at n m l p q = rw (p, q) (go (get_or b at 0) l)
  where
    go : (form : ℕ) → 6 ≤ form
        → field_of form (get_or b (at + form_width) 0) (get_or b (at + form_width + range_variable_at) 0) (number_at (at + form_width + value_bits_at) bits_width b) (number_at (at + form_width + highest_at) bits_width b)
        ≡ field_after form b (at + form_width)
    go zero l = absurd (omega arith)
    go (suc zero) l = absurd (omega arith)
    go (suc (suc zero)) l = absurd (omega arith)
    go (suc (suc (suc zero))) l = absurd (omega arith)
    go (suc (suc (suc (suc zero)))) l = absurd (omega arith)
    go (suc (suc (suc (suc (suc zero))))) l = absurd (omega arith)
    go (suc (suc (suc (suc (suc (suc m)))))) l = refl
