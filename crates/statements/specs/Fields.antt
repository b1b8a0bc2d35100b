-- A field at a position: its width by its form, and its parts. Assumes nothing.
use Rattle.std.specs.Prelude.{◌≡◌, refl, ℕ, zero, suc, ◌+◌, ◌-◌, ◌≤◌, ◌<◌, cond, ◌⊎◌, List, [], ◌∷◌, length, drop, get_or, leb, ltb}
use Rattle.std.proofs.Common.{sym, ap, ◌∙◌, arith, inl, inr, lt-ltb, le-ltb, le-leb}
use Rattle.std.proofs.Math.Option.{Option, none, some, some-injective, none-ne-some}
use Rattle.std.proofs.lemmas.Bool.{lt-leb}
use Rattle.basis.specs.Choice.{maybe, provided}
use Rattle.basis.specs.Numbers.{number_at}
use Rattle.basis.specs.Sizes.{form_width, kind_width, variable_width, bits_width, value_bits_at, value_size, actual_size, formal_size, reference_size, sum_size, anonymous_size, range_size, sum_bits_at, highest_at, range_variable_at}
use Rattle.model.specs.Value.{Value, value, range}
use Rattle.model.specs.Statement.{Field, actual, formal, reference, sum, difference, anonymous, ranged}
use Rattle.model.specs.Reading.{Reader, ◌>>=◌, refuse, byte, natural, chosen_by, field_value, actual_field, formal_field, reference_field, sum_field, anonymous_field, ranged_field, field}
use Rattle.statements.specs.At.{which, read_at, some_read_at, none_read_at}
use Rattle.statements.specs.Fixed.{Fixed, fixed_byte, fixed_natural, fixed_last, fixed_then, fixed_as, fixed_value}

-- the bytes of a field of a form, its form byte included, if there is such a form
unfoldable pub width_of : ℕ → Option ℕ
width_of form =
    get_or
    (some actual_size
    ∷ some formal_size
    ∷ some reference_size
    ∷ some sum_size
    ∷ some sum_size
    ∷ some anonymous_size
    ∷ some range_size
    ∷ [])
    form none

-- the field of a form whose form byte stands right before a position
unfoldable pub field_after : ℕ → List ℕ → ℕ → Field
field_after form b at =
    get_or
    (actual (value (get_or b at 0) (number_at (at + value_bits_at) bits_width b))
    ∷ formal (get_or b at 0) (get_or b (at + kind_width) 0)
    ∷ reference (get_or b at 0)
    ∷ sum (get_or b at 0) (value (get_or b (at + variable_width) 0) (number_at (at + sum_bits_at) bits_width b))
    ∷ difference (get_or b at 0) (value (get_or b (at + variable_width) 0) (number_at (at + sum_bits_at) bits_width b))
    ∷ anonymous (get_or b at 0)
    ∷ [])
    form (ranged (get_or b at 0) (range (number_at (at + value_bits_at) bits_width b) (number_at (at + highest_at) bits_width b)) (get_or b (at + range_variable_at) 0))

unfoldable pub field_parts : List ℕ → ℕ → Field
field_parts b at = field_after (get_or b at 0) b (at + form_width)

-- a field stands at a position: its form has a width, and its bytes are there
pub record FieldStands (b : List ℕ) (at : ℕ) : Type 0 where
  pub width : ℕ
  pub is : width_of (get_or b at 0) ≡ some width
  pub fits : at + width ≤ length b

-- the position after the field at a position: a form byte is there, it is one of the seven, and the bytes of its form are there
unfoldable pub field_end : List ℕ → ℕ → Option ℕ
field_end b at = cond (ltb at (length b)) (maybe (width_of (get_or b at 0)) none (λ width. provided (leb (at + width) (length b)) (at + width))) none

-- ---- the reader of a field, at a position

abbrev rows : List (Reader Field)
rows = actual_field ∷ formal_field ∷ reference_field ∷ sum_field sum ∷ sum_field difference ∷ anonymous_field ∷ ranged_field ∷ []

fixed_sum : (made : ℕ → Value → Field) → Fixed (sum_field made) (sum_size - form_width) (λ b at. made (get_or b at 0) (value (get_or b (at + variable_width) 0) (number_at (at + sum_bits_at) bits_width b)))
unfolding sum_field
fixed_sum made =
    fixed_as _ (sum_size - form_width) _ _
    (fixed_then byte _ variable_width value_size (λ b at. get_or b at 0) (λ x b at. made x (value (get_or b at 0) (number_at (at + value_bits_at) bits_width b))) fixed_byte
    (λ x. fixed_last field_value (made x) value_size (λ b at. value (get_or b at 0) (number_at (at + value_bits_at) bits_width b)) fixed_value))
    (λ b at. let e : at + variable_width + value_bits_at ≡ at + sum_bits_at = omega arith in rw e)

fixed_ranged : Fixed ranged_field (range_size - form_width)
    (λ b at. ranged (get_or b at 0) (range (number_at (at + value_bits_at) bits_width b) (number_at (at + highest_at) bits_width b)) (get_or b (at + range_variable_at) 0))
unfolding ranged_field
fixed_ranged =
    fixed_as _ (range_size - form_width) _ _
    (fixed_then byte _ kind_width (bits_width + (bits_width + variable_width)) (λ b at. get_or b at 0)
    (λ k b at. ranged k (range (number_at at bits_width b) (number_at (at + bits_width) bits_width b)) (get_or b (at + bits_width + bits_width) 0)) fixed_byte
    (λ k. fixed_then (natural bits_width) _ bits_width (bits_width + variable_width) (λ b at. number_at at bits_width b)
    (λ n b at. ranged k (range n (number_at at bits_width b)) (get_or b (at + bits_width) 0)) (fixed_natural bits_width (omega arith))
    (λ n. fixed_then (natural bits_width) _ bits_width variable_width (λ b at. number_at at bits_width b) (λ m b at. ranged k (range n m) (get_or b at 0)) (fixed_natural bits_width (omega arith))
    (λ m. fixed_last byte (ranged k (range n m)) variable_width (λ b at. get_or b at 0) fixed_byte))))
    (λ b at.
    let e : at + kind_width + bits_width ≡ at + highest_at = omega arith in
    let f : at + highest_at + bits_width ≡ at + range_variable_at = omega arith in
    rw (e, f))

-- what stands after a form byte has the form's width
row_width : {A : Type 0} (p : Reader A) (size width : ℕ) (get : List ℕ → ℕ → A) → some size ≡ some width → Fixed p (size - form_width) get → Fixed p (width - form_width) get
row_width p size width get e h = rw (← some-injective size width e) h

fixed_after : (form width : ℕ) → width_of form ≡ some width → Fixed (get_or rows form refuse) (width - form_width) (field_after form)
unfolding width_of field_after actual_field formal_field reference_field anonymous_field
fixed_after zero w h = row_width _ actual_size w _ h (fixed_last field_value actual value_size (λ b at. value (get_or b at 0) (number_at (at + value_bits_at) bits_width b)) fixed_value)
fixed_after (suc zero) w h =
    row_width _ formal_size w _ h (fixed_then byte _ kind_width variable_width (λ b at. get_or b at 0) (λ k b at. formal k (get_or b at 0)) fixed_byte
    (λ k. fixed_last byte (formal k) variable_width (λ b at. get_or b at 0) fixed_byte))
fixed_after (suc (suc zero)) w h = row_width _ reference_size w _ h (fixed_last byte reference variable_width (λ b at. get_or b at 0) fixed_byte)
fixed_after (suc (suc (suc zero))) w h = row_width _ sum_size w _ h (fixed_sum sum)
fixed_after (suc (suc (suc (suc zero)))) w h = row_width _ sum_size w _ h (fixed_sum difference)
fixed_after (suc (suc (suc (suc (suc zero))))) w h = row_width _ anonymous_size w _ h (fixed_last byte anonymous kind_width (λ b at. get_or b at 0) fixed_byte)
fixed_after (suc (suc (suc (suc (suc (suc zero)))))) w h = row_width _ range_size w _ h fixed_ranged
fixed_after (suc (suc (suc (suc (suc (suc (suc n))))))) w h = absurd (none-ne-some w h)

no_row : (form : ℕ) → width_of form ≡ none → get_or rows form refuse ≡ refuse
unfolding width_of
no_row zero h = absurd (none-ne-some actual_size (sym h))
no_row (suc zero) h = absurd (none-ne-some formal_size (sym h))
no_row (suc (suc zero)) h = absurd (none-ne-some reference_size (sym h))
no_row (suc (suc (suc zero))) h = absurd (none-ne-some sum_size (sym h))
no_row (suc (suc (suc (suc zero)))) h = absurd (none-ne-some sum_size (sym h))
no_row (suc (suc (suc (suc (suc zero))))) h = absurd (none-ne-some anonymous_size (sym h))
no_row (suc (suc (suc (suc (suc (suc zero)))))) h = absurd (none-ne-some range_size (sym h))
no_row (suc (suc (suc (suc (suc (suc (suc n))))))) h = refl

-- by the forms of sums, and past the last form
pub width_sum : (form : ℕ) → 3 ≤ form → form < 5 → width_of form ≡ some sum_size
unfolding width_of
width_sum zero l h = absurd (omega arith)
width_sum (suc zero) l h = absurd (omega arith)
width_sum (suc (suc zero)) l h = absurd (omega arith)
width_sum (suc (suc (suc zero))) l h = refl
width_sum (suc (suc (suc (suc zero)))) l h = refl
width_sum (suc (suc (suc (suc (suc n))))) l h = absurd (omega arith)

pub width_past : (form : ℕ) → 6 < form → width_of form ≡ none
unfolding width_of
width_past zero h = absurd (omega arith)
width_past (suc zero) h = absurd (omega arith)
width_past (suc (suc zero)) h = absurd (omega arith)
width_past (suc (suc (suc zero))) h = absurd (omega arith)
width_past (suc (suc (suc (suc zero)))) h = absurd (omega arith)
width_past (suc (suc (suc (suc (suc zero))))) h = absurd (omega arith)
width_past (suc (suc (suc (suc (suc (suc zero)))))) h = absurd (omega arith)
width_past (suc (suc (suc (suc (suc (suc (suc n))))))) h = refl

-- the last form that has a width is that of ranges
pub width_range : (form width : ℕ) → 6 ≤ form → width_of form ≡ some width → width ≡ range_size
width_range form width l h = go (which form 6)
  where
    go : (form ≤ 6) ⊎ (6 < form) → width ≡ range_size
    go (inl k) = let e : form ≡ 6 = omega arith in some-injective width range_size (sym h ∙ rw e (unfold width_of in refl))
    go (inr k) = absurd (none-ne-some width (sym (width_past form k) ∙ h))

-- every form has a byte after it
pub width_more : (form width : ℕ) → width_of form ≡ some width → form_width < width
unfolding width_of
width_more zero w h = omega (arith, some-injective actual_size w h)
width_more (suc zero) w h = omega (arith, some-injective formal_size w h)
width_more (suc (suc zero)) w h = omega (arith, some-injective reference_size w h)
width_more (suc (suc (suc zero))) w h = omega (arith, some-injective sum_size w h)
width_more (suc (suc (suc (suc zero)))) w h = omega (arith, some-injective sum_size w h)
width_more (suc (suc (suc (suc (suc zero))))) w h = omega (arith, some-injective anonymous_size w h)
width_more (suc (suc (suc (suc (suc (suc zero)))))) w h = omega (arith, some-injective range_size w h)
width_more (suc (suc (suc (suc (suc (suc (suc n))))))) w h = absurd (none-ne-some w h)

-- ---- the field at a position

-- a form byte, then what its form has
field_from : (b : List ℕ) (at : ℕ) → at < length b → field (drop at b) ≡ get_or rows (get_or b at 0) refuse (drop (at + form_width) b)
unfolding field chosen_by ◌>>=◌
field_from b at h = rw (fixed_byte.enough b at (omega arith))

field_past : (b : List ℕ) (at : ℕ) → length b ≤ at → field (drop at b) ≡ none
unfolding field chosen_by ◌>>=◌
field_past b at h = rw (fixed_byte.short b at (omega arith))

field_no_form : (b : List ℕ) (at : ℕ) → at < length b → width_of (get_or b at 0) ≡ none → field (drop at b) ≡ none
unfolding refuse
field_no_form b at h w = field_from b at h ∙ ap (λ (p : Reader Field). p (drop (at + form_width) b)) (no_row (get_or b at 0) w)

field_short : (b : List ℕ) (at width : ℕ) → at < length b → width_of (get_or b at 0) ≡ some width → length b < at + width → field (drop at b) ≡ none
field_short b at width h w l = field_from b at h ∙ (fixed_after (get_or b at 0) width w).short b (at + form_width) (omega (arith, width_more (get_or b at 0) width w))

module _ (b : List ℕ) (at : ℕ) (h : FieldStands b at) where
  pub more_stands : form_width < h.width
  more_stands = width_more (get_or b at 0) h.width h.is

  pub field_there : field (drop at b) ≡ some (field_parts b at, drop (at + h.width) b)
  unfolding field_parts
  field_there =
      let e : at + form_width + (h.width - form_width) ≡ at + h.width = omega (arith, more_stands) in
      field_from b at (omega (arith, h.fits, more_stands)) ∙ rw e at ((fixed_after (get_or b at 0) h.width h.is).enough b (at + form_width) (omega (arith, h.fits, more_stands)))

-- ---- where a field ends

pub end_past : (b : List ℕ) (at : ℕ) → length b ≤ at → field_end b at ≡ none
unfolding field_end
end_past b at h = rw (le-ltb at (length b) h)

pub end_no_form : (b : List ℕ) (at : ℕ) → at < length b → width_of (get_or b at 0) ≡ none → field_end b at ≡ none
unfolding field_end
end_no_form b at h w = rw (lt-ltb at (length b) h, w)

pub end_short : (b : List ℕ) (at width : ℕ) → at < length b → width_of (get_or b at 0) ≡ some width → length b < at + width → field_end b at ≡ none
unfolding field_end provided
end_short b at width h w l = rw (lt-ltb at (length b) h, w, lt-leb (at + width) (length b) l)

pub end_there : (b : List ℕ) (at : ℕ) (h : FieldStands b at) → field_end b at ≡ some (at + h.width)
unfolding field_end provided
end_there b at h = rw (lt-ltb at (length b) (omega (arith, h.fits, more_stands b at h)), h.is, le-leb (at + h.width) (length b) h.fits)

-- a field stands, or there is none
pub data FieldAt (b : List ℕ) (at : ℕ) : Type 0 where
  absent : field_end b at ≡ none → field (drop at b) ≡ none → FieldAt b at
  present : FieldStands b at → FieldAt b at

pub field_at_lem : (b : List ℕ) (at : ℕ) → FieldAt b at
field_at_lem b at = past (which (length b) at)
  where
    there : at < length b → (width : ℕ) → width_of (get_or b at 0) ≡ some width → (at + width ≤ length b) ⊎ (length b < at + width) → FieldAt b at
    there h width w (inl l) = present (record { width = width; is = w; fits = l })
    there h width w (inr l) = absent (end_short b at width h w l) (field_short b at width h w l)

    form : at < length b → (w : Option ℕ) → width_of (get_or b at 0) ≡ w → FieldAt b at
    form h none w = absent (end_no_form b at h w) (field_no_form b at h w)
    form h (some width) w = there h width w (which (at + width) (length b))

    past : (length b ≤ at) ⊎ (at < length b) → FieldAt b at
    past (inl l) = absent (end_past b at l) (field_past b at l)
    past (inr h) = form h (width_of (get_or b at 0)) refl

-- the field at a position is what its parts are, where it ends within the bytes
pub field_read_lem : (b : List ℕ) (at : ℕ) → read_at field b at ≡ maybe (field_end b at) none (λ end. some (field_parts b at, end))
field_read_lem b at = go (field_at_lem b at)
  where
    go : FieldAt b at → read_at field b at ≡ maybe (field_end b at) none (λ end. some (field_parts b at, end))
    go (absent e f) = none_read_at field b at f ∙ sym (rw e)
    go (present h) = some_read_at field b at (field_parts b at) (at + h.width) (field_there b at h) h.fits ∙ sym (rw (end_there b at h))

-- a field that ends stands
pub stands : (b : List ℕ) (at end : ℕ) → some end ≡ field_end b at → FieldStands b at
stands b at end h = go (field_at_lem b at)
  where
    go : FieldAt b at → FieldStands b at
    go (absent e f) = absurd (none-ne-some end (sym e ∙ sym h))
    go (present k) = k
