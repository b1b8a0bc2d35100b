-- An operation at a position: its code, its spaces, its field count, and its fields. Assumes nothing.
use Rattle.std.specs.Prelude.{◌≡◌, refl, ℕ, zero, suc, ◌+◌, ◌≤◌, ◌<◌, Bool, true, false, cond, ◌⊎◌, List, [], ◌∷◌, length, take, drop, get_or, leb, ltb}
use Rattle.std.proofs.Math.Path.{sym}
use Rattle.std.proofs.Common.{ap, ◌∙◌, arith, inl, inr, le-leb, lt-ltb, le-ltb}
use Rattle.std.proofs.Math.Option.{Option, none, some, some-injective, none-ne-some}
use Rattle.std.proofs.Math.ListN.{get_or-eq_default}
use Rattle.std.proofs.lemmas.Bool.{lt-leb}
use Rattle.basis.specs.Choice.{maybe, provided}
use Rattle.basis.specs.Numbers.{number_at, number}
use Rattle.basis.specs.Sizes.{code_width, count_width, space_width, spaces_width, space_head, spaces_head, most_fields}
use Rattle.model.specs.Statement as model
use Rattle.model.specs.Statement.{always, lookup, deposit, transfer}
use Rattle.model.specs.Legal.{fields_of}
use Rattle.model.specs.Reading.{Reader, ◌>>=◌, give, refuse, byte, natural, several, counted, chosen_by, field, on_space, on_spaces, operation}
use Rattle.model.proofs.ReadBack.{several_length}
use Rattle.statements.specs.At.{which, Suffix, suffix_give, suffix_refuse, suffix_byte, suffix_then, suffix_last, suffix_counted, placed, read_at, passed, some_read_at}
use Rattle.statements.specs.Fixed.{fixed_byte, fixed_natural}
use Rattle.statements.specs.Several.{suffix_field}
use Rattle.statements.specs.Flat.{codes, operation_of, few_fields, operation_at}

-- ---- what is left is a last part

suffix_natural : (w : ℕ) → Suffix (natural w)
unfolding natural provided
suffix_natural w s rest a e = go (leb w (length s)) e
  where
    go : (t : Bool) → cond {A = Option (ℕ × List ℕ)} t (some (number (take w s), drop w s)) none ≡ some (a, rest) → (k : ℕ) × (rest ≡ drop k s)
    go true e = (w, ap (λ (r : ℕ × List ℕ). r.1) (sym (some-injective (number (take w s), drop w s) (a, rest) e)))
    go false e = absurd (none-ne-some (a, rest) e)

suffix_on_space : (made : ℕ → List model.Field → model.Operation) → Suffix (on_space made)
unfolding on_space
suffix_on_space made = suffix_then (natural space_width) _ (suffix_natural space_width) (λ s. suffix_last (counted field) (made s) (suffix_counted field suffix_field))

suffix_on_spaces : (made : ℕ → ℕ → List model.Field → model.Operation) → Suffix (on_spaces made)
unfolding on_spaces
suffix_on_spaces made =
    suffix_then (natural space_width) _ (suffix_natural space_width)
    (λ from. suffix_then (natural space_width) _ (suffix_natural space_width) (λ to. suffix_last (counted field) (made from to) (suffix_counted field suffix_field)))

abbrev rows : List (Reader model.Operation)
rows =
    give always
    ∷ on_space (lookup true true)
    ∷ on_space (lookup true false)
    ∷ on_space (lookup false true)
    ∷ on_space (lookup false false)
    ∷ on_space deposit
    ∷ on_spaces (transfer true)
    ∷ on_spaces (transfer false)
    ∷ []

suffix_row : (code : ℕ) → Suffix (get_or rows code refuse)
suffix_row zero = suffix_give always
suffix_row (suc zero) = suffix_on_space (lookup true true)
suffix_row (suc (suc zero)) = suffix_on_space (lookup true false)
suffix_row (suc (suc (suc zero))) = suffix_on_space (lookup false true)
suffix_row (suc (suc (suc (suc zero)))) = suffix_on_space (lookup false false)
suffix_row (suc (suc (suc (suc (suc zero))))) = suffix_on_space deposit
suffix_row (suc (suc (suc (suc (suc (suc zero)))))) = suffix_on_spaces (transfer true)
suffix_row (suc (suc (suc (suc (suc (suc (suc zero))))))) = suffix_on_spaces (transfer false)
suffix_row (suc (suc (suc (suc (suc (suc (suc (suc n)))))))) = suffix_refuse

pub suffix_operation : Suffix operation
unfolding operation chosen_by
suffix_operation = suffix_then byte (λ b. get_or rows b refuse) suffix_byte suffix_row

-- ---- the fields of an operation, after their count

-- the field count and the fields, made into an operation
abbrev pub fields_made : (List model.Field → model.Operation) → Reader model.Operation
fields_made made = counted field >>= λ fs. give (made fs)

abbrev made_of : (List model.Field → model.Operation) → Option (List model.Field × List ℕ) → Option (model.Operation × List ℕ)
made_of made none = none
made_of made (some r) = some (made r.0, r.1)

fields_from_lem : (made : List model.Field → model.Operation) (b : List ℕ) (at : ℕ) → at < length b
    → fields_made made (drop at b) ≡ made_of made (several field (get_or b at 0) (drop (at + count_width) b))
unfolding counted ◌>>=◌ give
fields_from_lem made b at h = rw (fixed_byte.enough b at (omega arith)) (go (several field (get_or b at 0) (drop (at + count_width) b)))
  where
    go : (o : Option (List model.Field × List ℕ)) → maybe o none (λ r. some (made r.0, r.1)) ≡ made_of made o
    go none = refl
    go (some r) = refl

-- an operation of a code above 0 has the fields that it is given
pub fields_of_lem : (code from to : ℕ) (fs : List model.Field) → 0 < code → fields_of (operation_of code from to fs) ≡ fs
unfolding operation_of fields_of
fields_of_lem zero from to fs h = absurd (omega arith)
fields_of_lem (suc zero) from to fs h = refl
fields_of_lem (suc (suc zero)) from to fs h = refl
fields_of_lem (suc (suc (suc zero))) from to fs h = refl
fields_of_lem (suc (suc (suc (suc zero)))) from to fs h = refl
fields_of_lem (suc (suc (suc (suc (suc zero))))) from to fs h = refl
fields_of_lem (suc (suc (suc (suc (suc (suc zero)))))) from to fs h = refl
fields_of_lem (suc (suc (suc (suc (suc (suc (suc n))))))) from to fs h = refl

-- more fields than a tuple has values
pub fields_many : (code from to : ℕ) (b : List ℕ) (at : ℕ) → 0 < code → at < length b → most_fields < get_or b at 0
    → passed few_fields (read_at (fields_made (operation_of code from to)) b at) ≡ none
unfolding passed read_at few_fields provided
fields_many code from to b at c h m = rw (fields_from_lem (operation_of code from to) b at h) (go (several field (get_or b at 0) (drop (at + count_width) b)) refl)
  where
    go : (o : Option (List model.Field × List ℕ)) → several field (get_or b at 0) (drop (at + count_width) b) ≡ o → passed few_fields (placed b (made_of (operation_of code from to) o)) ≡ none
    go none q = refl
    go (some r) q =
        let n : length r.0 ≡ get_or b at 0 = several_length field (get_or b at 0) (drop (at + count_width) b) r.1 r.0 q in
        rw (fields_of_lem code from to r.0 c, n, lt-leb (get_or b at 0) most_fields m)

-- at most so many: they stand after the count
pub fields_few : (code from to : ℕ) (b : List ℕ) (at : ℕ) → 0 < code → at < length b → get_or b at 0 ≤ most_fields
    → maybe (read_at (several field (get_or b at 0)) b (at + count_width)) none (λ r. some (operation_of code from to r.0, r.1)) ≡ passed few_fields (read_at (fields_made (operation_of code from to)) b at)
unfolding passed read_at few_fields provided
fields_few code from to b at c h m = rw (fields_from_lem (operation_of code from to) b at h) (go (several field (get_or b at 0) (drop (at + count_width) b)) refl)
  where
    go : (o : Option (List model.Field × List ℕ)) → several field (get_or b at 0) (drop (at + count_width) b) ≡ o
        → maybe {B = Option (model.Operation × ℕ)} (placed b o) none (λ r. some (operation_of code from to r.0, r.1)) ≡ passed few_fields (placed b (made_of (operation_of code from to) o))
    go none q = refl
    go (some x) q =
        let l : length x.0 ≡ get_or b at 0 = several_length field (get_or b at 0) (drop (at + count_width) b) x.1 x.0 q in
        rw (fields_of_lem code from to x.0 c, l, le-leb (get_or b at 0) most_fields m)

-- ---- the spaces of an operation

-- one space, then the fields
space_there : (code s : ℕ) (b : List ℕ) (at : ℕ) → at + space_width ≤ length b → s ≡ number_at at space_width b
    → passed few_fields (read_at (fields_made (operation_of code s 0)) b (at + space_width)) ≡ passed few_fields (read_at (on_space (λ x. operation_of code x 0)) b at)
unfolding on_space ◌>>=◌ read_at
space_there code s b at h e = rw ((fixed_natural space_width (omega arith)).enough b at h, e)

space_short : (made : ℕ → List model.Field → model.Operation) (b : List ℕ) (at : ℕ) → length b < at + space_head → read_at (on_space made) b at ≡ none
unfolding on_space ◌>>=◌ counted read_at
space_short made b at h = go (which (at + space_width) (length b))
  where
    go : (at + space_width ≤ length b) ⊎ (length b < at + space_width) → read_at (on_space made) b at ≡ none
    go (inl l) = rw ((fixed_natural space_width (omega arith)).enough b at l, fixed_byte.short b (at + space_width) (omega arith))
    go (inr l) = rw ((fixed_natural space_width (omega arith)).short b at l)

-- two spaces, then the fields
spaces_there : (code from to : ℕ) (b : List ℕ) (at : ℕ) → at + spaces_width ≤ length b → from ≡ number_at at space_width b → to ≡ number_at (at + space_width) space_width b
    → passed few_fields (read_at (fields_made (operation_of code from to)) b (at + spaces_width)) ≡ passed few_fields (read_at (on_spaces (operation_of code)) b at)
unfolding on_spaces ◌>>=◌ read_at
spaces_there code from to b at h e f =
    let n : at + space_width + space_width ≡ at + spaces_width = omega arith in
    rw ((fixed_natural space_width (omega arith)).enough b at (omega arith), (fixed_natural space_width (omega arith)).enough b (at + space_width) (omega arith), n, e, f)

spaces_short : (made : ℕ → ℕ → List model.Field → model.Operation) (b : List ℕ) (at : ℕ) → length b < at + spaces_head → read_at (on_spaces made) b at ≡ none
unfolding on_spaces ◌>>=◌ read_at
spaces_short made b at h = go (which (at + space_width) (length b))
  where
    go : (at + space_width ≤ length b) ⊎ (length b < at + space_width) → read_at (on_spaces made) b at ≡ none
    go (inl l) = rw ((fixed_natural space_width (omega arith)).enough b at l) (unfold on_space ◌>>=◌ read_at in space_short (made (number_at at space_width b)) b (at + space_width) (omega arith))
    go (inr l) = rw ((fixed_natural space_width (omega arith)).short b at l)

-- ---- what is read after each code

row_space : (code : ℕ) → 0 < code → code < 6 → get_or rows code refuse ≡ on_space (λ s. operation_of code s 0)
unfolding operation_of
row_space zero l m = absurd (omega arith)
row_space (suc zero) l m = refl
row_space (suc (suc zero)) l m = refl
row_space (suc (suc (suc zero))) l m = refl
row_space (suc (suc (suc (suc zero)))) l m = refl
row_space (suc (suc (suc (suc (suc zero))))) l m = refl
row_space (suc (suc (suc (suc (suc (suc n)))))) l m = absurd (omega arith)

row_spaces : (code : ℕ) → 6 ≤ code → code < codes → get_or rows code refuse ≡ on_spaces (operation_of code)
unfolding operation_of
row_spaces zero l m = absurd (omega arith)
row_spaces (suc zero) l m = absurd (omega arith)
row_spaces (suc (suc zero)) l m = absurd (omega arith)
row_spaces (suc (suc (suc zero))) l m = absurd (omega arith)
row_spaces (suc (suc (suc (suc zero)))) l m = absurd (omega arith)
row_spaces (suc (suc (suc (suc (suc zero))))) l m = absurd (omega arith)
row_spaces (suc (suc (suc (suc (suc (suc zero)))))) l m = refl
row_spaces (suc (suc (suc (suc (suc (suc (suc zero))))))) l m = refl
row_spaces (suc (suc (suc (suc (suc (suc (suc (suc n)))))))) l m = absurd (omega arith)

-- ---- the spaces of a code

-- what is read after a code
unfoldable pub after_code : ℕ → Reader model.Operation
after_code code = get_or rows code refuse

-- the bytes of the spaces that it names, one or two
unfoldable pub named_width : ℕ → ℕ
named_width code = cond (ltb code 6) space_width spaces_width

-- the second of them, from a position on; 0 where there is one
unfoldable pub second_space : List ℕ → (at code : ℕ) → ℕ
second_space b at code = cond (ltb code 6) 0 (number_at (at + space_width) space_width b)

pub width_one : (code : ℕ) → code < 6 → space_width ≡ named_width code
unfolding named_width
width_one code l = rw (lt-ltb code 6 l)

pub width_two : (code : ℕ) → 6 ≤ code → spaces_width ≡ named_width code
unfolding named_width
width_two code l = rw (le-ltb code 6 l)

module _ (b : List ℕ) (at code : ℕ) where
  pub second_none : code < 6 → 0 ≡ second_space b at code
  unfolding second_space
  second_none l = rw (lt-ltb code 6 l)

  pub second_there : (x : ℕ) → 6 ≤ code → x ≡ number_at (at + space_width) space_width b → x ≡ second_space b at code
  unfolding second_space
  second_there x l e = rw (le-ltb code 6 l) e

  module _ (some : 0 < code) (few : code < codes) where
    pub after_short : length b < at + (named_width code + count_width) → read_at (after_code code) b at ≡ none
    unfolding after_code
    after_short h = go (which 6 code)
      where
        go : (6 ≤ code) ⊎ (code < 6) → read_at (get_or rows code refuse) b at ≡ none
        go (inl l) = rw (row_spaces code l few) (spaces_short (operation_of code) b at (omega (arith, width_two code l)))
        go (inr l) = rw (row_space code some l) (space_short (λ s. operation_of code s 0) b at (omega (arith, width_one code l)))

    -- its spaces, then the fields
    pub after_there : (from to : ℕ) → at + named_width code ≤ length b → from ≡ number_at at space_width b → to ≡ second_space b at code
        → passed few_fields (read_at (fields_made (operation_of code from to)) b (at + named_width code)) ≡ passed few_fields (read_at (after_code code) b at)
    unfolding after_code
    after_there from to h e f = go (which 6 code)
      where
        go : (6 ≤ code) ⊎ (code < 6) → passed few_fields (read_at (fields_made (operation_of code from to)) b (at + named_width code)) ≡ passed few_fields (read_at (get_or rows code refuse) b at)
        go (inl l) =
            let second : to ≡ number_at (at + space_width) space_width b = f ∙ sym (second_there (number_at (at + space_width) space_width b) l refl) in
            rw (row_spaces code l few, ← width_two code l) (spaces_there code from to b at (omega (arith, width_two code l)) e second)
        go (inr l) =
            let none_there : to ≡ 0 = f ∙ sym (second_none l) in
            rw (row_space code some l, ← width_one code l, none_there) (space_there code from b at (omega (arith, width_one code l)) e)

-- ---- an operation at a position

operation_from : (b : List ℕ) (at : ℕ) → at < length b → read_at operation b at ≡ read_at (get_or rows (get_or b at 0) refuse) b (at + code_width)
unfolding operation chosen_by ◌>>=◌ read_at
operation_from b at h = rw (fixed_byte.enough b at (omega arith))

pub operation_past : (b : List ℕ) (at : ℕ) → length b ≤ at → operation_at b at ≡ none
unfolding operation chosen_by ◌>>=◌ read_at operation_at passed
operation_past b at h = rw (fixed_byte.short b at (omega arith))

-- code 0 has no more bytes
pub operation_always : (b : List ℕ) (at : ℕ) → at < length b → get_or b at 0 ≡ 0 → operation_at b at ≡ some (always, at + code_width)
unfolding operation_at passed few_fields fields_of provided give
operation_always b at h e =
    let k : read_at operation b at ≡ some (always, at + code_width) = operation_from b at h ∙ rw e (some_read_at (give always) b (at + code_width) always (at + code_width) refl (omega arith)) in
    rw k

-- what follows its code
pub operation_after : (b : List ℕ) (at : ℕ) → at < length b → operation_at b at ≡ passed few_fields (read_at (after_code (get_or b at 0)) b (at + code_width))
unfolding operation_at after_code
operation_after b at h = ap (passed few_fields) (operation_from b at h)

-- no other code
pub operation_none : (b : List ℕ) (at : ℕ) → at < length b → codes ≤ get_or b at 0 → operation_at b at ≡ none
unfolding operation_at passed read_at refuse
operation_none b at h m =
    let k : read_at operation b at ≡ none = operation_from b at h ∙ ap (λ (p : Reader model.Operation). read_at p b (at + code_width)) (get_or-eq_default rows refuse m) in
    rw k
