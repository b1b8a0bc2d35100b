-- The fields of an operation, one after the other: the kinds after those so far. Assumes nothing.
use Rattle.std.specs.Prelude as rust
use Rattle.std.specs.Prelude.{None, Some, ◌≡◌, refl, ℕ, suc, ◌+◌, ◌≤◌, ◌<◌, Bool, true, false, ◌&&◌, List, [], ◌∷◌, map, length, take, drop, get_or}
use Rattle.std.proofs.Common.{sym, ap, ◌∙◌, arith, add-one, drop_of_length-le, drop-cons}
use Rattle.std.proofs.Math.Option.{Option, none}
use Rattle.std.proofs.Math.ListN.{get_or-map}
use Rattle.std.proofs.lemmas.List.{length-map}
use Rattle.basis.specs.Choice.{maybe, provided}
use Rattle.basis.specs.Lists.{is_in}
use Rattle.model.specs.Statement as model
use Rattle.model.specs.Legal.{Kinds, legal_field, bind_kind, bind_kinds, legal_fields}
use Rattle.statements.specs.Flat.{field_of, field_is, fields_are}
use Rattle.statements.specs.declared.Field.{Field}
use Rattle.fields.specs.Kinds.{kinds_are, bound_is}
use Rattle.fields.specs.Forms.{form_is, form_is_lem, allowed_by, allows}
use Rattle.fields.specs.Stepped.{stepped}

-- the kinds that are bound, as the code holds them
abbrev pub Held : Type 0
Held = List (rust.Option ℕ)

-- the kinds after fields
unfoldable pub judged : (allowed : List ℕ) (earlier now : Kinds) → List model.Field → Option Kinds
judged allowed earlier now fs = provided (legal_fields allowed earlier now fs) (bind_kinds now fs)

-- one field, then the rest
judged_turn : (code : ℕ) (earlier now : Kinds) (fs : List model.Field) (i : ℕ) (form k x n m : ℕ) → drop i fs ≡ field_of form k x n m ∷ drop (suc i) fs
    → judged (allowed_by code) earlier now (drop i fs) ≡ maybe (stepped code earlier now (field_of form k x n m) form) none (λ after. judged (allowed_by code) earlier after (drop (suc i) fs))
unfolding judged stepped legal_fields bind_kinds provided allows
judged_turn code earlier now fs i form k x n m e = rw (e, form_is_lem form k x n m) (go (is_in (form_is form) (allowed_by code)) (legal_field earlier now (field_of form k x n m)))
  where
    f : model.Field
    f = field_of form k x n m

    go : (a b : Bool)
        → provided (a && b && legal_fields (allowed_by code) earlier (bind_kind now f) (drop (suc i) fs)) (bind_kinds (bind_kind now f) (drop (suc i) fs))
        ≡ maybe (provided (a && b) (bind_kind now f)) none (λ after. judged (allowed_by code) earlier after (drop (suc i) fs))
    go true true = refl
    go true false = refl
    go false b = refl

-- the field at an index
pub field_at : (fields : List Field) (i : ℕ) (d : Field) → i < length fields → drop i (fields_are fields) ≡ field_is (get_or fields i d) ∷ drop (suc i) (fields_are fields)
unfolding fields_are
field_at fields i d h =
    drop-cons (map field_is fields) i (field_is d) (omega (arith, length-map fields field_is)) ∙ ap (λ (f : model.Field). f ∷ drop (suc i) (map field_is fields)) (get_or-map field_is fields i d)

-- The fields before the i-th are legal, and the rest decides. `earlier`: the kinds that earlier operations bound; `start`: those bound before the first field; `now`: those bound so far.
pub record Judging (code : ℕ) (fields : List Field) (earlier start now : Held) (i : ℕ) : Type 0 where
  pub rest : judged (allowed_by code) (kinds_are earlier) (kinds_are start) (fields_are fields) ≡ judged (allowed_by code) (kinds_are earlier) (kinds_are now) (drop i (fields_are fields))

pub judging_start : (code : ℕ) (fields : List Field) (earlier start : Held) → Judging code fields earlier start start 0
judging_start code fields earlier start = record { rest = refl }

module _ (code : ℕ) (fields : List Field) (earlier start now : Held) (i : ℕ) (d : Field) (h : i < length fields) (j : Judging code fields earlier start now i) where
  turn : judged (allowed_by code) (kinds_are earlier) (kinds_are start) (fields_are fields)
      ≡ maybe (stepped code (kinds_are earlier) (kinds_are now) (field_is (get_or fields i d)) (get_or fields i d).form) none (λ after. judged (allowed_by code) (kinds_are earlier) after (drop (suc i) (fields_are fields)))
  unfolding field_is
  turn = let f = get_or fields i d in j.rest ∙ judged_turn code (kinds_are earlier) (kinds_are now) (fields_are fields) i f.form f.kind f.variable f.bits f.highest (field_at fields i d h)

  pub judging_turn : (after : Held) → bound_is (Some after) ≡ stepped code (kinds_are earlier) (kinds_are now) (field_is (get_or fields i d)) (get_or fields i d).form
      → Judging code fields earlier start after (i + 1)
  unfolding bound_is
  judging_turn after e = record { rest = turn ∙ rw (← e, add-one i) }

  pub judging_stop : bound_is None ≡ stepped code (kinds_are earlier) (kinds_are now) (field_is (get_or fields i d)) (get_or fields i d).form
      → bound_is None ≡ judged (allowed_by code) (kinds_are earlier) (kinds_are start) (fields_are fields)
  unfolding bound_is
  judging_stop e = sym (turn ∙ rw (← e))

pub judging_done : (code : ℕ) (fields : List Field) (earlier start now : Held) (i : ℕ) → length fields ≤ i → Judging code fields earlier start now i
    → bound_is (Some now) ≡ judged (allowed_by code) (kinds_are earlier) (kinds_are start) (fields_are fields)
unfolding bound_is judged provided legal_fields bind_kinds fields_are
judging_done code fields earlier start now i h j =
    let z : drop i (fields_are fields) ≡ [] = drop_of_length-le (map field_is fields) {i = i} (omega (arith, length-map fields field_is)) in
    sym (j.rest ∙ rw z)
