-- The tuples that a template selects: the test of a row, one tuple more of those and of the others, a row in another space. Assumes nothing.
use Rattle.std.specs.Prelude.{◌≡◌, ℕ, ◌+◌, ◌≤◌, ◌<◌, Bool, true, false, length, take, drop, eqb}
use Rattle.std.proofs.Common.{sym, ◌∙◌, arith, add-zero, length-drop, length-take-le}
use Rattle.std.proofs.Math.Path.{ap}
use Rattle.std.proofs.Math.Bool.{not}
use mathlib.Core.List.{List, [], ◌∷◌, ◌++◌, map, map-append}
use borrow.Author.Tests.{eq-eqb, ne_eqb}
use Rattle.basis.specs.Lists.{keep}
use Rattle.basis.specs.ListLaws.{Each, each_map, keep_in}
use Rattle.basis.specs.Numbers.{big_endian}
use Rattle.basis.specs.NumberLaws.{big_endian_length}
use Rattle.basis.specs.Sizes.{space_width, space_numbers, tuple_size}
use Rattle.model.specs.Matching.{Tuple, same_space, is_match, selected}
use Rattle.model.specs.Execution.{in_space}
use Rattle.model.specs.Valid.{legal_tuple}
use Rattle.layout.specs.States.{tuple_read}
use Rattle.words.specs.Over.{over}
use Rattle.words.specs.OverLaws.{over_split, over_left, over_right, take_over_past}
use Rattle.sections.specs.Rows.{HasRows, rows_from}
use Rattle.sections.specs.Loops.{keep_yes, keep_no}
use Rattle.sections.specs.FirstRows.{FirstRows, rows_one}
use Rattle.tuples.specs.Section.{Legal, tuple_shape, entry_bytes, entry_at, tuple_at, tuples_of}
use Rattle.tuples.specs.SectionLaws.{read_take, space_set}
use Rattle.matching.specs.declared.Template.{Template}
use Rattle.matching.specs.Meaning.{template_is}
use Rattle.matching.specs.SearchLaws.{template_length}
use Rattle.tuples.specs.Entry.{with_space}
use Rattle.moves.specs.Moves.{others, relocated}

-- ---- which tuples are selected

module _ (t : Template) (u : Tuple) where
  -- all of the space
  pub selected_space : (s : ℕ) → s ≡ u.space → t.count ≡ 0 → eqb s t.space ≡ selected (template_is t) u
  unfolding selected same_space
  selected_space s e z = rw (template_length t 0 t.count, eq-eqb t.count 0 z, e)

  -- where there are fields, those that match
  pub selected_match : (t.count ≡ 0 → ⊥) → is_match (template_is t) u ≡ selected (template_is t) u
  unfolding selected
  selected_match z = rw (template_length t 0 t.count, ne_eqb t.count 0 z)

-- ---- one tuple more

-- the row that was tested is the section's
pub tested : (t : Template) (p a : List ℕ) (i : ℕ) (b : Bool) → entry_at a i ≡ entry_at p i → selected (template_is t) (tuple_at a i) ≡ b → selected (template_is t) (tuple_at p i) ≡ b
unfolding tuple_at
tested t p a i b same e = ap (λ (r : List ℕ). selected (template_is t) (tuple_read r)) (sym same) ∙ e

module _ (t : Template) (to : ℕ) (p : List ℕ) (n i : ℕ) (below : i < n) where
  abbrev ts : List Tuple
  ts = take i (tuples_of p n)

  abbrev u : Tuple
  u = tuple_at p i

  module _ (e : selected (template_is t) u ≡ true) where
    pub others_no : others t (take (i + 1) (tuples_of p n)) ≡ others t ts
    unfolding others
    others_no = ap (others t) (read_take p n i below) ∙ keep_no (λ v. not (selected (template_is t) v)) ts u (ap not e)

    pub relocated_yes : relocated t to (take (i + 1) (tuples_of p n)) ≡ relocated t to ts ++ (in_space to u ∷ [])
    unfolding relocated
    relocated_yes = ap (relocated t to) (read_take p n i below) ∙ ap (map (in_space to)) (keep_yes (selected (template_is t)) ts u e) ∙ map-append (in_space to) (keep (selected (template_is t)) ts) (u ∷ [])

  module _ (e : selected (template_is t) u ≡ false) where
    pub others_yes : others t (take (i + 1) (tuples_of p n)) ≡ others t ts ++ (u ∷ [])
    unfolding others
    others_yes = ap (others t) (read_take p n i below) ∙ keep_yes (λ v. not (selected (template_is t) v)) ts u (ap not e)

    pub relocated_no : relocated t to (take (i + 1) (tuples_of p n)) ≡ relocated t to ts
    unfolding relocated
    relocated_no = ap (relocated t to) (read_take p n i below) ∙ ap (map (in_space to)) (keep_no (selected (template_is t)) ts u e)

pub others_legal : (t : Template) (ts : List Tuple) → Each Legal ts → Each Legal (others t ts)
unfolding others
others_legal t ts l = λ u m. l u (keep_in (λ v. not (selected (template_is t) v)) ts u m)

pub relocated_legal : (t : Template) (to : ℕ) (ts : List Tuple) → to < space_numbers → Each Legal ts → Each Legal (relocated t to ts)
unfolding relocated in_space legal_tuple
relocated_legal t to ts h l = each_map Legal (in_space to) (keep (selected (template_is t)) ts) (λ u m. ((l u (keep_in (selected (template_is t)) ts u m)).0, h))

-- ---- a row in another space

-- a store, and one at the beginning of what it stored
pub over_inner : (d e f : List ℕ) (at : ℕ) (s : List ℕ) (n : ℕ) (t : List ℕ) (m : ℕ) → at + n ≤ length d → n ≤ length s → m ≤ n → m ≤ length t → e ≡ over d at s n → f ≡ over e at t m → f ≡ over d at (over s 0 t m) n
over_inner d e f at s n t m room enough small all one two =
    let a : List ℕ = take at d in
    let b : List ℕ = take n s in
    let c : List ℕ = drop (at + n) d in
    let la : length a ≡ at = length-take-le at d (omega arith) in
    let lb : length b ≡ n = length-take-le n s enough in
    let past : over (a ++ (b ++ c)) (at + 0) t m ≡ a ++ over (b ++ c) 0 t m = over_right a (b ++ c) at 0 t m la in
    let front : over (b ++ c) 0 t m ≡ over b 0 t m ++ c = over_left b c 0 t m (omega arith) in
    let same : take n (over s 0 t m) ≡ over b 0 t m = take_over_past s 0 t m (omega arith) all n (omega arith) enough in
    two ∙ ap (λ (l : List ℕ). over l at t m) (one ∙ over_split d at s n) ∙ ap (λ (k : ℕ). over (a ++ (b ++ c)) k t m) (sym (add-zero at)) ∙ past
    ∙ ap (λ (l : List ℕ). a ++ l) front ∙ sym (over_split d at (over s 0 t m) n ∙ ap (λ (l : List ℕ). a ++ (l ++ c)) same)

-- a row of a tuple, and one in another space
pub relocated_row : (a : List ℕ) (i to : ℕ) (u : Tuple) → HasRows tuple_size a (i + 1) → entry_at a i ≡ entry_bytes u → FirstRows tuple_shape (with_space to (rows_from tuple_size a i)) 1 (in_space to u ∷ [])
unfolding entry_at
relocated_row a i to u room is =
    let d : List ℕ = rows_from tuple_size a i in
    let x : List ℕ = big_endian space_width to in
    let w : length x ≡ space_width = big_endian_length space_width to in
    let long : tuple_size ≤ length d = simp length-drop (omega arith) in
    rows_one tuple_shape (over d 0 x space_width) (in_space to u)
    (take_over_past d 0 x space_width (omega arith) (omega arith) tuple_size (omega arith) long ∙ ap (λ (r : List ℕ). over r 0 x space_width) is ∙ space_set u to)
