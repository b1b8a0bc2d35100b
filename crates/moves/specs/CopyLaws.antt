-- A copy under way: one tuple more, copied or not, and how it ends. Assumes nothing.
use Rattle.std.specs.Prelude.{None, Some, ◌≡◌, ℕ, ◌+◌, ◌-◌, ◌*◌, ◌≤◌, ◌<◌, true, false, length, take, drop}
use Rattle.std.proofs.Math.Path.{sym, ap}
use Rattle.std.proofs.Common.{◌∙◌, arith, length-append, take-append-drop, take_all}
use mathlib.Core.List.{List, [], ◌∷◌, ◌++◌, map, map-append, append_assoc, append-nil}
use Rattle.std.proofs.Math.ListN.{get_or-append}
use Rattle.basis.specs.Lists.{keep, zeros}
use Rattle.basis.specs.ListLaws.{Each, each_nil, each-cons}
use Rattle.basis.specs.Sizes.{space_numbers, most_tuples, tuple_size}
use Rattle.model.specs.Matching.{Tuple, selected}
use Rattle.model.specs.Execution.{in_space}
use Rattle.model.specs.Valid.{legal_tuple}
use Rattle.sections.specs.Rows.{rows_from, rows_over}
use Rattle.sections.specs.Loops.{keep_append}
use Rattle.sections.specs.Shapes.{items_length, holds_length, holds_count, holds_row}
use Rattle.sections.specs.FirstRows.{holds_added, holds_cleared}
use Rattle.tuples.specs.Section.{Legal, tuple_shape, entry_bytes, entry_at, tuple_at, tuples_of, Holds, Section}
use Rattle.tuples.specs.SectionLaws.{read_at_lem, entry_is, tuple_legal}
use Rattle.matching.specs.declared.Template.{Template}
use Rattle.matching.specs.Meaning.{template_is}
use Rattle.tuples.specs.Entry.{with_space}
use Rattle.moves.specs.Moves.{relocated, Copies}
use Rattle.moves.specs.SelectedLaws.{tested, relocated_no, relocated_yes, relocated_row}

relocated_append : (t : Template) (to : ℕ) (ts us : List Tuple) → relocated t to (ts ++ us) ≡ relocated t to ts ++ relocated t to us
unfolding relocated
relocated_append t to ts us = ap (map (in_space to)) (keep_append (selected (template_is t)) ts us) ∙ map-append (in_space to) (keep (selected (template_is t)) ts) (keep (selected (template_is t)) us)

-- the copies of the first i stand behind the tuples
abbrev pub Copying : (t : Template) (to : ℕ) (p : List ℕ) (n : ℕ) (a : List ℕ) (m i : ℕ) → Type 0
Copying t to p n a m i = Holds a m (tuples_of p n ++ relocated t to (take i (tuples_of p n)))

module _ (t : Template) (to : ℕ) {p : List ℕ} {n : ℕ} (s : Section p n) where
  pub copying_start : Copying t to p n p n 0
  unfolding relocated keep
  copying_start = rw (append-nil (tuples_of p n)) s

  module _ {a : List ℕ} {m : ℕ} (i : ℕ) (h : Copying t to p n a m i) where
    abbrev new : List Tuple
    new = relocated t to (take i (tuples_of p n))

    copying_count : m ≡ n + length new
    copying_count = omega (arith, holds_count tuple_shape a m (tuples_of p n ++ new) h, length-append (tuples_of p n) new, items_length tuple_shape p n)

    pub copying_few : n ≤ m
    copying_few = omega (arith, copying_count)

    module _ (below : i < n) where
      copying_entry : entry_at a i ≡ entry_at p i
      unfolding entry_at
      copying_entry =
          let l = items_length tuple_shape p n in
          let u : Tuple = tuple_at p i in
          holds_row tuple_shape a m (tuples_of p n ++ new) h u i (omega (arith, copying_count)) ∙ ap entry_bytes (get_or-append (tuples_of p n) new u i (omega arith) ∙ read_at_lem p n i u below) ∙ sym (entry_is p n i s below)

      pub copying_no : selected (template_is t) (tuple_at a i) ≡ false → Copying t to p n a m (i + 1)
      copying_no e = rw (relocated_no t to p n i below (tested t p a i false copying_entry e)) h

      module _ (e : selected (template_is t) (tuple_at a i) ≡ true) where
        more : relocated t to (take (i + 1) (tuples_of p n)) ≡ new ++ (in_space to (tuple_at p i) ∷ [])
        more = relocated_yes t to p n i below (tested t p a i true copying_entry e)

        pub copying_yes : (c : List ℕ) → to < space_numbers → m < most_tuples → c ≡ rows_over tuple_size a m (with_space to (rows_from tuple_size a i)) 1 → Copying t to p n c (m + 1) (i + 1)
        unfolding in_space legal_tuple
        copying_yes c small few stored =
            let u : Tuple = tuple_at p i in
            let x : List Tuple = in_space to u ∷ [] in
            let row = relocated_row a i to u (omega (arith, holds_length tuple_shape a m (tuples_of p n ++ new) h, s.few)) (copying_entry ∙ entry_is p n i s below) in
            let lawful : Each Legal x = each-cons Legal (in_space to u) [] ((tuple_legal p n i s below).0, small) (each_nil Legal) in
            rw (more, ← append_assoc (tuples_of p n) new x) (holds_added tuple_shape a c (with_space to (rows_from tuple_size a i)) m 1 (tuples_of p n ++ new) x h (omega arith) lawful row stored)

        -- no room: there are more than those so far
        pub copying_full : (q : List ℕ) → most_tuples ≤ m → q ≡ rows_over tuple_size a n (zeros ((m - n) * tuple_size)) (m - n) → Copies None p q n (relocated t to (tuples_of p n))
        copying_full q full stored =
            let front : List Tuple = take (i + 1) (tuples_of p n) in
            let rest : List Tuple = relocated t to (drop (i + 1) (tuples_of p n)) in
            let all : relocated t to (tuples_of p n) ≡ relocated t to front ++ rest = ap (relocated t to) (sym (take-append-drop (i + 1) (tuples_of p n))) ∙ relocated_append t to front (drop (i + 1) (tuples_of p n)) in
            let long : length (relocated t to front) ≡ length new + 1 = ap length more ∙ length-append new (in_space to (tuple_at p i) ∷ []) in
            let cleared = holds_cleared tuple_shape a q n m (tuples_of p n) new h (sym (items_length tuple_shape p n)) stored in
            (omega (arith, ap length all, length-append (relocated t to front) rest, copying_count), cleared.rows.bytes ∙ sym s.rows.bytes)

    pub copying_end : n ≤ i → Copies (Some m) p a n (relocated t to (tuples_of p n))
    copying_end past =
        let all : take i (tuples_of p n) ≡ tuples_of p n = take_all i (tuples_of p n) (omega (arith, items_length tuple_shape p n)) in
        (copying_count ∙ rw all, rw all at h)
