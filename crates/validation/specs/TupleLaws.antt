-- The tests of the tuples' bytes come to what "The state buffer" asks of them. Assumes nothing.
use Rattle.std.specs.Prelude.{◌≡◌, ℕ, ◌≤◌, ◌<◌, Bool, true, false, length, get_or}
use Rattle.std.proofs.Math.Path.{sym, ap}
use Rattle.std.proofs.Common.{◌∙◌, arith}
use mathlib.Core.List.{List, [], map}
use Rattle.std.proofs.Math.Dec.{T}
use Rattle.basis.specs.Logic.{and_l, and_r, both, true_is}
use Rattle.basis.specs.Lists.{all, pad, pieces, same_bytes}
use Rattle.basis.specs.ListLaws.{Each, all_at, all_of, same_refl, same→eq}
use Rattle.basis.specs.Sizes.{most_tuples, tuple_size, tuples_size}
use Rattle.model.specs.Matching.{Tuple}
use Rattle.model.specs.Run.{Space, is_open}
use Rattle.model.specs.Valid.{legal_tuple}
use Rattle.layout.specs.States.{tuple_bytes, area, tuple_read, entries}
use Rattle.sections.specs.Rows.{Section, HasRows, unused_zero}
use Rattle.sections.specs.RowLaws.{pieces_at, section_of, section_unused}
use Rattle.sections.specs.Shapes.{Shape, Same, area_same, area_of}
use Rattle.scans.specs.Tests.{all_map}
use Rattle.tuples.specs.Section.{entry_at, tuple_at}
use Rattle.tuples.specs.Entry.{is_entry}
use Rattle.spaces.specs.Spaces.{spaces_of}
use Rattle.validation.specs.Validation.{row_open, in_open, tuples_legal}

-- ---- a row

module _ (q : List ℕ) (n : ℕ) (p : List ℕ) (m i : ℕ) (h : i < m) (r : Bool) (er : r ≡ is_entry (entry_at p i)) where
  abbrev row : List ℕ
  row = get_or (pieces m tuple_size p) i []

  entry_is : is_entry row ≡ r
  unfolding entry_at
  entry_is = ap is_entry (pieces_at m tuple_size p i h) ∙ sym er

  pub no_tuple : r ≡ false → row_open (spaces_of q n) row ≡ false
  unfolding row_open
  no_tuple z = rw (entry_is ∙ z)

  module _ (yes : r ≡ true) (x : ℕ) (t : Bool) (ex : x ≡ (tuple_at p i).space) (et : t ≡ is_open (spaces_of q n) x) where
    open_here : in_open (spaces_of q n) (tuple_read row) ≡ t
    unfolding tuple_at entry_at
    open_here = sym (et ∙ ap (is_open (spaces_of q n)) ex ∙ ap (λ (r : List ℕ). in_open (spaces_of q n) (tuple_read r)) (sym (pieces_at m tuple_size p i h)))

    pub no_space_lem : t ≡ false → row_open (spaces_of q n) row ≡ false
    unfolding row_open
    no_space_lem z = rw (entry_is ∙ yes, open_here, z)

    pub in_space_lem : t ≡ true → row_open (spaces_of q n) row ≡ true
    unfolding row_open
    in_space_lem z = rw (entry_is ∙ yes, open_here, z)

-- ---- the section

-- rows and what they are read as
abbrev row_shape : Shape Tuple
row_shape = record { size = tuple_size; most = most_tuples; write = tuple_bytes; read = tuple_read; Lawful = λ t. tuple_read (pad tuple_size (tuple_bytes t)) ≡ t; back = λ t l. l }

module _ (ss : List Space) (p : List ℕ) (m : ℕ) (long : length p ≡ tuples_size) (few : m ≤ most_tuples) where
  abbrev rows : List (List ℕ)
  rows = pieces m tuple_size p

  room : HasRows tuple_size p m
  room = omega arith

  -- what one row's test says
  record One (r : List ℕ) : Type 0 where
    legal : T (legal_tuple (tuple_read r))
    same : Same row_shape r
    placed : T (in_open ss (tuple_read r))

  one : (r : List ℕ) → T (row_open ss r) → One r
  unfolding row_open is_entry
  one r t = record {
    legal = search (and_l, and_r, t) depth 6;
    same = same→eq (pad tuple_size (tuple_bytes (tuple_read r))) r (search (and_l, and_r, t) depth 6);
    placed = search (and_l, and_r, t) depth 6;
  }

  of_one : (r : List ℕ) → One r → T (row_open ss r)
  unfolding row_open is_entry
  of_one r o =
      let legal : T (legal_tuple (tuple_read r)) = o.legal in
      let same : T (same_bytes (pad tuple_size (tuple_bytes (tuple_read r))) r) = rw o.same (true_is (same_bytes r r) (same_refl r)) in
      let placed : T (in_open ss (tuple_read r)) = o.placed in
      search (both, legal, same, placed) depth 6

  pub rows_tuples : T (unused_zero tuple_size p m) → T (all (row_open ss) rows) → T (tuples_legal ss p m)
  unfolding tuples_legal entries
  rows_tuples rest t =
      let each : Each One rows = λ r i. one r (all_at (row_open ss) rows t r i) in
      let e : area tuples_size tuple_size tuple_bytes (map tuple_read rows) ≡ p = sym (area_same row_shape p m long few (section_of tuple_size m p room rest) (λ r i. (each r i).same)) in
      let bytes : T (same_bytes (area tuples_size tuple_size tuple_bytes (map tuple_read rows)) p) = rw e (true_is (same_bytes p p) (same_refl p)) in
      let legal : T (all legal_tuple (map tuple_read rows)) = rw (all_map legal_tuple tuple_read rows) (all_of (λ r. legal_tuple (tuple_read r)) rows (λ r i. (each r i).legal)) in
      let placed : T (all (in_open ss) (map tuple_read rows)) = rw (all_map (in_open ss) tuple_read rows) (all_of (λ r. in_open ss (tuple_read r)) rows (λ r i. (each r i).placed)) in
      search (both, bytes, legal, placed) depth 4

  module _ (t : T (tuples_legal ss p m)) where
    found : Section tuple_size p m × Each (Same row_shape) rows
    unfolding tuples_legal entries
    found = area_of row_shape p m few (sym (same→eq (area tuples_size tuple_size tuple_bytes (map tuple_read rows)) p (search (and_l, and_r, t) depth 4)))

    legals : Each (λ (r : List ℕ). T (legal_tuple (tuple_read r))) rows
    unfolding tuples_legal entries
    legals = let u : T (all legal_tuple (map tuple_read rows)) = search (and_l, and_r, t) depth 4 in all_at (λ r. legal_tuple (tuple_read r)) rows (rw (all_map legal_tuple tuple_read rows) at u)

    places : Each (λ (r : List ℕ). T (in_open ss (tuple_read r))) rows
    unfolding tuples_legal entries
    places = let u : T (all (in_open ss) (map tuple_read rows)) = search (and_l, and_r, t) depth 4 in all_at (λ r. in_open ss (tuple_read r)) rows (rw (all_map (in_open ss) tuple_read rows) at u)

    pub tuples_unused : T (unused_zero tuple_size p m)
    tuples_unused = section_unused tuple_size m p found.0

    pub tuples_rows : T (all (row_open ss) rows)
    tuples_rows = all_of (row_open ss) rows (λ r i. of_one r (record { legal = legals r i; same = found.1 r i; placed = places r i }))
