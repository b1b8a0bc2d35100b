-- The tests of the open spaces' bytes come to what "The state buffer" asks of them. Assumes nothing.
use Rattle.std.specs.Prelude.{◌≡◌, Bool, ◌&&◌, ◌||◌, ◌⊎◌, length, take, drop}
use Rattle.std.proofs.Math.Path.{refl, sym, ap}
use Rattle.std.proofs.Common.{◌∙◌, inl, inr, length-drop, take-append-drop, take_all, drop_at, drop-cons, le→leb, ltb→lt}
use Prim.Native.Nat.{ℕ, zero, suc, ◌+◌, ◌-◌, ◌*◌, ◌≤◌, ◌<◌}
use native.Mathlib.Omega.{arith}
use Rattle.std.proofs.Math.Bool.{true, false, cond}
use mathlib.Core.List.Memᴰ
use mathlib.Core.List.{List, [], ◌∷◌, ◌++◌}
use Rattle.std.proofs.Math.ListN.{get_or}
use Rattle.std.proofs.Math.Dec.{T, leb, eqb, eqb→eq, leb→le, lt→ltb}
use Rattle.std.proofs.Math.Pow.{are_bytes}
use borrow.Author.Tests.{eq-eqb, ne_eqb}
use Rattle.basis.specs.Logic.{and_l, and_r, both, or_l, or_cases, true_is, same_test}
use Rattle.basis.specs.Lists.{all, any, pairwise, zeros, pad, pieces, same_bytes}
use Rattle.basis.specs.ListLaws.{Each, all_at, all_of, any_at, same_refl, same→eq}
use Rattle.basis.specs.Numbers.{big_endian, number, number_at}
use Rattle.basis.specs.NumberLaws.{big_endian_length, number_big_endian, number_at_lt}
use Rattle.basis.specs.Sizes.{space_width, kind_width, process_width, most_spaces, space_kind_at, space_owner_at, space_size, spaces_size}
use Rattle.model.specs.Run.{Access, shared, private, Space}
use Rattle.model.specs.Valid.{is_shared}
use Rattle.model.proofs.Sound.{OwnerFits}
use Rattle.layout.specs.States.{access_bytes, space_bytes, area, byte_at, space_read, entries}
use Rattle.words.specs.Over.{zeros_at}
use Rattle.words.specs.ZeroLaws.{zerosAt→zeros, zeros→zerosAt}
use Rattle.words.specs.WordLaws.{number_at_1}
use Rattle.sections.specs.Rows.{Section, HasRows, unused_zero}
use Rattle.sections.specs.RowLaws.{pad_whole, number_written, number_of_row, pieces_wide, pieces_bytes, section_of, section_unused}
use Rattle.sections.specs.Shapes.{Same, holds_of, area_same, area_of}
use Rattle.scans.specs.Tests.{ascends, ascends_within, ascends_rise, ascends_of, ascends_map, refused}
use Rattle.spaces.specs.Spaces.{Small, space_shape, spaces_of, IsListed, Rising}
use Rattle.spaces.specs.Legal.{lower, zero_open, below_next, spaces_legal, access_ok}

-- ---- a row is what it is read as exactly if kind and owner are so

module _ (r : List ℕ) (long : length r ≡ space_size) (bytes : T (are_bytes r)) where
  abbrev kind : ℕ
  kind = number_at space_kind_at kind_width r

  abbrev owner : ℕ
  owner = number_at space_owner_at process_width r

  -- the bytes after the number
  after_is : drop space_kind_at r ≡ kind ∷ big_endian process_width owner
  after_is =
      let own : big_endian process_width owner ≡ take process_width (drop space_owner_at r) = number_written space_owner_at process_width r bytes (omega arith) in
      let all : take process_width (drop space_owner_at r) ≡ drop space_owner_at r = take_all process_width (drop space_owner_at r) (simp length-drop (omega arith)) in
      drop-cons r space_kind_at 0 (omega arith) ∙ rw (number_at_1 space_kind_at r (omega arith), own, all)

  row_is : r ≡ big_endian space_width (number_at 0 space_width r) ++ (kind ∷ big_endian process_width owner)
  row_is = sym (rw (number_written 0 space_width r bytes (omega arith), ← after_is) (take-append-drop space_width r))

  said_access : access_bytes (space_read r).access ≡ cond (eqb kind 1) (1 ∷ big_endian process_width owner) (0 ∷ big_endian process_width 0)
  unfolding space_read byte_at access_bytes
  said_access = rw (number_at_1 space_kind_at r (omega arith)) (go (eqb (get_or r space_kind_at 0) 1))
    where
      go : (t : Bool) → access_bytes (cond t (private owner) shared) ≡ cond t (1 ∷ big_endian process_width owner) (0 ∷ big_endian process_width 0)
      go true = refl
      go false = refl

  wide : (t : Bool) → length (big_endian space_width (number_at 0 space_width r) ++ cond t (1 ∷ big_endian process_width owner) (0 ∷ big_endian process_width 0)) ≡ space_size
  unfolding big_endian
  wide true = refl
  wide false = refl

  written : pad space_size (space_bytes (space_read r)) ≡ big_endian space_width (number_at 0 space_width r) ++ cond (eqb kind 1) (1 ∷ big_endian process_width owner) (0 ∷ big_endian process_width 0)
  unfolding space_bytes space_read
  written =
      let e : space_bytes (space_read r) ≡ big_endian space_width (number_at 0 space_width r) ++ cond (eqb kind 1) (1 ∷ big_endian process_width owner) (0 ∷ big_endian process_width 0) =
      ap (λ (x : List ℕ). big_endian space_width (number_at 0 space_width r) ++ x) said_access in
      ap (pad space_size) e ∙ pad_whole space_size (big_endian space_width (number_at 0 space_width r) ++ cond (eqb kind 1) (1 ∷ big_endian process_width owner) (0 ∷ big_endian process_width 0)) (wide (eqb kind 1))

  pub access_same : T (access_ok r) → Same space_shape r
  unfolding access_ok
  access_same t = written ∙ go (or_cases (eqb kind 1) (eqb kind 0 && eqb owner 0) t) ∙ sym row_is
    where
      go : T (eqb kind 1) ⊎ T (eqb kind 0 && eqb owner 0)
          → big_endian space_width (number_at 0 space_width r) ++ cond (eqb kind 1) (1 ∷ big_endian process_width owner) (0 ∷ big_endian process_width 0) ≡ big_endian space_width (number_at 0 space_width r) ++ (kind ∷ big_endian process_width owner)
      go (inl k) = let e : kind ≡ 1 = eqb→eq kind 1 k in rw (eq-eqb kind 1 e) (ap (λ (x : ℕ). big_endian space_width (number_at 0 space_width r) ++ (x ∷ big_endian process_width owner)) (sym e))
      go (inr z) =
          let e : kind ≡ 0 = eqb→eq kind 0 (and_l (eqb kind 0) (eqb owner 0) z) in
          let o : owner ≡ 0 = eqb→eq owner 0 (and_r (eqb kind 0) (eqb owner 0) z) in
          rw (e, o)

  pub same_access : Same space_shape r → T (access_ok r)
  unfolding access_ok
  same_access s =
      let e : big_endian space_width (number_at 0 space_width r) ++ cond (eqb kind 1) (1 ∷ big_endian process_width owner) (0 ∷ big_endian process_width 0) ≡ r = sym written ∙ s in
      let f : cond (eqb kind 1) (1 ∷ big_endian process_width owner) (0 ∷ big_endian process_width 0) ≡ kind ∷ big_endian process_width owner =
      sym (drop_at (big_endian space_width (number_at 0 space_width r)) _ space_width (big_endian_length space_width (number_at 0 space_width r))) ∙ ap (drop space_width) e ∙ after_is in
      go (eqb kind 1) refl f
    where
      go : (t : Bool) → eqb kind 1 ≡ t → cond t (1 ∷ big_endian process_width owner) (0 ∷ big_endian process_width 0) ≡ kind ∷ big_endian process_width owner → T (t || (eqb kind 0 && eqb owner 0))
      go true q f = tt
      go false q f =
          let k : 0 ≡ kind = ap (λ (l : List ℕ). get_or l 0 0) f in
          let o : number (big_endian process_width 0) ≡ number (big_endian process_width owner) = ap (λ (l : List ℕ). number (drop kind_width l)) f in
          let z : owner ≡ 0 = sym (number_big_endian process_width owner (number_at_lt space_owner_at process_width r bytes)) ∙ sym o ∙ number_big_endian process_width 0 (omega arith) in
          both (eqb kind 0) (eqb owner 0) (true_is (eqb kind 0) (eq-eqb kind 0 (sym k))) (true_is (eqb owner 0) (eq-eqb owner 0 z))

  -- a space that is read back
  pub read_small : Small (space_read r)
  unfolding space_read byte_at
  read_small = record { number = number_at_lt 0 space_width r bytes; owner = go (eqb (get_or r space_kind_at 0) 1) }
    where
      go : (t : Bool) → OwnerFits (cond t (private owner) shared)
      go true = number_at_lt space_owner_at process_width r bytes
      go false = tt

-- what was read of kind and owner of the row at index i
module _ (p : List ℕ) (n i k o : ℕ) (h : i < n) (ek : k ≡ number_at (i * space_size + space_kind_at) kind_width p) where
  abbrev row : List ℕ
  row = get_or (pieces n space_size p) i []

  kind_is_lem : k ≡ number_at space_kind_at kind_width row
  kind_is_lem = ek ∙ number_of_row n space_size p i space_kind_at kind_width h (omega arith)

  pub access_private : k ≡ 1 → true ≡ access_ok row
  unfolding access_ok
  access_private e = rw (eq-eqb (number_at space_kind_at kind_width row) 1 (sym kind_is_lem ∙ e))

  module _ (other : k ≡ 1 → ⊥) where
    pub access_odd : (k ≡ 0 → ⊥) → false ≡ access_ok row
    unfolding access_ok
    access_odd z = rw (ne_eqb (number_at space_kind_at kind_width row) 1 (λ e. other (kind_is_lem ∙ e)), ne_eqb (number_at space_kind_at kind_width row) 0 (λ e. z (kind_is_lem ∙ e)))

    pub access_shared : k ≡ 0 → o ≡ number_at (i * space_size + space_owner_at) process_width p → eqb o 0 ≡ access_ok row
    unfolding access_ok
    access_shared z eo =
        rw (ne_eqb (number_at space_kind_at kind_width row) 1 (λ e. other (kind_is_lem ∙ e)), eq-eqb (number_at space_kind_at kind_width row) 0 (sym kind_is_lem ∙ z))
        (ap (λ (x : ℕ). eqb x 0) (eo ∙ number_of_row n space_size p i space_owner_at process_width h (omega arith)))

-- ---- space 0

zero_read : (r : List ℕ) → r ≡ zeros space_size → T (zero_open (space_read r))
unfolding space_read byte_at number_at number zeros is_shared
zero_read r e = rw e tt

zero_row : (a : Space) → T (zero_open a) → pad space_size (space_bytes a) ≡ zeros space_size
unfolding is_shared space_bytes access_bytes big_endian pad zeros
zero_row a t = go a.access (and_r (eqb a.number 0) (is_shared a.access) t)
  where
    none : a.number ≡ 0
    none = eqb→eq a.number 0 (and_l (eqb a.number 0) (is_shared a.access) t)

    go : (c : Access) → T (is_shared c) → pad space_size (big_endian space_width a.number ++ access_bytes c) ≡ zeros space_size
    go shared u = rw none
    go (private owner) u = absurd u

-- where numbers rise, space 0 is the first
zero_first : (a : Space) (l : List Space) → T (pairwise lower (a ∷ l)) → T (any zero_open (a ∷ l)) → T (zero_open a)
unfolding pairwise any
zero_first a l rise t = go (or_cases (zero_open a) (any zero_open l) t)
  where
    go : T (zero_open a) ⊎ T (any zero_open l) → T (zero_open a)
    go (inl z) = z
    go (inr later) =
        let p = any_at zero_open l later in
        let none : p.item.number ≡ 0 = eqb→eq p.item.number 0 (and_l (eqb p.item.number 0) (is_shared p.item.access) p.passes) in
        let past : a.number < p.item.number = ltb→lt a.number p.item.number (all_at (lower a) l (and_l (all (lower a) l) (pairwise lower l) rise) p.item p.member) in
        absurd (omega arith)

-- ---- the tests

-- those that are made of the bytes
pub record Tests (p : List ℕ) (n next : ℕ) : Type 0 where
  pub some : 1 ≤ n
  pub above : 1 ≤ next
  pub unused : T (unused_zero space_size p n)
  pub first : T (zeros_at p 0 space_size)
  pub rising : T (ascends (number_at 0 space_width) 0 (next - 1) (pieces n space_size p))
  pub access : T (all access_ok (pieces n space_size p))

-- what is asked, one by one
record Asked (p : List ℕ) (n next : ℕ) : Type 0 where
  bytes : area spaces_size space_size space_bytes (spaces_of p n) ≡ p
  rise : T (pairwise lower (spaces_of p n))
  zero : T (any zero_open (spaces_of p n))
  below : T (all (below_next next) (spaces_of p n))

asked : (p : List ℕ) (n next : ℕ) → T (spaces_legal p n next) → Asked p n next
unfolding spaces_legal
asked p n next t = record {
  bytes = same→eq (area spaces_size space_size space_bytes (spaces_of p n)) p (search (and_l, and_r, t) depth 6);
  rise = search (and_l, and_r, t) depth 6;
  zero = search (and_l, and_r, t) depth 6;
  below = search (and_l, and_r, t) depth 6;
}

head_zero : (a : Space) (l : List Space) → T (zero_open a) → T (any zero_open (a ∷ l))
unfolding any
head_zero a l t = or_l (zero_open a) (any zero_open l) t

some_open : (p : List ℕ) (n : ℕ) → T (any zero_open (spaces_of p n)) → 1 ≤ n
unfolding any entries pieces
some_open p zero t = absurd t
some_open p (suc n) t = omega arith

first_each : (P : List ℕ → Type 0) (p : List ℕ) (n : ℕ) → 1 ≤ n → Each P (pieces n space_size p) → P (take space_size p)
unfolding pieces
first_each P p zero h each = absurd (omega arith)
first_each P p (suc n) h each = each (take space_size p) (Memᴰ.head refl)

module _ (p : List ℕ) (n next : ℕ) (bytes : T (are_bytes p)) (long : length p ≡ spaces_size) (few : n ≤ most_spaces) where
  abbrev rows : List (List ℕ)
  rows = pieces n space_size p

  abbrev ss : List Space
  ss = spaces_of p n

  room : HasRows space_size p n
  room = omega arith

  -- numbers of rows are numbers of spaces
  numbers : ascends (number_at 0 space_width) 0 (next - 1) rows ≡ ascends (λ (a : Space). a.number) 0 (next - 1) ss
  unfolding entries space_read
  numbers = sym (ascends_map (λ (a : Space). a.number) space_read 0 (next - 1) rows)

  first_row : (m : ℕ) → n ≡ suc m → (ss ≡ space_read (take space_size p) ∷ spaces_of (drop space_size p) m)
  unfolding entries pieces
  first_row m e = rw e

  shapes : Each (λ (r : List ℕ). (length r ≡ space_size) × T (are_bytes r)) rows
  shapes r m = (pieces_wide n space_size p room r m, pieces_bytes n space_size p bytes r m)

  module _ (t : Tests p n next) where
    section : Section space_size p n
    section = section_of space_size n p room t.unused

    same : Each (Same space_shape) rows
    same r m = access_same r (shapes r m).0 (shapes r m).1 (all_at access_ok rows t.access r m)

    rises : T (ascends (λ (a : Space). a.number) 0 (next - 1) ss)
    rises = rw (← numbers) t.rising

    pub tests_legal : T (spaces_legal p n next)
    unfolding spaces_legal
    tests_legal =
        let e : area spaces_size space_size space_bytes ss ≡ p = sym (area_same space_shape p n long few section same) in
        let one : T (same_bytes (area spaces_size space_size space_bytes ss) p) = rw e (true_is (same_bytes p p) (same_refl p)) in
        let two : T (pairwise lower ss) = ascends_rise (λ (a : Space). a.number) 0 (next - 1) ss rises in
        let m : n ≡ suc (n - 1) = let h = t.some in omega arith in
        let z : T (zero_open (space_read (take space_size p))) = zero_read (take space_size p) (zerosAt→zeros p 0 space_size (let h = t.some in omega arith) t.first) in
        let three : T (any zero_open ss) = rw (first_row (n - 1) m) (head_zero (space_read (take space_size p)) (spaces_of (drop space_size p) (n - 1)) z) in
        let four : T (all (below_next next) ss) = all_of (below_next next) ss (λ a i.
        let u = all_at (λ (a : Space). leb 0 a.number && leb a.number (next - 1)) ss (ascends_within (λ (a : Space). a.number) 0 (next - 1) ss rises) a i in
        let h : a.number ≤ next - 1 = leb→le a.number (next - 1) (and_r (leb 0 a.number) (leb a.number (next - 1)) u) in
        lt→ltb a.number next (let k = t.above in omega arith)) in
        search (both, one, two, three, four) depth 6

  module _ (t : T (spaces_legal p n next)) where
    abbrev a : Asked p n next
    a = asked p n next t

    found : Section space_size p n × Each (Same space_shape) rows
    found = area_of space_shape p n few (sym a.bytes)

    least : 1 ≤ n
    least = some_open p n a.zero

    lead : T (zero_open (space_read (take space_size p)))
    lead =
        let m : n ≡ suc (n - 1) = omega (arith, least) in
        let rise : T (pairwise lower (space_read (take space_size p) ∷ spaces_of (drop space_size p) (n - 1))) = rw (← first_row (n - 1) m) a.rise in
        let zero : T (any zero_open (space_read (take space_size p) ∷ spaces_of (drop space_size p) (n - 1))) = rw (← first_row (n - 1) m) a.zero in
        zero_first (space_read (take space_size p)) (spaces_of (drop space_size p) (n - 1)) rise zero

    pub legal_tests : Tests p n next
    legal_tests =
        let q = any_at zero_open ss a.zero in
        let top : q.item.number < next = ltb→lt q.item.number next (all_at (below_next next) ss a.below q.item q.member) in
        let row : take space_size p ≡ zeros space_size = sym (first_each (Same space_shape) p n least found.1) ∙ zero_row (space_read (take space_size p)) lead in
        let within : T (all (λ (a : Space). leb 0 a.number && leb a.number (next - 1)) ss) = all_of (λ (a : Space). leb 0 a.number && leb a.number (next - 1)) ss (λ b i.
        let h : b.number < next = ltb→lt b.number next (all_at (below_next next) ss a.below b i) in
        both (leb 0 b.number) (leb b.number (next - 1)) (le→leb 0 b.number (omega arith)) (le→leb b.number (next - 1) (omega arith))) in
        record {
          some = least;
          above = omega arith;
          unused = section_unused space_size n p found.0;
          first = zeros→zerosAt p 0 space_size row;
          rising = rw numbers (ascends_of (λ (a : Space). a.number) 0 (next - 1) ss within a.rise);
          access = all_of access_ok rows (λ r m. same_access r (shapes r m).0 (shapes r m).1 (found.1 r m));
        }

    -- they are listed, and rise
    pub legal_listed : IsListed p n
    legal_listed = holds_of space_shape p n long few found.0 (λ r m. (read_small r (shapes r m).0 (shapes r m).1, found.1 r m))

    pub legal_rising : Rising (spaces_of p n)
    legal_rising = a.rise

  -- what one test shows
  pub not_legal : (Tests p n next → ⊥) → false ≡ spaces_legal p n next
  not_legal h = refused (spaces_legal p n next) (λ t. h (legal_tests t))

  -- the last of them decides
  pub then_rising : 1 ≤ n → 1 ≤ next → T (unused_zero space_size p n) → T (zeros_at p 0 space_size) → T (all access_ok rows)
      → ascends (number_at 0 space_width) 0 (next - 1) rows ≡ spaces_legal p n next
  then_rising some above unused first access =
      same_test (ascends (number_at 0 space_width) 0 (next - 1) rows) (spaces_legal p n next)
      (λ u. tests_legal (record { some = some; above = above; unused = unused; first = first; rising = u; access = access }))
      (λ t. (legal_tests t).rising)
