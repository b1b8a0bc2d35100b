-- Where a space stands among spaces whose numbers rise. Assumes nothing.
use Rattle.std.proofs.Math.Path.{◌≡◌, refl}
use Rattle.std.proofs.Common.{sym, ap, ◌∙◌, arith, inl, inr, ltb→lt}
use Rattle.std.specs.Prelude.{ℕ, zero, suc, ◌+◌, ◌-◌, ◌*◌, ◌/◌, ◌≤◌, ◌<◌, List, [], ◌∷◌, ◌⊎◌, length, get_or, Bool, ◌&&◌}
use Rattle.std.proofs.Math.Dec.{leb, ltb, eqb}
use borrow.Author.Tests.{eq-eqb, ne_eqb, eqb-true, eqb-false, ltb-true, ltb-false, leb-true, leb-false, lt-ltb, le-ltb}
use Rattle.std.proofs.Math.Bool.{true, false}
use Rattle.basis.specs.Logic.{and_l, and_r}
use Rattle.basis.specs.Lists.{all, pairwise}
use Rattle.basis.specs.ListLaws.{all_at}
use Rattle.basis.specs.Numbers.{number_at}
use Rattle.basis.specs.Sizes.{space_width, space_size, most_spaces}
use Rattle.model.specs.Run.{Space}
use Rattle.layout.specs.States.{space_read}
use Rattle.std.proofs.Math.Option.{some, none}
use Rattle.std.specs.Prelude as code
use Rattle.std.specs.Bool.{then_some}
use Rattle.basis.specs.Choice.{given}
use Rattle.sections.specs.Rows.{index_of}
use Rattle.sections.specs.Loops.{first_some, first_none}
use Rattle.sections.specs.RowLaws.{number_in_lem}
use Rattle.sections.specs.Shapes.{get_d_member, item_at, items_length}
use Rattle.spaces.specs.Spaces.{space_shape, spaces_of, Rising, numbered, place_of, no_space}
use Rattle.spaces.specs.Legal.{lower}

-- the number of the space at an index
abbrev pub number_in : List Space → ℕ → ℕ
number_in ss i = (get_or ss i no_space).number

pub number_at_lem : (p : List ℕ) (n i x : ℕ) → i < n → x ≡ number_at (i * space_size) space_width p → x ≡ number_in (spaces_of p n) i
unfolding space_read
number_at_lem p n i x h e =
    let at : i * space_size ≡ i * space_size + 0 = omega arith in
    e ∙ ap (λ (k : ℕ). number_at k space_width p) at ∙ sym (ap (λ (a : Space). a.number) (item_at space_shape p n no_space i h) ∙ number_in_lem (i * space_size) space_size 0 space_width p (omega arith))

rising_at : (ss : List Space) (i j : ℕ) → Rising ss → i < j → j < length ss → number_in ss i < number_in ss j
unfolding pairwise
rising_at [] i j r h k = absurd (omega arith)
rising_at (a ∷ ss) i zero r h k = absurd (omega arith)
rising_at (a ∷ ss) zero (suc j) r h k = ltb→lt a.number (number_in ss j) (all_at (lower a) ss (and_l (all (lower a) ss) (pairwise lower ss) r) (get_or ss j no_space) (get_d_member ss no_space j (omega arith)))
rising_at (a ∷ ss) (suc i) (suc j) r h k = rising_at ss i j (and_r (all (lower a) ss) (pairwise lower ss) r) (omega arith) (omega arith)

-- the one of a number is the only one
index_here : (ss : List Space) (i m : ℕ) → Rising ss → i < length ss → number_in ss i ≡ m → i ≡ index_of (numbered m) ss
unfolding index_of pairwise
index_here [] i m r h e = absurd (omega arith)
index_here (a ∷ ss) zero m r h e = rw (eq-eqb a.number m e)
index_here (a ∷ ss) (suc i) m r h e =
    let past : a.number < number_in ss i = rising_at (a ∷ ss) 0 (suc i) r (omega arith) h in
    rw (ne_eqb a.number m (λ q. omega arith)) (ap suc (index_here ss i m (and_r (all (lower a) ss) (pairwise lower ss) r) (omega arith) e))

index_nowhere : (ss : List Space) (m : ℕ) → ((j : ℕ) → j < length ss → number_in ss j ≡ m → ⊥) → length ss ≡ index_of (numbered m) ss
unfolding index_of
index_nowhere [] m h = refl
index_nowhere (a ∷ ss) m h = rw (ne_eqb a.number m (h 0 (omega arith))) (ap suc (index_nowhere ss m (λ j k. h (suc j) (omega arith))))

-- ---- the search

apart : (i j : ℕ) → (j ≤ i) ⊎ (i < j)
apart i j = go (ltb i j) refl
  where
    go : (t : Bool) → ltb i j ≡ t → (j ≤ i) ⊎ (i < j)
    go true q = inr (ltb-true i j q)
    go false q = inl (ltb-false i j q)

-- the number that is sought stands, if at all, in the `left` entries from index low on, as far as there are so many
pub record Among (p : List ℕ) (n m low left : ℕ) : Type 0 where
  pub room : low + left ≤ most_spaces
  pub some : 0 < n → low < n
  pub above : (j : ℕ) → low + left ≤ j → j < n → m < number_in (spaces_of p n) j
  pub below : 0 < low → number_in (spaces_of p n) low ≤ m

pub among_all : (p : List ℕ) (n m left : ℕ) → n ≤ left → left ≤ most_spaces → Among p n m 0 left
among_all p n m left all few = record { room = omega arith; some = λ h. h; above = λ j k l. absurd (omega arith); below = λ h. absurd (omega arith) }

-- there is a space at an index, whose number is not above m
unfoldable pub reached : (ss : List Space) (n m i : ℕ) → Bool
reached ss n m i = ltb i n && leb (number_in ss i) m

module _ (ss : List Space) (n m i : ℕ) where
  pub reach_past : n ≤ i → false ≡ reached ss n m i
  unfolding reached
  reach_past h = rw (le-ltb i n h)

  pub reach_number : (x : ℕ) → x ≡ number_in ss i → i < n → leb x m ≡ reached ss n m i
  unfolding reached
  reach_number x e h = rw (lt-ltb i n h, e)

  pub reach_yes : reached ss n m i ≡ true → (i < n) × (number_in ss i ≤ m)
  unfolding reached
  reach_yes y = go (ltb i n) (leb (number_in ss i) m) refl refl y
    where
      go : (a b : Bool) → ltb i n ≡ a → leb (number_in ss i) m ≡ b → (a && b) ≡ true → (i < n) × (number_in ss i ≤ m)
      go true true p q z = (ltb-true i n p, leb-true (number_in ss i) m q)
      go true false p q z = let o : ◌≡◌ {A = ℕ} 0 1 = cc in absurd (omega arith)
      go false b p q z = let o : ◌≡◌ {A = ℕ} 0 1 = cc in absurd (omega arith)

  pub reach_no : reached ss n m i ≡ false → i < n → m < number_in ss i
  reach_no e h = leb-false (number_in ss i) m (reach_number (number_in ss i) refl h ∙ e)

module _ (p : List ℕ) (n m : ℕ) (rise : Rising (spaces_of p n)) where
  abbrev ss : List Space
  ss = spaces_of p n

  count : length ss ≡ n
  count = items_length space_shape p n

  -- an entry of the number
  place_here : (i : ℕ) → i < n → number_in ss i ≡ m → i ≡ index_of (numbered m) ss
  place_here i h e = index_here ss i m rise (omega (arith, count)) e

  module _ (low left half : ℕ) (a : Among p n m low left) (much : 1 < left) (is : half ≡ left / 2) where
    pub among_high : (low + half < n) × (number_in ss (low + half) ≤ m) → Among p n m (low + half) (left - half)
    among_high h =
        let room = a.room in
        let same : low + half + (left - half) ≡ low + left = omega arith in
        record { room = omega arith; some = λ k. h.0; above = λ j k l. a.above j (omega arith) l; below = λ k. h.1 }

    pub among_low : (low + half < n → m < number_in ss (low + half)) → Among p n m low (left - half)
    among_low h =
        let room = a.room in
        record { room = omega arith; some = a.some; above = λ j k l. go j k l (apart (low + half) j); below = a.below }
      where
        go : (j : ℕ) → low + (left - half) ≤ j → j < n → (j ≤ low + half) ⊎ (low + half < j) → m < number_in ss j
        go j k l (inl q) = let z : low + half ≡ j = omega arith in rw (← z) (h (omega arith))
        go j k l (inr q) = omega (arith, h (omega arith), rising_at ss (low + half) j rise q (omega (arith, count)))

  -- of one entry that is left, it is this one or none
  among_other : (low left : ℕ) → Among p n m low left → left ≤ 1 → low < n → (number_in ss low ≡ m → ⊥) → n ≡ index_of (numbered m) ss
  among_other low left a few h other = sym count ∙ index_nowhere ss m (λ j k. go j (omega (arith, count)) (apart j low) (apart low j))
    where
      go : (j : ℕ) → j < n → (low ≤ j) ⊎ (j < low) → (j ≤ low) ⊎ (low < j) → number_in ss j ≡ m → ⊥
      go j l (inr q) w z = omega (arith, rising_at ss j low rise q (omega (arith, count)), a.below (omega arith))
      go j l (inl q) (inl w) z = let same : low ≡ j = omega arith in other (rw same z)
      go j l (inl q) (inr w) z = omega (arith, a.above j (omega arith) l)

  among_none : (low left : ℕ) → Among p n m low left → n ≤ low → n ≡ index_of (numbered m) ss
  among_none low left a h = sym count ∙ index_nowhere ss m (λ j k q. omega (arith, count, a.some (omega (arith, count))))

  place_some : (i : ℕ) → i < n → number_in ss i ≡ m → some i ≡ place_of m ss
  unfolding place_of
  place_some i h e = first_some (numbered m) ss i (place_here i h e) (omega (arith, count))

  place_none : n ≡ index_of (numbered m) ss → none ≡ place_of m ss
  unfolding place_of
  place_none e = first_none (numbered m) ss (count ∙ e)

  -- what the code gives: none is left,
  pub none_left : (low left : ℕ) → Among p n m low left → n ≤ low → none ≡ place_of m ss
  none_left low left a h = place_none (among_none low left a h)

  -- or one
  pub one_left : (low left x : ℕ) (o : code.Option ℕ) → Among p n m low left → left ≤ 1 → low < n → x ≡ number_in ss low → o ≡ then_some (eqb x m) low → given o ≡ place_of m ss
  one_left low left x o a few h is e = go (eqb x m) refl (ap given e)
    where
      go : (t : Bool) → eqb x m ≡ t → given o ≡ given (then_some t low) → given o ≡ place_of m ss
      go true q f = f ∙ place_some low h (sym is ∙ eqb-true x m q)
      go false q f = f ∙ place_none (among_other low left a few h (λ z. eqb-false x m q (is ∙ z)))
