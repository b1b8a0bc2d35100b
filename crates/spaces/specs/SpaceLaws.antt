-- The laws of the open spaces. Assumes nothing.
use Rattle.std.specs.Prelude.{◌≡◌, refl, ℕ, suc, ◌+◌, ◌*◌, ◌≤◌, ◌<◌, Bool, true, false, not, cond, ◌&&◌, ◌||◌, List, [], ◌∷◌, ◌++◌, length, take, drop, T, eqb, ltb}
use Rattle.std.proofs.Math.Path.{sym, ap}
use Rattle.std.proofs.Common.{◌∙◌, arith, get_or-drop, ltb→lt}
use Rattle.std.proofs.Math.ListN.{get_or}
use Rattle.std.proofs.Math.Seq.{get_or-take}
use borrow.Author.Tests.{eqb-true, eq-eqb, ne_eqb, ltb-true, ltb-false}
use Rattle.basis.specs.Logic.{and_l, and_r}
use Rattle.basis.specs.Lists.{all, any, pairwise, zeros}
use Rattle.basis.specs.Numbers.{big_endian, number_at}
use Rattle.basis.specs.NumberLaws.{big_endian_length, number_big_endian}
use Rattle.basis.specs.PadLaws.{number_at_pad}
use Rattle.basis.specs.Sizes.{space_width, kind_width, process_width, processes, space_numbers, space_kind_at, space_owner_at, space_size}
use Rattle.model.specs.Run.{Access, shared, private, Space, is_open, denied_to, is_denied}
use Rattle.layout.specs.States.{access_bytes, space_bytes, byte_at, space_read}
use Rattle.words.specs.Over.{over}
use Rattle.words.specs.WordLaws.{number_at_1}
use Rattle.std.proofs.Math.Option.{none, some, some-injective, none-ne-some}
use Rattle.std.specs.Prelude as code
use Rattle.std.specs.Prelude.{None, Some}
use Rattle.std.specs.Option as code_option
use Rattle.basis.specs.Choice.{is_some, provided, given}
use Rattle.sections.specs.Rows.{has, lacks, index_of, first_place, HasRows}
use Rattle.sections.specs.RowLaws.{number_in_lem}
use Rattle.sections.specs.Loops.{first_any, first_found}
use Rattle.sections.specs.Shapes.{entry, item_at, items_length}
use Rattle.spaces.specs.Spaces.{Small, space_shape, spaces_of, Rising, numbered, place_of, other_than, opening, no_space}

-- ---- the number of a row

number_of_lem : (a : Space) → Small a → number_at 0 space_width (entry space_shape a) ≡ a.number
unfolding space_bytes
number_of_lem a l =
    number_at_pad space_size 0 space_width [] (big_endian space_width a.number) (access_bytes a.access) refl (big_endian_length space_width a.number) (omega arith)
    ∙ number_big_endian space_width a.number l.number

pub has_number : (m : ℕ) (a : Space) → Small a → has 0 space_width m (entry space_shape a) ≡ numbered m a
has_number m a l = ap (λ (k : ℕ). eqb k m) (number_of_lem a l)

pub lacks_number : (m : ℕ) (a : Space) → Small a → lacks 0 space_width m (entry space_shape a) ≡ other_than m a
lacks_number m a l = ap not (has_number m a l)

-- ---- the first of a number

-- it is there exactly if the space is open
place_is : (m : ℕ) (ss : List Space) → is_some (place_of m ss) ≡ is_open ss m
unfolding place_of is_open
place_is m ss = first_any (numbered m) ss

pub open_is : (m : ℕ) (ss : List Space) (o : code.Option ℕ) (r : Bool) → given o ≡ place_of m ss → r ≡ code_option.is_some o → r ≡ is_open ss m
unfolding place_of is_open
open_is m ss o r e f = first_found (numbered m) ss o r e f

-- and where it is
module _ (m : ℕ) (ss : List Space) where
  place_some : (i : ℕ) → some i ≡ place_of m ss → (i ≡ index_of (numbered m) ss) × (i < length ss)
  unfolding place_of first_place provided
  place_some i e = go (ltb (index_of (numbered m) ss) (length ss)) refl e
    where
      go : (t : Bool) → ltb (index_of (numbered m) ss) (length ss) ≡ t → some i ≡ provided t (index_of (numbered m) ss) → (i ≡ index_of (numbered m) ss) × (i < length ss)
      go true q f = let k = some-injective i (index_of (numbered m) ss) f in (k, rw k (ltb-true (index_of (numbered m) ss) (length ss) q))
      go false q f = absurd (none-ne-some i (sym f))

  place_none : none ≡ place_of m ss → length ss ≤ index_of (numbered m) ss
  unfolding place_of first_place provided
  place_none e = go (ltb (index_of (numbered m) ss) (length ss)) refl e
    where
      go : (t : Bool) → ltb (index_of (numbered m) ss) (length ss) ≡ t → none ≡ provided t (index_of (numbered m) ss) → length ss ≤ index_of (numbered m) ss
      go true q f = absurd (none-ne-some (index_of (numbered m) ss) f)
      go false q f = ltb-false (index_of (numbered m) ss) (length ss) q

-- a number that all pass stands nowhere among them
none_denied : (p m : ℕ) (ss : List Space) → T (all (λ b. ltb m b.number) ss) → is_denied ss p m ≡ false
unfolding is_denied any all
none_denied p m [] t = refl
none_denied p m (a ∷ ss) t =
    let up : m < a.number = ltb→lt m a.number (and_l (ltb m a.number) (all (λ b. ltb m b.number) ss) t) in
    rw (ne_eqb a.number m (λ e. omega arith)) (none_denied p m ss (and_r (ltb m a.number) (all (λ b. ltb m b.number) ss) t))

-- where numbers rise, the first of a number is the only one
pub denied_at : (p m : ℕ) (ss : List Space) → Rising ss → index_of (numbered m) ss < length ss → is_denied ss p m ≡ denied_to p (get_or ss (index_of (numbered m) ss) no_space).access
unfolding is_denied any index_of pairwise
denied_at p m [] r h = absurd (omega arith)
denied_at p m (a ∷ ss) r h =
    let later : Rising ss = and_r (all (λ b. ltb a.number b.number) ss) (pairwise (λ a b. ltb a.number b.number) ss) r in
    let past : T (all (λ b. ltb a.number b.number) ss) = and_l (all (λ b. ltb a.number b.number) ss) (pairwise (λ a b. ltb a.number b.number) ss) r in
    go (eqb a.number m) refl h past (denied_at p m ss later)
  where
    or-false : (b : Bool) → (b || false) ≡ b
    or-false true = refl
    or-false false = refl

    go : (t : Bool) → eqb a.number m ≡ t → cond t 0 (suc (index_of (numbered m) ss)) < suc (length ss) → T (all (λ b. ltb a.number b.number) ss)
        → (index_of (numbered m) ss < length ss → is_denied ss p m ≡ denied_to p (get_or ss (index_of (numbered m) ss) no_space).access)
        → ((t && denied_to p a.access) || is_denied ss p m) ≡ denied_to p (get_or (a ∷ ss) (cond t 0 (suc (index_of (numbered m) ss))) no_space).access
    go true q h past later = rw (none_denied p m ss (rw (eqb-true a.number m q) at past)) (or-false (denied_to p a.access))
    go false q h past later = later (omega arith)

pub denied_none : (p m : ℕ) (ss : List Space) → length ss ≤ index_of (numbered m) ss → is_denied ss p m ≡ false
unfolding is_denied any index_of
denied_none p m [] h = refl
denied_none p m (a ∷ ss) h = go (eqb a.number m) h (denied_none p m ss)
  where
    go : (t : Bool) → suc (length ss) ≤ cond t 0 (suc (index_of (numbered m) ss)) → (length ss ≤ index_of (numbered m) ss → is_denied ss p m ≡ false) → ((t && denied_to p a.access) || is_denied ss p m) ≡ false
    go true h later = absurd (omega arith)
    go false h later = later (omega arith)

-- ---- what the code's answers come to

module _ (p : List ℕ) (n m q : ℕ) where
  abbrev ss : List Space
  ss = spaces_of p n

  module _ (e : none ≡ place_of m ss) where
    pub absent : false ≡ is_denied ss q m
    absent = sym (denied_none q m ss (place_none m ss e))

    pub shut : false ≡ (is_open ss m && not (is_denied ss q m))
    unfolding is_some
    shut = rw (← place_is m ss, ← e)

  module _ (r : ℕ) (e : some r ≡ place_of m ss) where
    pub within : r < n
    within = omega (arith, (place_some m ss r e).1, items_length space_shape p n)

    module _ (t : Bool) (rise : Rising ss) (y : t ≡ denied_to q (get_or ss r no_space).access) where
      pub present : t ≡ is_denied ss q m
      present =
          let k = place_some m ss r e in
          y ∙ (ap (λ (i : ℕ). denied_to q (get_or ss i no_space).access) k.0 ∙ sym (denied_at q m ss rise (rw k.0 at k.1)))

      pub let_in : not t ≡ (is_open ss m && not (is_denied ss q m))
      unfolding is_some
      let_in = rw (← place_is m ss, ← e, ← present)

-- ---- kind and owner of a row

module _ (p : List ℕ) (n i : ℕ) (room : HasRows space_size p n) (below : i < n) where
  abbrev at : ℕ
  at = i * space_size

  access_at : (get_or (spaces_of p n) i no_space).access ≡ cond (eqb (number_at (at + space_kind_at) kind_width p) 1) (private (number_at (at + space_owner_at) process_width p)) shared
  unfolding space_read byte_at
  access_at =
      let kind : get_or (take space_size (drop at p)) space_kind_at 0 ≡ number_at (at + space_kind_at) kind_width p =
      get_or-take space_size (drop at p) space_kind_at 0 (omega arith) ∙ (get_or-drop at p space_kind_at 0 ∙ sym (number_at_1 (at + space_kind_at) p (omega arith))) in
      let owner : number_at space_owner_at process_width (take space_size (drop at p)) ≡ number_at (at + space_owner_at) process_width p = number_in_lem at space_size space_owner_at process_width p (omega arith) in
      ap (λ (a : Space). a.access) (item_at space_shape p n no_space i below) ∙ rw (kind, owner)

  pub open_to_all : (k q : ℕ) → k ≡ number_at (at + space_kind_at) kind_width p → (k ≡ 1 → ⊥) → false ≡ denied_to q (get_or (spaces_of p n) i no_space).access
  unfolding denied_to
  open_to_all k q e h = rw (access_at, ne_eqb (number_at (at + space_kind_at) kind_width p) 1 (λ z. h (e ∙ z)))

  pub open_to_one : (k o q : ℕ) → k ≡ number_at (at + space_kind_at) kind_width p → o ≡ number_at (at + space_owner_at) process_width p → k ≡ 1 → not (eqb o q) ≡ denied_to q (get_or (spaces_of p n) i no_space).access
  unfolding denied_to
  open_to_one k o q e f h = rw (access_at, eq-eqb (number_at (at + space_kind_at) kind_width p) 1 (sym e ∙ h), f)

-- ---- a row written

space_wide : (a : Space) → length (space_bytes a) ≡ space_size
unfolding space_bytes access_bytes big_endian
space_wide a = go a.access
  where
    go : (c : Access) → length (big_endian space_width a.number ++ access_bytes c) ≡ space_size
    go shared = refl
    go (private p) = refl

pub row_fits : (d : List ℕ) (a : Space) → d ≡ space_bytes a → length d ≤ space_size
row_fits d a e = omega (arith, ap length e, space_wide a)

module _ (d₀ d₁ : List ℕ) (number process : ℕ) (t : Bool) (none : d₀ ≡ zeros space_size) (one : d₁ ≡ over d₀ 0 (big_endian space_width number) space_width) where
  pub row_shared : t ≡ false → d₁ ≡ space_bytes (opening number process t)
  unfolding over zeros big_endian space_bytes access_bytes
  row_shared e = one ∙ rw (none, e)

  pub row_private : (d₂ d₃ : List ℕ) → d₂ ≡ over d₁ space_kind_at (big_endian kind_width 1) kind_width → d₃ ≡ over d₂ space_owner_at (big_endian process_width process) process_width → t ≡ true → d₃ ≡ space_bytes (opening number process t)
  unfolding over zeros big_endian space_bytes access_bytes
  row_private d₂ d₃ two three e = three ∙ rw (two, one, none, e)

pub opening_small : (number process : ℕ) (t : Bool) → number < space_numbers → process < processes → Small (opening number process t)
opening_small number process true h k = record { number = h; owner = k }
opening_small number process false h k = record { number = h; owner = tt }
