-- The tests of rows: one of each row, numbers that rise within limits, and numbers that differ; of the items that rows say, too. Assumes nothing.
use Rattle.std.specs.Prelude.{◌≡◌, refl, true, false, not, ◌&&◌, ◌||◌, length, drop, get_or, ltb, eqb}
use Rattle.std.proofs.Math.Path.{sym}
use Rattle.std.proofs.Common.{ap, ◌∙◌, arith, true≢false, le→leb}
use Prim.Native.Nat.{ℕ, suc, ◌+◌, ◌*◌, ◌≤◌, ◌<◌}
use Rattle.std.proofs.Math.Numerals.{add-one}
use Rattle.std.proofs.Math.Bool.{Bool}
use mathlib.Core.List.Memᴰ
use mathlib.Core.List.{List, [], ◌∷◌, map}
use Rattle.std.proofs.Math.Dec.{T, leb, leb→le, ltb→lt, lt→ltb}
use borrow.Author.Tests.{eq-eqb, ne_eqb, le-leb}
use Rattle.basis.specs.Logic.{and_l, and_r, both}
use Rattle.basis.specs.Lists.{all, any, pairwise, pieces}
use Rattle.basis.specs.ListLaws.{Each, all_at, all_of}
use Rattle.basis.specs.RestLaws.{Passed, passed_none, passed_here, passed_more, passed_all}
use Rattle.basis.specs.Numbers.{number_at}
use Rattle.words.specs.ZeroLaws.{and_assoc}
use Rattle.sections.specs.RowLaws.{number_of_row}

-- ---- tests

-- one that does not hold
pub refused : (t : Bool) → (T t → ⊥) → false ≡ t
refused true h = absurd (h tt)
refused false h = refl

-- one that holds and does not
pub clash : (t r : Bool) → T t → r ≡ t → r ≡ false → ⊥
clash true r h e f = true≢false (sym e ∙ f)
clash false r h e f = h

-- ---- definitions

-- the numbers rise, none below low, none above most
unfoldable pub ascends : {A : Type 0} → (A → ℕ) → (low most : ℕ) → List A → Bool
ascends f low most [] = true
ascends f low most (a ∷ l) = leb low (f a) && (leb (f a) most && ascends f (suc (f a)) most l)

-- two rows have other numbers of w bytes from at on
abbrev pub differ : (at w : ℕ) → List ℕ → List ℕ → Bool
differ at w r s = not (eqb (number_at at w r) (number_at at w s))

-- ---- numbers that rise

module _ {A : Type 0} (f : A → ℕ) where
  abbrev pub Within : (low most : ℕ) → A → Bool
  Within low most a = leb low (f a) && leb (f a) most

  abbrev pub Below : A → A → Bool
  Below a b = ltb (f a) (f b)

  ascends_lower : (low high most : ℕ) (l : List A) → low ≤ high → T (ascends f high most l) → T (ascends f low most l)
  unfolding ascends
  ascends_lower low high most [] h t = tt
  ascends_lower low high most (a ∷ l) h t =
      let rest : Bool = leb (f a) most && ascends f (suc (f a)) most l in
      let up : high ≤ f a = leb→le high (f a) (and_l (leb high (f a)) rest t) in
      both (leb low (f a)) rest (le→leb low (f a) (omega arith)) (and_r (leb high (f a)) rest t)

  -- they lie within the limits
  pub ascends_within : (low most : ℕ) (l : List A) → T (ascends f low most l) → T (all (Within low most) l)
  unfolding ascends all
  ascends_within low most [] t = tt
  ascends_within low most (a ∷ l) t =
      let later : Bool = ascends f (suc (f a)) most l in
      let up : T (leb low (f a)) = and_l (leb low (f a)) (leb (f a) most && later) t in
      let rest : T (leb (f a) most && later) = and_r (leb low (f a)) (leb (f a) most && later) t in
      let least : low ≤ f a = leb→le low (f a) up in
      both (Within low most a) (all (Within low most) l) (both (leb low (f a)) (leb (f a) most) up (and_l (leb (f a) most) later rest))
      (ascends_within low most l (ascends_lower low (suc (f a)) most l (omega arith) (and_r (leb (f a) most) later rest)))

  -- each is below every later one
  pub ascends_rise : (low most : ℕ) (l : List A) → T (ascends f low most l) → T (pairwise Below l)
  unfolding ascends pairwise
  ascends_rise low most [] t = tt
  ascends_rise low most (a ∷ l) t =
      let later : T (ascends f (suc (f a)) most l) = and_r (leb (f a) most) (ascends f (suc (f a)) most l) (and_r (leb low (f a)) (leb (f a) most && ascends f (suc (f a)) most l) t) in
      let past : Each (λ (b : A). T (Within (suc (f a)) most b)) l = all_at (Within (suc (f a)) most) l (ascends_within (suc (f a)) most l later) in
      both (all (Below a) l) (pairwise Below l)
      (all_of (Below a) l (λ b m. let h : suc (f a) ≤ f b = leb→le (suc (f a)) (f b) (and_l (leb (suc (f a)) (f b)) (leb (f b) most) (past b m)) in lt→ltb (f a) (f b) (omega arith)))
      (ascends_rise (suc (f a)) most l later)

  -- and only then
  pub ascends_of : (low most : ℕ) (l : List A) → T (all (Within low most) l) → T (pairwise Below l) → T (ascends f low most l)
  unfolding ascends all pairwise
  ascends_of low most [] t r = tt
  ascends_of low most (a ∷ l) t r =
      let one : T (Within low most a) = and_l (Within low most a) (all (Within low most) l) t in
      let past : Each (λ (b : A). T (Below a b)) l = all_at (Below a) l (and_l (all (Below a) l) (pairwise Below l) r) in
      let those : Each (λ (b : A). T (Within low most b)) l = all_at (Within low most) l (and_r (Within low most a) (all (Within low most) l) t) in
      let later : T (all (Within (suc (f a)) most) l) = all_of (Within (suc (f a)) most) l (λ b m.
      let h : f a < f b = ltb→lt (f a) (f b) (past b m) in
      both (leb (suc (f a)) (f b)) (leb (f b) most) (le→leb (suc (f a)) (f b) (omega arith)) (and_r (leb low (f b)) (leb (f b) most) (those b m))) in
      both (leb low (f a)) (leb (f a) most && ascends f (suc (f a)) most l) (and_l (leb low (f a)) (leb (f a) most) one)
      (both (leb (f a) most) (ascends f (suc (f a)) most l) (and_r (leb low (f a)) (leb (f a) most) one)
      (ascends_of (suc (f a)) most l later (and_r (all (Below a) l) (pairwise Below l) r)))

  -- ---- as a loop finds it

  -- what stands before index i has passed, and low is the least number that may follow
  abbrev pub Climbing : (least most : ℕ) → List A → (low i : ℕ) → Type 0
  Climbing least most l low i = Passed (ascends f least most l) (ascends f low most) l i

  module _ (least most : ℕ) (l : List A) where
    pub climb_start : Climbing least most l least 0
    climb_start = passed_none refl

    module _ (none : A) (low i : ℕ) (e : Climbing least most l low i) where
      -- what is left begins with the one at index i
      next : i < length l → ascends f least most l ≡ (leb low (f (get_or l i none)) && (leb (f (get_or l i none)) most && ascends f (suc (f (get_or l i none))) most (drop (i + 1) l)))
      unfolding ascends
      next h = passed_here e none h

      -- the number that was read is its
      module _ (x : ℕ) (h : i < length l) (q : x ≡ f (get_or l i none)) where
        pub climb_out : (leb low x && leb x most) ≡ false → false ≡ ascends f least most l
        climb_out o = sym (next h ∙ rw (← q) (sym (and_assoc (leb low x) (leb x most) _) ∙ ap (λ (b : Bool). b && ascends f (suc x) most (drop (i + 1) l)) o))

        pub climb_more : low ≤ x → x ≤ most → Climbing least most l (x + 1) (i + 1)
        unfolding ascends
        climb_more b a = passed_more e none (ascends f (x + 1) most) h (rw (← q, le-leb low x b, le-leb x most a, add-one x))

      pub climb_end : length l ≤ i → true ≡ ascends f least most l
      unfolding ascends
      climb_end h = sym (passed_all e h)

-- ---- a test of each, as a loop makes it

-- from index k on, what stands before index i has passed
abbrev pub Passing : {A : Type 0} → (A → Bool) → List A → (k i : ℕ) → Type 0
Passing t l k i = Passed (all t (drop k l)) (all t) l i

module _ {A : Type 0} (t : A → Bool) (l : List A) (k : ℕ) where
  pub pass_start : k ≤ length l → Passing t l k k
  pass_start h = record { within = h; rest = refl }

  module _ (none : A) (i : ℕ) (e : Passing t l k i) where
    pub pass_more : i < length l → t (get_or l i none) ≡ true → Passing t l k (i + 1)
    unfolding all
    pass_more h y = passed_more e none (all t) h (rw y)

    pub pass_no : i < length l → t (get_or l i none) ≡ false → false ≡ all t (drop k l)
    unfolding all
    pass_no h y = sym (passed_here e none h ∙ rw y)

    pub pass_end : length l ≤ i → true ≡ all t (drop k l)
    unfolding all
    pass_end h = sym (passed_all e h)

-- ---- a test of each two, as a loop makes it

-- what the numbers that were read of two rows say
module _ (n size : ℕ) (p : List ℕ) (i j at w x y : ℕ) (hi : i < n) (hj : j < n) (h : at + w ≤ size) (ex : x ≡ number_at (i * size + at) w p) (ey : y ≡ number_at (j * size + at) w p) where
  abbrev rows : List (List ℕ)
  rows = pieces n size p

  xs : x ≡ number_at at w (get_or rows i [])
  xs = ex ∙ number_of_row n size p i at w hi h

  ys : y ≡ number_at at w (get_or rows j [])
  ys = ey ∙ number_of_row n size p j at w hj h

  pub rows_alike : y ≡ x → differ at w (get_or rows i []) (get_or rows j []) ≡ false
  rows_alike e = rw (eq-eqb (number_at at w (get_or rows i [])) (number_at at w (get_or rows j [])) (sym xs ∙ (sym e ∙ ys)))

  pub rows_apart : (y ≡ x → ⊥) → differ at w (get_or rows i []) (get_or rows j []) ≡ true
  rows_apart f = rw (ne_eqb (number_at at w (get_or rows i [])) (number_at at w (get_or rows j [])) (λ e. f (ys ∙ (sym e ∙ sym xs))))

abbrev pub Apart : {A : Type 0} → (A → A → Bool) → List A → ℕ → Type 0
Apart r l i = Passed (pairwise r l) (pairwise r) l i

module _ {A : Type 0} (r : A → A → Bool) (l : List A) where
  pub apart_start : Apart r l 0
  apart_start = passed_none refl

  module _ (none : A) (i : ℕ) (e : Apart r l i) where
    pub apart_more : i < length l → all (r (get_or l i none)) (drop (i + 1) l) ≡ true → Apart r l (i + 1)
    unfolding pairwise
    apart_more h y = passed_more e none (pairwise r) h (rw y)

    pub apart_no : i < length l → all (r (get_or l i none)) (drop (i + 1) l) ≡ false → false ≡ pairwise r l
    unfolding pairwise
    apart_no h y = sym (passed_here e none h ∙ rw y)

    pub apart_end : length l ≤ i → true ≡ pairwise r l
    unfolding pairwise
    apart_end h = sym (passed_all e h)

-- ---- rows, and what they say

pub all_map : {A B : Type 0} (p : B → Bool) (f : A → B) (l : List A) → all p (map f l) ≡ all (λ a. p (f a)) l
unfolding all
all_map p f [] = refl
all_map p f (a ∷ l) = ap (λ (b : Bool). p (f a) && b) (all_map p f l)

pub any_map : {A B : Type 0} (p : B → Bool) (f : A → B) (l : List A) → any p (map f l) ≡ any (λ a. p (f a)) l
unfolding any
any_map p f [] = refl
any_map p f (a ∷ l) = ap (λ (b : Bool). p (f a) || b) (any_map p f l)

pub ascends_map : {A B : Type 0} (f : B → ℕ) (g : A → B) (low most : ℕ) (l : List A) → ascends f low most (map g l) ≡ ascends (λ a. f (g a)) low most l
unfolding ascends
ascends_map f g low most [] = refl
ascends_map f g low most (a ∷ l) = ap (λ (b : Bool). leb low (f (g a)) && (leb (f (g a)) most && b)) (ascends_map f g (suc (f (g a))) most l)

-- two tests that agree on each
pub all_same : {A : Type 0} (p q : A → Bool) (l : List A) → Each (λ (a : A). p a ≡ q a) l → all p l ≡ all q l
unfolding all
all_same p q [] h = refl
all_same p q (a ∷ l) h = rw (h a (Memᴰ.head refl), all_same p q l (λ c m. h c (Memᴰ.tail m)))

-- a test of two numbers, of rows and of what they are the rows of
pub pairwise_map : {A B : Type 0} (r : ℕ → ℕ → Bool) (f : B → ℕ) (h : A → ℕ) (g : A → B) (l : List A) → Each (λ (a : A). f (g a) ≡ h a) l
    → pairwise (λ a b. r (f a) (f b)) (map g l) ≡ pairwise (λ a b. r (h a) (h b)) l
unfolding pairwise
pairwise_map r f h g [] e = refl
pairwise_map {A} {B} r f h g (a ∷ l) e =
    let one : f (g a) ≡ h a = e a (Memᴰ.head refl) in
    let later : Each (λ (b : A). f (g b) ≡ h b) l = λ b m. e b (Memᴰ.tail m) in
    let first : all (λ b. r (f (g a)) (f b)) (map g l) ≡ all (λ b. r (h a) (h b)) l =
    all_map (λ b. r (f (g a)) (f b)) g l ∙ all_same (λ b. r (f (g a)) (f (g b))) (λ b. r (h a) (h b)) l (λ b m. rw (one, later b m)) in
    rw (first, pairwise_map r f h g l later)
