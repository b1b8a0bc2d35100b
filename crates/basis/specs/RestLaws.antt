-- A list passed one by one: what is said of all of it is said of the rest. Assumes nothing.
use Rattle.std.specs.Prelude.{◌≡◌, ℕ, ◌+◌, ◌≤◌, ◌<◌, Bool, true, false, List, [], ◌∷◌, length, drop, get_or}
use Rattle.std.proofs.Math.Path.{sym}
use Rattle.std.proofs.Common.{ap, ◌∙◌, arith, drop_of_length-le, drop-cons}
use Rattle.std.proofs.Math.Numerals.{add-one}
use Rattle.std.proofs.Math.Option.{Option, none, some}
use Rattle.basis.specs.Lists.{any, Found, first_from}

-- what stands before index i of l is passed: x is what g says of the rest
pub record Passed {A B : Type 0} (x : B) (g : List A → B) (l : List A) (i : ℕ) : Type 0 where
  pub within : i ≤ length l
  pub rest : x ≡ g (drop i l)

module _ {A B : Type 0} {x : B} {g : List A → B} {l : List A} where
  pub passed_none : x ≡ g l → Passed x g l 0
  passed_none e = record { within = omega arith; rest = e }

  module _ {i : ℕ} (u : Passed x g l i) where
    -- the rest begins with the one at index i
    pub passed_here : (d : A) → i < length l → x ≡ g (get_or l i d ∷ drop (i + 1) l)
    passed_here d below = u.rest ∙ ap g (drop-cons l i d below ∙ rw (add-one i))

    -- which is passed, too
    pub passed_more : (d : A) (h : List A → B) → i < length l → g (get_or l i d ∷ drop (i + 1) l) ≡ h (drop (i + 1) l) → Passed x h l (i + 1)
    passed_more d h below e = record { within = omega arith; rest = passed_here d below ∙ e }

    pub passed_all : length l ≤ i → x ≡ g []
    passed_all past = u.rest ∙ ap g (drop_of_length-le l {i = i} past)

-- ---- whether some element passes a test

module _ {A : Type 0} (q : A → Bool) {x : Bool} {l : List A} {i : ℕ} (u : Passed x (any q) l i) where
  pub any_yes : (d : A) → i < length l → q (get_or l i d) ≡ true → true ≡ x
  unfolding any
  any_yes d below e = sym (passed_here u d below ∙ rw e)

  pub any_more : (d : A) → i < length l → q (get_or l i d) ≡ false → Passed x (any q) l (i + 1)
  unfolding any
  any_more d below e = passed_more u d (any q) below (rw e)

  pub any_end : length l ≤ i → false ≡ x
  unfolding any
  any_end past = sym (passed_all u past)

-- ---- the first that passes a test

module _ {A : Type 0} (q : A → Bool) {x : Option (Found A)} {l : List A} {i : ℕ} (u : Passed x (first_from q i) l i) where
  pub first_here : (d : A) → i < length l → q (get_or l i d) ≡ true → x ≡ some (record { index = i; item = get_or l i d })
  unfolding first_from
  first_here d below e = passed_here u d below ∙ rw e

  pub first_more : (d : A) → i < length l → q (get_or l i d) ≡ false → Passed x (first_from q (i + 1)) l (i + 1)
  unfolding first_from
  first_more d below e = passed_more u d (first_from q (i + 1)) below (rw (e, add-one i))

  pub first_end : length l ≤ i → x ≡ none
  unfolding first_from
  first_end past = passed_all u past
