-- The table of "Turned back" from 7 on, in its words: the checks of each record are its rows, in their order. Assumes nothing.
use Rattle.std.specs.Prelude.{◌≡◌, refl, ◌↔◌, ◌⊎◌, ℕ, ◌≤◌, Bool, true, false, not, ◌||◌, List, [], ◌∷◌, length, get_or, T, leb, eqb}
use Rattle.std.proofs.Common.{sym, ap, ◌∙◌, inl, inr, T_not, leb→le, le→leb}
use Rattle.std.proofs.Math.Option.{none, some, some-injective, none-ne-some}
use mathlib.Core.List.Memᴰ
use Rattle.std.proofs.Math.Dec.{not_T}
use Rattle.basis.specs.Choice.{first_number}
use Rattle.basis.specs.Logic.{or_l, or_r, or_cases}
use Rattle.basis.specs.Lists.{any}
use Rattle.basis.specs.Sizes.{most_spaces, space_numbers, most_monitors}
use Rattle.model.specs.Statement.{Statement, spaces_named}
use Rattle.model.specs.Run.{Space, Waiting, Run, host_up, monitors_used_up, is_open, is_denied}
use Rattle.model.specs.Step.{Request, recover, crash, monitor, open_space, close_space, guarded, standing, access, some_waiting_names, checks}
use Rattle.model.proofs.CheckLaws.{Some, any_iff, equal_iff, OtherOwner, Names, waiting_iff, open_iff, denied_iff, names_iff, waiting_names_iff}

-- ---- the words

-- the host is up
abbrev pub IsUp : Run → ℕ → Type 0
IsUp s h = T (get_or s.up h false)

-- "process waits already"
abbrev pub ProcessWaits : Run → ℕ → Type 0
ProcessWaits s p = Some (λ (w : Waiting). w.statement.process ≡ p) s.waiting

-- a space of the number is open
abbrev pub IsOpen : Run → ℕ → Type 0
IsOpen s n = Some (λ (a : Space). a.number ≡ n) s.spaces

-- "private, other owner"
abbrev pub OfOther : Run → ℕ → ℕ → Type 0
OfOther s p n = Some (λ (a : Space). (a.number ≡ n) × OtherOwner p a.access) s.spaces

-- For each record its rows in their order: the number, and when. "Refusal 12 no longer occurs for a crash". "AG tries 10 over all operations before 11".
abbrev pub rows : Run → Request → List (ℕ × Type 0)
rows s (recover h) = (8, IsUp s h) ∷ []
rows s (crash h) = (7, ¬ IsUp s h) ∷ []
rows s (monitor h p) = (7, ¬ IsUp s h) ∷ (9, ProcessWaits s p) ∷ (14, most_monitors ≤ s.monitors) ∷ []
rows s (open_space h p isPrivate) = (7, ¬ IsUp s h) ∷ (9, ProcessWaits s p) ∷ (14, (most_spaces ≤ length s.spaces) ⊎ (space_numbers ≤ s.next)) ∷ []
rows s (close_space h p n) = (7, ¬ IsUp s h) ∷ (9, ProcessWaits s p) ∷ (10, ¬ IsOpen s n) ∷ (11, OfOther s p n) ∷ (15, (n ≡ 0) ⊎ Some (λ (w : Waiting). Names n w.statement) s.waiting) ∷ []
rows s (guarded st) = (7, ¬ IsUp s st.host) ∷ (9, ProcessWaits s st.process) ∷ (10, (n : ℕ) × Names n st × (¬ IsOpen s n)) ∷ (11, (n : ℕ) × Names n st × OfOther s st.process n) ∷ []

-- n is the number of the first row that is so
abbrev pub FirstRow : List (ℕ × Type 0) → ℕ → Type 0
FirstRow [] n = ⊥
FirstRow ((k, C) ∷ rest) n = (C × (n ≡ k)) ⊎ ((¬ C) × FirstRow rest n)

-- no row is so
abbrev pub NoRow : List (ℕ × Type 0) → Type 0
NoRow [] = Unit {0}
NoRow ((k, C) ∷ rest) = (¬ C) × NoRow rest

-- ---- tests and rows

-- of the same numbers, each test holding exactly where its row is so
abbrev Same : List (Bool × ℕ) → List (ℕ × Type 0) → Type 0
Same [] [] = Unit {0}
Same [] (r ∷ rs) = ⊥
Same (c ∷ cs) [] = ⊥
Same ((b, n) ∷ cs) ((k, C) ∷ rs) = (n ≡ k) × (T b ↔ C) × Same cs rs

first_to : (cs : List (Bool × ℕ)) (rs : List (ℕ × Type 0)) (n : ℕ) → Same cs rs → first_number cs ≡ some n → FirstRow rs n
unfolding first_number
first_to [] [] n d e = absurd (none-ne-some n e)
first_to [] (r ∷ rs) n d e = absurd d
first_to (c ∷ cs) [] n d e = absurd d
first_to ((true, m) ∷ cs) ((k, C) ∷ rs) n d e = inl (d.1.0 tt, sym (some-injective m n e) ∙ d.0)
first_to ((false, m) ∷ cs) ((k, C) ∷ rs) n d e = inr (λ c. d.1.1 c, first_to cs rs n d.2 e)

first_from_lem : (cs : List (Bool × ℕ)) (rs : List (ℕ × Type 0)) (n : ℕ) → Same cs rs → FirstRow rs n → first_number cs ≡ some n
unfolding first_number
first_from_lem [] [] n d f = absurd f
first_from_lem [] (r ∷ rs) n d f = absurd d
first_from_lem (c ∷ cs) [] n d f = absurd d
first_from_lem ((true, m) ∷ cs) ((k, C) ∷ rs) n d (inl f) = ap some (d.0 ∙ sym f.1)
first_from_lem ((true, m) ∷ cs) ((k, C) ∷ rs) n d (inr f) = absurd (f.0 (d.1.0 tt))
first_from_lem ((false, m) ∷ cs) ((k, C) ∷ rs) n d (inl f) = absurd (d.1.1 f.0)
first_from_lem ((false, m) ∷ cs) ((k, C) ∷ rs) n d (inr f) = first_from_lem cs rs n d.2 f.1

none_to : (cs : List (Bool × ℕ)) (rs : List (ℕ × Type 0)) → Same cs rs → first_number cs ≡ none → NoRow rs
unfolding first_number
none_to [] [] d e = tt
none_to [] (r ∷ rs) d e = absurd d
none_to (c ∷ cs) [] d e = absurd d
none_to ((true, m) ∷ cs) ((k, C) ∷ rs) d e = absurd (none-ne-some m (sym e))
none_to ((false, m) ∷ cs) ((k, C) ∷ rs) d e = (λ c. d.1.1 c, none_to cs rs d.2 e)

none_from : (cs : List (Bool × ℕ)) (rs : List (ℕ × Type 0)) → Same cs rs → NoRow rs → first_number cs ≡ none
unfolding first_number
none_from [] [] d f = refl
none_from [] (r ∷ rs) d f = absurd d
none_from (c ∷ cs) [] d f = absurd d
none_from ((true, m) ∷ cs) ((k, C) ∷ rs) d f = absurd (f.0 (d.1.0 tt))
none_from ((false, m) ∷ cs) ((k, C) ∷ rs) d f = none_from cs rs d.2 f.1

-- ---- each test

not_iff : (b : Bool) (C : Type 0) → (T b ↔ C) → T (not b) ↔ (¬ C)
not_iff b C d = (λ t c. T_not b t (d.1 c), λ n. not_T b (λ t. n (d.0 t)))

le_iff : (m n : ℕ) → T (leb m n) ↔ (m ≤ n)
le_iff m n = (λ t. leb→le m n t, λ h. le→leb m n h)

or_iff : (a b : Bool) (A B : Type 0) → (T a ↔ A) → (T b ↔ B) → T (a || b) ↔ (A ⊎ B)
or_iff a b A B f g = (λ t. to (or_cases a b t), from)
  where
    to : T a ⊎ T b → A ⊎ B
    to (inl t) = inl (f.0 t)
    to (inr t) = inr (g.0 t)

    from : A ⊎ B → T (a || b)
    from (inl x) = or_l a b (f.1 x)
    from (inr y) = or_r a b (g.1 y)

down_iff : (s : Run) (h : ℕ) → T (not (host_up s h)) ↔ (¬ IsUp s h)
unfolding host_up
down_iff s h = not_iff (get_or s.up h false) (IsUp s h) (λ t. t, λ t. t)

-- some of the spaces named
named_iff : (p : ℕ → Bool) (P : ℕ → Type 0) → ((n : ℕ) → T (p n) ↔ P n) → (st : Statement) → T (any p (spaces_named st)) ↔ ((n : ℕ) × Names n st × P n)
named_iff p P d st =
    let r = any_iff p P d (spaces_named st) in
    (λ t. let q = r.0 t in (q.0, (names_iff q.0 st).0 q.1, q.2), λ q. r.1 (q.0, (names_iff q.0 st).1 q.1, q.2))

-- the one space named
one_iff : (p : ℕ → Bool) (P : ℕ → Type 0) → ((n : ℕ) → T (p n) ↔ P n) → (n : ℕ) → T (any p (n ∷ [])) ↔ P n
one_iff p P d n =
    let r = any_iff p P d (n ∷ []) in
    (λ t. let q = r.0 t in rw (Memᴰ.eq_of_singleton q.1) at q.2, λ x. r.1 (n, Memᴰ.head refl, x))

shut_iff : (s : Run) (n : ℕ) → T (not (is_open s.spaces n)) ↔ (¬ IsOpen s n)
shut_iff s n = not_iff (is_open s.spaces n) (IsOpen s n) (open_iff s.spaces n)

checks_rows : (s : Run) (q : Request) → Same (checks s q) (rows s q)
unfolding checks standing access monitors_used_up host_up
checks_rows s (recover h) = (refl, (λ t. t, λ t. t), tt)
checks_rows s (crash h) = (refl, down_iff s h, tt)
checks_rows s (monitor h p) = (refl, down_iff s h, (refl, waiting_iff s p, (refl, le_iff most_monitors s.monitors, tt)))
checks_rows s (open_space h p isPrivate) =
    (refl, down_iff s h, (refl, waiting_iff s p, (refl, or_iff (leb most_spaces (length s.spaces)) (leb space_numbers s.next) (most_spaces ≤ length s.spaces) (space_numbers ≤ s.next) (le_iff most_spaces (length s.spaces)) (le_iff space_numbers s.next), tt)))
checks_rows s (close_space h p n) = (
  refl,
  down_iff s h,
  (
    refl,
    waiting_iff s p,
    (
      refl,
      one_iff (λ n. not (is_open s.spaces n)) (λ n. ¬ IsOpen s n) (shut_iff s) n,
      (
        refl,
        one_iff (is_denied s.spaces p) (OfOther s p) (denied_iff s.spaces p) n,
        (refl, or_iff (eqb n 0) (some_waiting_names s n) (n ≡ 0) (Some (λ (w : Waiting). Names n w.statement) s.waiting) (equal_iff n 0) (waiting_names_iff s n), tt),
      ),
    ),
  ),
)
checks_rows s (guarded st) = (
  refl,
  down_iff s st.host,
  (
    refl,
    waiting_iff s st.process,
    (
      refl,
      named_iff (λ n. not (is_open s.spaces n)) (λ n. ¬ IsOpen s n) (shut_iff s) st,
      (refl, named_iff (is_denied s.spaces st.process) (OfOther s st.process) (denied_iff s.spaces st.process) st, tt),
    ),
  ),
)

-- ---- the first check that fails

-- a check refuses with the number of the first row that is so, and only with it
pub first_row : (s : Run) (q : Request) (n : ℕ) → (first_number (checks s q) ≡ some n) ↔ FirstRow (rows s q) n
first_row s q n = let d = checks_rows s q in (first_to (checks s q) (rows s q) n d, first_from_lem (checks s q) (rows s q) n d)

-- and none refuses exactly where no row is so
pub no_row : (s : Run) (q : Request) → (first_number (checks s q) ≡ none) ↔ NoRow (rows s q)
no_row s q = let d = checks_rows s q in (none_to (checks s q) (rows s q) d, none_from (checks s q) (rows s q) d)
