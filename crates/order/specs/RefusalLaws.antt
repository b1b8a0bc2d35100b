-- The first row of the checks that refuses. Assumes nothing.
use Rattle.std.proofs.Math.Path.{◌≡◌, refl}
use Rattle.std.proofs.Common.{sym, ap, ◌∙◌, arith, le-leb}
use Rattle.std.specs.Prelude.{ℕ, ◌+◌, ◌≤◌, ◌<◌, Bool, ◌&&◌, ◌||◌, length, leb, eqb, Ok, Err, IsErrAnd}
use Rattle.std.specs.Prelude as code
use Rattle.std.proofs.Math.Bool.{true, false, not}
use mathlib.Core.List.{List, [], ◌∷◌, ◌++◌, append_assoc}
use Rattle.std.proofs.lemmas.Bool.{lt-leb}
use Rattle.basis.specs.Choice.{first_number}
use Rattle.basis.specs.Lists.{any}
use Rattle.basis.specs.Sizes.{most_monitors, most_spaces, space_numbers}
use Rattle.model.specs.Run.{Run, host_up, is_waiting, is_open, is_denied, monitors_used_up}
use Rattle.model.specs.Step.{checks, standing, access, some_waiting_names, recover, crash, close_space}
use Rattle.order.specs.declared.Refusal.{Refusal}
use Rattle.order.specs.declared.Refusal.TheVariants.{Malformed, HostDown, HostUp, ProcessWaits, NotOpen, Denied, NoRoom, QueueFull, UsedUp, InUse, NoMatch, OffRange, CannotWait}
use Rattle.order.specs.Refusal.{refusal, used_up, closing}
use Rattle.order.specs.Told.{number_of, told}

-- ---- a refusal by its number

-- 0 is none's
pub number_positive : (x : Refusal) → number_of x ≡ 0 → ⊥
number_positive Malformed e = omega arith
number_positive HostDown e = omega arith
number_positive HostUp e = omega arith
number_positive ProcessWaits e = omega arith
number_positive NotOpen e = omega arith
number_positive Denied e = omega arith
number_positive NoRoom e = omega arith
number_positive QueueFull e = omega arith
number_positive UsedUp e = omega arith
number_positive InUse e = omega arith
number_positive NoMatch e = omega arith
number_positive OffRange e = omega arith
number_positive CannotWait e = omega arith

-- a `?` hands on what was found
pub handed_on : (r : code.Result Unit Refusal) (x : Refusal) → IsErrAnd r (λ y. y ≡ x) → told r ≡ number_of x
handed_on (Ok u) x k = absurd k
handed_on (Err y) x k = ap number_of k

-- ---- a row

-- a test that refuses, and one that does not
pub refusal_yes : (t : Bool) (n : ℕ) (cs : List (Bool × ℕ)) → t ≡ true → n ≡ refusal ((t, n) ∷ cs)
unfolding refusal first_number
refusal_yes t n cs e = rw e

pub refusal_no : (t : Bool) (n : ℕ) (cs : List (Bool × ℕ)) → t ≡ false → refusal cs ≡ refusal ((t, n) ∷ cs)
unfolding refusal first_number
refusal_no t n cs e = rw e

-- none refuses
pub refusal_none : 0 ≡ refusal []
unfolding refusal first_number
refusal_none = refl

-- the only one
pub refusal_last : (t : Bool) (n : ℕ) → t ≡ false → 0 ≡ refusal ((t, n) ∷ [])
refusal_last t n e = refusal_none ∙ refusal_no t n [] e

-- ---- 7 and 9, then others

module _ (s : Run) (h p : ℕ) where
  pub down : host_up s h ≡ false → 7 ≡ refusal (standing s h p)
  unfolding standing
  down e = refusal_yes (not (host_up s h)) 7 ((is_waiting s p, 9) ∷ []) (ap not e)

  pub waits : host_up s h ≡ true → is_waiting s p ≡ true → 9 ≡ refusal (standing s h p)
  unfolding standing
  waits e w = refusal_yes (is_waiting s p) 9 [] w ∙ refusal_no (not (host_up s h)) 7 ((is_waiting s p, 9) ∷ []) (ap not e)

  pub stands : host_up s h ≡ true → is_waiting s p ≡ false → 0 ≡ refusal (standing s h p)
  unfolding standing
  stands e w = refusal_last (is_waiting s p) 9 w ∙ refusal_no (not (host_up s h)) 7 ((is_waiting s p, 9) ∷ []) (ap not e)

module _ (s : Run) (h p r : ℕ) (e : r ≡ refusal (standing s h p)) (cs : List (Bool × ℕ)) where
  pub stops : (r ≡ 0 → ⊥) → r ≡ refusal (standing s h p ++ cs)
  unfolding standing refusal first_number
  stops n = go (not (host_up s h)) (is_waiting s p) e
    where
      go : (t u : Bool) → r ≡ refusal ((t, 7) ∷ (u, 9) ∷ []) → r ≡ refusal ((t, 7) ∷ (u, 9) ∷ cs)
      go true u e = e
      go false true e = e
      go false false e = absurd (n e)

  pub goes : r ≡ 0 → refusal cs ≡ refusal (standing s h p ++ cs)
  unfolding standing refusal first_number
  goes z = go (not (host_up s h)) (is_waiting s p) e
    where
      go : (t u : Bool) → r ≡ refusal ((t, 7) ∷ (u, 9) ∷ []) → refusal cs ≡ refusal ((t, 7) ∷ (u, 9) ∷ cs)
      go true u e = absurd (omega (arith, z, e))
      go false true e = absurd (omega (arith, z, e))
      go false false e = refl

-- the same of what a `?` hands on
pub stops_on : (s : Run) (h p : ℕ) (x : Refusal) → number_of x ≡ refusal (standing s h p) → (r : code.Result Unit Refusal) → IsErrAnd r (λ y. y ≡ x) → (cs : List (Bool × ℕ)) → told r ≡ refusal (standing s h p ++ cs)
stops_on s h p x e r k cs = handed_on r x k ∙ stops s h p (number_of x) e cs (number_positive x)

-- ---- RV: 8

module _ (s : Run) (h : ℕ) where
  pub recover_up : host_up s h ≡ true → 8 ≡ refusal (checks s (recover h))
  unfolding checks
  recover_up e = refusal_yes (host_up s h) 8 [] e

  pub recover_down : host_up s h ≡ false → 0 ≡ refusal (checks s (recover h))
  unfolding checks
  recover_down e = refusal_last (host_up s h) 8 e

  -- ---- CR: 7

  pub crash_down : host_up s h ≡ false → 7 ≡ refusal (checks s (crash h))
  unfolding checks
  crash_down e = refusal_yes (not (host_up s h)) 7 _ (ap not e)

  pub crash_up : host_up s h ≡ true → 0 ≡ refusal (checks s (crash h))
  unfolding checks
  crash_up e = refusal_last (not (host_up s h)) 7 (ap not e)

-- ---- MO: 14, of monitors

module _ (s : Run) (m : ℕ) (e : m ≡ s.monitors) where
  pub monitors_used : most_monitors ≤ m → 14 ≡ refusal ((monitors_used_up s, 14) ∷ [])
  unfolding monitors_used_up
  monitors_used l = refusal_yes (leb most_monitors s.monitors) 14 [] (le-leb most_monitors s.monitors (omega arith))

  pub monitors_left : m < most_monitors → 0 ≡ refusal ((monitors_used_up s, 14) ∷ [])
  unfolding monitors_used_up
  monitors_left l = refusal_last (leb most_monitors s.monitors) 14 (lt-leb most_monitors s.monitors (omega arith))

-- ---- MS: 14, of spaces

module _ (s : Run) (n : ℕ) (e : n ≡ length s.spaces) where
  pub spaces_used : most_spaces ≤ n → 14 ≡ refusal (used_up s)
  spaces_used l =
      let many : leb most_spaces (length s.spaces) ≡ true = le-leb most_spaces (length s.spaces) (omega arith) in
      refusal_yes (leb most_spaces (length s.spaces) || leb space_numbers s.next) 14 [] (rw many)

  module _ (m : ℕ) (f : m ≡ s.next) (l : n < most_spaces) where
    few : leb most_spaces (length s.spaces) ≡ false
    few = lt-leb most_spaces (length s.spaces) (omega arith)

    pub numbers_used : space_numbers ≤ m → 14 ≡ refusal (used_up s)
    numbers_used k =
        let last : leb space_numbers s.next ≡ true = le-leb space_numbers s.next (omega arith) in
        refusal_yes (leb most_spaces (length s.spaces) || leb space_numbers s.next) 14 [] (rw (few, last))

    pub numbers_left : m < space_numbers → 0 ≡ refusal (used_up s)
    numbers_left k =
        let left : leb space_numbers s.next ≡ false = lt-leb space_numbers s.next (omega arith) in
        refusal_last (leb most_spaces (length s.spaces) || leb space_numbers s.next) 14 (rw (few, left))

-- ---- 10 over all spaces, then 11 over all

module _ (s : Run) (p : ℕ) (ns : List ℕ) where
  abbrev some_closed : Bool
  some_closed = any (λ n. not (is_open s.spaces n)) ns

  abbrev some_denied : Bool
  some_denied = any (is_denied s.spaces p) ns

  module _ (cs : List (Bool × ℕ)) where
    pub not_open : some_closed ≡ true → 10 ≡ refusal (access s p ns ++ cs)
    unfolding access
    not_open e = refusal_yes some_closed 10 _ e

    pub denied : some_closed ≡ false → some_denied ≡ true → 11 ≡ refusal (access s p ns ++ cs)
    unfolding access
    denied e d = refusal_yes some_denied 11 cs d ∙ refusal_no some_closed 10 _ e

    pub allowed : some_closed ≡ false → some_denied ≡ false → refusal cs ≡ refusal (access s p ns ++ cs)
    unfolding access
    allowed e d = refusal_no some_denied 11 cs d ∙ refusal_no some_closed 10 _ e

-- a space that is not open to the process is not open, or denied
any_shut : (opened denied : ℕ → Bool) (ns : List ℕ) → any (λ n. not (opened n && not (denied n))) ns ≡ (any (λ n. not (opened n)) ns || any denied ns)
unfolding any
any_shut opened denied [] = refl
any_shut opened denied (n ∷ ns) = go (opened n) (denied n) (any (λ n. not (opened n)) ns) (any denied ns) (any_shut opened denied ns)
  where
    go : (o d a b : Bool) {r : Bool} → r ≡ (a || b) → (not (o && not d) || r) ≡ ((not o || a) || (d || b))
    go true true true b e = refl
    go true true false b e = refl
    go true false a b e = e
    go false d a b e = refl

module _ (s : Run) (p : ℕ) (ns : List ℕ) where
  abbrev some_shut : Bool
  some_shut = any (λ n. not (is_open s.spaces n && not (is_denied s.spaces p n))) ns

  shut_is : some_shut ≡ (any (λ n. not (is_open s.spaces n)) ns || any (is_denied s.spaces p) ns)
  shut_is = any_shut (is_open s.spaces) (is_denied s.spaces p) ns

  -- all are open to the process
  pub all_open : some_shut ≡ false → 0 ≡ refusal (access s p ns)
  unfolding access
  all_open e = go (any (λ n. not (is_open s.spaces n)) ns) (any (is_denied s.spaces p) ns) (sym shut_is ∙ e)
    where
      go : (a b : Bool) → (a || b) ≡ false → 0 ≡ refusal ((a, 10) ∷ (b, 11) ∷ [])
      go true b e = let z : ◌≡◌ {A = ℕ} 0 1 = cc in absurd (omega arith)
      go false true e = let z : ◌≡◌ {A = ℕ} 0 1 = cc in absurd (omega arith)
      go false false e = unfold refusal first_number in refl

  -- one is not, and all are open
  pub some_denied_lem : some_shut ≡ true → any (λ n. not (is_open s.spaces n)) ns ≡ false → 11 ≡ refusal (access s p ns)
  unfolding access
  some_denied_lem e f = go (any (λ n. not (is_open s.spaces n)) ns) (any (is_denied s.spaces p) ns) (sym shut_is ∙ e) f
    where
      go : (a b : Bool) → (a || b) ≡ true → a ≡ false → 11 ≡ refusal ((a, 10) ∷ (b, 11) ∷ [])
      go true b e f = let z : ◌≡◌ {A = ℕ} 0 1 = cc in absurd (omega arith)
      go false true e f = unfold refusal first_number in refl
      go false false e f = let z : ◌≡◌ {A = ℕ} 0 1 = cc in absurd (omega arith)

  pub some_closed_lem : any (λ n. not (is_open s.spaces n)) ns ≡ true → 10 ≡ refusal (access s p ns)
  unfolding access
  some_closed_lem e = refusal_yes (any (λ n. not (is_open s.spaces n)) ns) 10 _ e

-- ---- DS: 10, 11 and 15 of the space that is closed

pub close_checks : (s : Run) (h p n : ℕ) → standing s h p ++ closing s p n ≡ checks s (close_space h p n)
unfolding checks closing
close_checks s h p n = sym (append_assoc (standing s h p) (access s p (n ∷ [])) ((eqb n 0 || some_waiting_names s n, 15) ∷ []))

any_one : (f : ℕ → Bool) (n : ℕ) (t : Bool) → f n ≡ t → any f (n ∷ []) ≡ t
unfolding any
any_one f n true e = rw e
any_one f n false e = rw e

module _ (s : Run) (p n : ℕ) where
  abbrev rest : List (Bool × ℕ)
  rest = (eqb n 0 || some_waiting_names s n, 15) ∷ []

  pub close_closed : is_open s.spaces n ≡ false → 10 ≡ refusal (closing s p n)
  unfolding closing
  close_closed e = not_open s p (n ∷ []) rest (any_one (λ n. not (is_open s.spaces n)) n true (ap not e))

  pub close_denied : is_open s.spaces n ≡ true → is_denied s.spaces p n ≡ true → 11 ≡ refusal (closing s p n)
  unfolding closing
  close_denied e d = denied s p (n ∷ []) rest (any_one (λ n. not (is_open s.spaces n)) n false (ap not e)) (any_one (is_denied s.spaces p) n true d)

  module _ (e : is_open s.spaces n ≡ true) (d : is_denied s.spaces p n ≡ false) where
    close_allowed : refusal rest ≡ refusal (closing s p n)
    unfolding closing
    close_allowed = allowed s p (n ∷ []) rest (any_one (λ n. not (is_open s.spaces n)) n false (ap not e)) (any_one (is_denied s.spaces p) n false d)

    pub close_used : (eqb n 0 || some_waiting_names s n) ≡ true → 15 ≡ refusal (closing s p n)
    close_used u = refusal_yes (eqb n 0 || some_waiting_names s n) 15 [] u ∙ close_allowed

    pub close_unused : (eqb n 0 || some_waiting_names s n) ≡ false → 0 ≡ refusal (closing s p n)
    close_unused u = refusal_last (eqb n 0 || some_waiting_names s n) 15 u ∙ close_allowed
