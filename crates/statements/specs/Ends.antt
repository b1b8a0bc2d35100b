-- The position after what is read and passes a test: of one thing, and of several. Assumes nothing.
use Rattle.std.specs.Prelude.{◌≡◌, refl, ℕ, suc, ◌+◌, ◌-◌, ◌≤◌, ◌<◌, Bool, true, false, ◌&&◌, cond, List, [], ◌∷◌, length, drop}
use Rattle.std.proofs.Common.{sym, ap, ◌∙◌, arith, length-drop}
use Rattle.std.proofs.Math.Option.{Option, none, some, some-injective, none-ne-some}
use Rattle.basis.specs.Choice.{maybe, provided}
use Rattle.basis.specs.Lists.{all}
use Rattle.model.specs.Reading.{Reader, ◌>>=◌, give, several}
use Rattle.statements.specs.At.{placed, read_at, passed, ended, Suffix, suffix_at}

-- the position after what is read and passes a test
unfoldable pub end_at : {A : Type 0} → Reader A → (A → Bool) → List ℕ → ℕ → Option ℕ
end_at p ok b at = ended (passed ok (read_at p b at))

-- what an end is made of
abbrev pub end_of : {A : Type 0} → (A → Bool) → List ℕ → Option (A × List ℕ) → Option ℕ
end_of ok b none = none
end_of ok b (some r) = provided (ok r.0) (length b - length r.1)

pub end_of_lem : {A : Type 0} (p : Reader A) (ok : A → Bool) (b : List ℕ) (at : ℕ) → end_at p ok b at ≡ end_of ok b (p (drop at b))
unfolding end_at ended passed read_at provided
end_of_lem {A} p ok b at = go (p (drop at b))
  where
    test : (t : Bool) (r : A × ℕ) → maybe (cond t (some r) none) none (λ z. some z.1) ≡ cond t (some r.1) none
    test true r = refl
    test false r = refl

    go : (o : Option (A × List ℕ)) → ended (passed ok (placed b o)) ≡ end_of ok b o
    go none = refl
    go (some r) = test (ok r.0) (r.0, length b - length r.1)

-- ---- several things, one of them and then the rest

-- one, then several
pub several_one : {A : Type 0} (p : Reader A) (m : ℕ) (s rest : List ℕ) (a : A) → p s ≡ some (a, rest)
    → several p (suc m) s ≡ maybe (several p m rest) none (λ r. some (a ∷ r.0, r.1))
unfolding several ◌>>=◌ give
several_one p m s rest a e = rw e

pub several_no : {A : Type 0} (p : Reader A) (m : ℕ) (s : List ℕ) → p s ≡ none → several p (suc m) s ≡ none
unfolding several ◌>>=◌
several_no p m s e = rw e

-- a test of a first element and of the rest
pub end_cons : {A : Type 0} (ok : List A → Bool) (one : Bool) (more : List A → Bool) (a : A) → ((l : List A) → ok (a ∷ l) ≡ (one && more l)) → (b : List ℕ) (o : Option (List A × List ℕ))
    → end_of ok b (maybe o none (λ r. some (a ∷ r.0, r.1))) ≡ cond one (end_of more b o) none
unfolding provided
end_cons {A} ok one more a h b o = go one o h
  where
    go : (one : Bool) (o : Option (List A × List ℕ)) → ((l : List A) → ok (a ∷ l) ≡ (one && more l)) → end_of ok b (maybe o none (λ r. some (a ∷ r.0, r.1))) ≡ cond one (end_of more b o) none
    go true none h = refl
    go false none h = refl
    go true (some r) h = rw (h r.0)
    go false (some r) h = rw (h r.0)

-- a first one that passes a test, then several that pass another, which may hang on the first
pub ends_first : {A : Type 0} (p : Reader A) → Suffix p → (ok : List A → Bool) (one : A → Bool) (more : A → List A → Bool) → ((a : A) (l : List A) → ok (a ∷ l) ≡ (one a && more a l)) → (m : ℕ) (b : List ℕ) (at : ℕ)
    → end_at (several p (suc m)) ok b at ≡ maybe (read_at p b at) none (λ r. cond (one r.0) (end_at (several p m) (more r.0) b r.1) none)
unfolding read_at
ends_first {A} p sf ok one more h m b at = end_of_lem (several p (suc m)) ok b at ∙ go (p (drop at b)) refl
  where
    go : (o : Option (A × List ℕ)) → p (drop at b) ≡ o → end_of ok b (several p (suc m) (drop at b)) ≡ maybe (placed b o) none (λ r. cond (one r.0) (end_at (several p m) (more r.0) b r.1) none)
    go none q = rw (several_no p m (drop at b) q)
    go (some r) q =
        let rest : end_at (several p m) (more r.0) b (length b - length r.1) ≡ end_of (more r.0) b (several p m r.1) = end_of_lem (several p m) (more r.0) b (length b - length r.1) ∙ ap (λ (s : List ℕ). end_of (more r.0) b (several p m s)) (suffix_at p sf b at r.0 r.1 q) in
        rw (several_one p m (drop at b) r.1 r.0 q, rest) (end_cons ok (one r.0) (more r.0) r.0 (h r.0) b (several p m r.1))

-- what comes after an end comes after what is read and passes
pub end_then : {A B : Type 0} (p : Reader A) (ok : A → Bool) (b : List ℕ) (at : ℕ) (later : ℕ → Option B) → maybe (end_at p ok b at) none later ≡ maybe (read_at p b at) none (λ r. cond (ok r.0) (later r.1) none)
unfolding end_at ended passed provided
end_then {A} {B} p ok b at later = go (read_at p b at)
  where
    test : (t : Bool) (r : A × ℕ) → maybe {B = Option B} (maybe {B = Option ℕ} (cond t (some r) none) none (λ z. some z.1)) none later ≡ cond t (later r.1) none
    test true r = refl
    test false r = refl

    go : (o : Option (A × ℕ)) → maybe {B = Option B} (ended (passed ok o)) none later ≡ maybe {B = Option B} o none (λ r. cond (ok r.0) (later r.1) none)
    go none = refl
    go (some r) = test (ok r.0) r

-- several that each pass a test
ends_turn : {A : Type 0} (p : Reader A) → Suffix p → (ok : A → Bool) (m : ℕ) (b : List ℕ) (at : ℕ)
    → end_at (several p (suc m)) (all ok) b at ≡ maybe (end_at p ok b at) none (λ end. end_at (several p m) (all ok) b end)
unfolding all
ends_turn p sf ok m b at = ends_first p sf (all ok) ok (λ a. all ok) (λ a l. refl) m b at ∙ sym (end_then p ok b at (λ end. end_at (several p m) (all ok) b end))

-- none are left
pub ends_done : {A : Type 0} (p : Reader A) (ok : List A → Bool) (b : List ℕ) (at : ℕ) → ok [] ≡ true → at ≤ length b → end_at (several p 0) ok b at ≡ some at
unfolding several give provided
ends_done p ok b at e h =
    let n : length b - length (drop at b) ≡ at = omega (arith, length-drop at b) in
    end_of_lem (several p 0) ok b at ∙ rw (e, n)

-- such a position is within the bytes
pub end_within : {A : Type 0} (p : Reader A) (ok : A → Bool) (b : List ℕ) (at end : ℕ) → end_at p ok b at ≡ some end → end ≤ length b
unfolding provided
end_within {A} p ok b at end e = go (p (drop at b)) (sym (end_of_lem p ok b at) ∙ e)
  where
    test : (t : Bool) (n : ℕ) → cond t (some n) none ≡ some end → n ≡ end
    test true n q = some-injective n end q
    test false n q = absurd (none-ne-some end q)

    go : (o : Option (A × List ℕ)) → end_of ok b o ≡ some end → end ≤ length b
    go none q = absurd (none-ne-some end q)
    go (some r) q = omega (arith, test (ok r.0) (length b - length r.1) q)

-- ---- several things, in a loop

-- i of so many things were passed, up to a position, and a test of the others decides
pub record Passing {A : Type 0} (p : Reader A) (ok now : List A → Bool) (b : List ℕ) (at count end i : ℕ) : Type 0 where
  pub few : i ≤ count
  pub within : end ≤ length b
  pub rest : end_at (several p count) ok b at ≡ end_at (several p (count - i)) now b end

-- one more is passed, up to an end, and a test of those after it decides
pub record Passes {A : Type 0} (p : Reader A) (now later : List A → Bool) (b : List ℕ) (at end : ℕ) : Type 0 where
  pub within : end ≤ length b
  pub rest : (m : ℕ) → end_at (several p (suc m)) now b at ≡ end_at (several p m) later b end

-- there is none more
abbrev pub Stops : {A : Type 0} → Reader A → (List A → Bool) → List ℕ → ℕ → Type 0
Stops p now b at = (m : ℕ) → end_at (several p (suc m)) now b at ≡ none

pub passing_start : {A : Type 0} (p : Reader A) (ok : List A → Bool) (b : List ℕ) (at count : ℕ) → at ≤ length b → Passing p ok ok b at count at 0
passing_start p ok b at count l = let e : count - 0 ≡ count = omega arith in record { few = omega arith; within = l; rest = rw e }

module _ {A : Type 0} (p : Reader A) (ok now : List A → Bool) (b : List ℕ) (at count end i : ℕ) (w : Passing p ok now b at count end i) where
  pub passing_turn : (later : List A → Bool) (next : ℕ) → i < count → Passes p now later b end next → Passing p ok later b at count next (i + 1)
  passing_turn later next h k =
      let m : count - i ≡ suc (count - (i + 1)) = omega arith in
      record { few = omega arith; within = k.within; rest = w.rest ∙ rw m (k.rest (count - (i + 1))) }

  pub passing_stop : i < count → Stops p now b end → none ≡ end_at (several p count) ok b at
  passing_stop h k = let m : count - i ≡ suc (count - (i + 1)) = omega arith in sym (w.rest ∙ rw m (k (count - (i + 1))))

  pub passing_done : count ≤ i → now [] ≡ true → some end ≡ end_at (several p count) ok b at
  passing_done h e = let z : count - i ≡ 0 = omega arith in sym (w.rest ∙ rw z (ends_done p now b end e w.within))

-- where each passes the same test
module _ {A : Type 0} (p : Reader A) (sf : Suffix p) (ok : A → Bool) (b : List ℕ) (at : ℕ) where
  pub one_passes : (end : ℕ) → some end ≡ end_at p ok b at → Passes p (all ok) (all ok) b at end
  one_passes end e = record { within = end_within p ok b at end (sym e); rest = λ m. ends_turn p sf ok m b at ∙ rw (← e) }

  pub one_stops : none ≡ end_at p ok b at → Stops p (all ok) b at
  one_stops e m = ends_turn p sf ok m b at ∙ rw (← e)

pub all_none : {A : Type 0} (ok : A → Bool) → all ok [] ≡ true
unfolding all
all_none ok = refl
