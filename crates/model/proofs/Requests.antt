-- What a record of bytes asks fits its widths. Assumes nothing.
use Rattle.std.specs.Prelude.{◌≡◌, refl, ℕ, ◌<◌, ◌^◌, Bool, true, false, cond, List, [], ◌∷◌, length, take, drop, T, leb, ltb, eqb}
use Rattle.std.proofs.Common.{subst, length-take-le, leb→le}
use Rattle.std.proofs.Math.Option.{Option, none, some, map, some-injective, none-ne-some}
use Rattle.std.proofs.Math.Pow.{are_bytes}
use Rattle.basis.specs.Choice.{maybe, provided, cond_ind}
use Rattle.basis.specs.Lists.{is_empty}
use Rattle.basis.specs.Numbers.{number}
use Rattle.basis.specs.NumberLaws.{bytes_tail, bytes_take, bytes_drop, number_lt}
use Rattle.basis.specs.Sizes.{hosts, processes, host_width, process_width, space_width}
use Rattle.model.specs.Reading.{Reader, ◌>>=◌, give, refuse, natural, whole_of}
use Rattle.model.specs.Legal.{parse}
use Rattle.model.specs.Writing.{statement_bytes}
use Rattle.model.specs.Step.{Mark, RV, CR, MO, MS, DS, AG, Request, recover, crash, monitor, open_space, close_space, guarded, host, monitor_body, space_kind, open_body, close_body, request_of}
use Rattle.model.proofs.ReadBack.{parse_again}

-- ---- what a reader gives of bytes

abbrev Given : {A : Type 0} → (A → Type 0) → Option (A × List ℕ) → Type 0
Given P none = Unit {0}
Given P (some r) = P r.0 × T (are_bytes r.1)

abbrev Gives : {A : Type 0} → (A → Type 0) → Reader A → Type 0
Gives P p = (b : List ℕ) → T (are_bytes b) → Given P (p b)

gives_give : {A : Type 0} (P : A → Type 0) (a : A) → P a → Gives P (give a)
unfolding give
gives_give P a h b t = (h, t)

gives_then : {A B : Type 0} (P : A → Type 0) (Q : B → Type 0) (p : Reader A) (f : A → Reader B) → Gives P p → ((a : A) → P a → Gives Q (f a)) → Gives Q (p >>= f)
unfolding ◌>>=◌
gives_then {A} P Q p f h k b t = go (p b) (h b t)
  where
    go : (o : Option (A × List ℕ)) → Given P o → Given Q (maybe o none (λ r. f r.0 r.1))
    go none g = tt
    go (some r) g = k r.0 g.0 r.1 g.1

-- a number of w bytes
gives_natural : (w : ℕ) → Gives (λ (n : ℕ). n < 256 ^ w) (natural w)
unfolding natural provided
gives_natural w b t = go (leb w (length b)) refl
  where
    go : (c : Bool) → leb w (length b) ≡ c → Given (λ (n : ℕ). n < 256 ^ w) (cond c (some (number (take w b), drop w b)) none)
    go true q =
        let l : length (take w b) ≡ w = length-take-le w b (leb→le w (length b) (rw q tt)) in
        (subst (λ (k : ℕ). number (take w b) < 256 ^ k) l (number_lt (take w b) (bytes_take w b t)), bytes_drop w b t)
    go false q = tt

abbrev Any : {A : Type 0} → A → Type 0
Any a = Unit {0}

gives_host : Gives Any host
unfolding host refuse
gives_host = gives_then (λ (n : ℕ). n < 256 ^ host_width) Any (natural host_width) _ (gives_natural host_width) (λ h p. cond_ind (Gives Any) (ltb h hosts) (give h) refuse (λ e. gives_give Any h tt) (λ e b t. tt))

gives_kind : Gives Any space_kind
unfolding space_kind
gives_kind [] t = (tt, tt)
gives_kind (b ∷ s) t = let u = bytes_tail b s t in cond_ind (Given Any) (eqb b 0) _ _ (λ e. (tt, u)) (λ e. cond_ind (Given Any) (eqb b 1) _ _ (λ e. (tt, u)) (λ e. tt))

whole_gives : {A : Type 0} (P : A → Type 0) (p : Reader A) (b : List ℕ) (a : A) → Gives P p → T (are_bytes b) → whole_of p b ≡ some a → P a
unfolding whole_of provided
whole_gives {A} P p b a h t e = go (p b) (h b t) e
  where
    all : (c : Bool) (x : A) → P x → cond c (some x) none ≡ some a → P a
    all true x g e = subst P (some-injective x a e) g
    all false x g e = absurd (none-ne-some a e)

    go : (o : Option (A × List ℕ)) → Given P o → maybe o none (λ r. cond (is_empty r.1) (some r.0) none) ≡ some a → P a
    go none g e = absurd (none-ne-some a e)
    go (some r) g e = all (is_empty r.1) r.0 g.0 e

-- ---- requests

-- an owner is of two bytes, and a statement is what its written body is read as
abbrev pub Possible : Request → Type 0
Possible (recover h) = Unit {0}
Possible (crash h) = Unit {0}
Possible (monitor h p) = Unit {0}
Possible (open_space h p isPrivate) = p < processes
Possible (close_space h p n) = Unit {0}
Possible (guarded st) = parse (statement_bytes st) ≡ some st

-- a host and a process, and what follows
gives_asked : (f : ℕ → ℕ → Reader Request) → ((h p : ℕ) → p < processes → Gives Possible (f h p)) → Gives Possible (host >>= λ h. natural process_width >>= λ p. f h p)
gives_asked f k = gives_then Any Possible host _ gives_host (λ h u. gives_then (λ (n : ℕ). n < 256 ^ process_width) Possible (natural process_width) (f h) (gives_natural process_width) (λ p l. k h p l))

gives_monitor : Gives Possible monitor_body
unfolding monitor_body
gives_monitor = gives_asked (λ h p. give (monitor h p)) (λ h p l. gives_give Possible (monitor h p) tt)

gives_open : Gives Possible open_body
unfolding open_body
gives_open = gives_asked (λ h p. space_kind >>= λ k. give (open_space h p k)) (λ h p l. gives_then Any Possible space_kind _ gives_kind (λ k u. gives_give Possible (open_space h p k) l))

gives_close : Gives Possible close_body
unfolding close_body
gives_close =
    gives_asked (λ h p. natural space_width >>= λ n. give (close_space h p n))
    (λ h p l. gives_then (λ (n : ℕ). n < 256 ^ space_width) Possible (natural space_width) _ (gives_natural space_width) (λ n u. gives_give Possible (close_space h p n) tt))

map_possible : {A : Type 0} (made : A → Request) (o : Option A) (q : Request) → ((a : A) → o ≡ some a → Possible (made a)) → map made o ≡ some q → Possible q
map_possible made none q h e = absurd (none-ne-some q e)
map_possible made (some a) q h e = subst Possible (some-injective (made a) q e) (h a refl)

-- what a record's body of bytes asks is possible
pub request_possible : (m : Mark) (b : List ℕ) (q : Request) → T (are_bytes b) → request_of m b ≡ some q → Possible q
unfolding request_of
request_possible RV b q t e = map_possible recover (whole_of host b) q (λ h p. tt) e
request_possible CR b q t e = map_possible crash (whole_of host b) q (λ h p. tt) e
request_possible MO b q t e = whole_gives Possible monitor_body b q gives_monitor t e
request_possible MS b q t e = whole_gives Possible open_body b q gives_open t e
request_possible DS b q t e = whole_gives Possible close_body b q gives_close t e
request_possible AG b q t e = map_possible guarded (parse b) q (λ st p. parse_again b st t p) e
