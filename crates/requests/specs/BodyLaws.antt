-- The bodies of RV, CR and MO as requests, and the first byte of every body. Assumes nothing.
use Rattle.std.specs.Prelude.{◌≡◌, ◌≢◌, ℕ, ◌≤◌, ◌<◌, Bool, true, cond, List, [], ◌∷◌, length, get_or, eqb, ltb, leb}
use Rattle.std.proofs.Math.Path.{refl}
use Rattle.std.proofs.Common.{sym, ◌∙◌, arith, le-leb, ne_eqb, eq-eqb, le-ltb, lt-ltb}
use Rattle.std.proofs.Math.Bool.{false}
use Rattle.std.proofs.Math.Option.{Option, none, some, map}
use Rattle.basis.specs.Choice.{maybe, provided}
use Rattle.basis.specs.Lists.{is_empty}
use Rattle.basis.specs.Numbers.{number, number_at}
use Rattle.basis.specs.NumberLaws.{number_one}
use Rattle.basis.specs.Sizes.{host_width, process_width, hosts, process_at, host_body, process_body, host_at}
use Rattle.model.specs.Reading.{Reader, ◌>>=◌, give, refuse, natural, whole_of}
use Rattle.model.specs.Step.{RV, CR, MO, Request, recover, crash, monitor, host, monitor_body, request_of}
use Rattle.requests.specs.Asking.{from_host, IsFrom, AreFrom}

-- ---- the first byte and the numbers after it

pub host_read : (b : ℕ) (l : List ℕ) → host (b ∷ l) ≡ cond (ltb b hosts) (some (b, l)) none
unfolding host natural ◌>>=◌ provided
host_read b l =
    let e : leb host_width (length (b ∷ l)) ≡ true = le-leb host_width (length (b ∷ l)) (omega arith) in
    rw (e, number_one b) (go (ltb b hosts))
  where
    go : (t : Bool) → (cond {A = Reader ℕ} t (give b) refuse) l ≡ cond t (some (b, l)) none
    go true = unfold give in refl
    go false = unfold refuse in refl

pub process_read : (a b : ℕ) (l : List ℕ) → natural process_width (a ∷ b ∷ l) ≡ some (number (a ∷ b ∷ []), l)
unfolding natural provided
process_read a b l = let e : leb process_width (length (a ∷ b ∷ l)) ≡ true = le-leb process_width (length (a ∷ b ∷ l)) (omega arith) in rw e

-- ---- bodies

-- a host alone
host_request : (made : ℕ → Request) (body : List ℕ) → map made (whole_of host body) ≡ cond (from_host body host_body) (some (made (get_or body host_at 0))) none
unfolding whole_of provided is_empty from_host
host_request made [] = unfold host natural ◌>>=◌ provided in refl
host_request made (b ∷ []) = rw (host_read b []) (go (ltb b hosts))
  where
    go : (t : Bool) → map made (maybe (cond {A = Option (ℕ × List ℕ)} t (some (b, [])) none) none (λ r. cond (is_empty r.1) (some r.0) none)) ≡ cond t (some (made b)) none
    go true = unfold is_empty in refl
    go false = refl
host_request made (b ∷ c ∷ l) =
    let n : eqb (length (b ∷ c ∷ l)) host_body ≡ false = ne_eqb (length (b ∷ c ∷ l)) host_body (λ e. omega arith) in
    rw (host_read b (c ∷ l), n) (go (ltb b hosts))
  where
    go : (t : Bool) → map made (maybe (cond {A = Option (ℕ × List ℕ)} t (some (b, c ∷ l)) none) none (λ r. cond (is_empty r.1) (some r.0) none)) ≡ none
    go true = unfold is_empty in refl
    go false = refl

-- host and process
monitor_request : (body : List ℕ) → whole_of monitor_body body ≡ cond (from_host body process_body) (some (monitor (get_or body host_at 0) (number_at process_at process_width body))) none
unfolding whole_of monitor_body ◌>>=◌ give provided is_empty from_host number_at
monitor_request [] = unfold host natural ◌>>=◌ provided in refl
monitor_request (a ∷ []) = rw (host_read a []) (go (ltb a hosts))
  where
    go : (t : Bool) → maybe {A = Request × List ℕ} (maybe (cond {A = Option (ℕ × List ℕ)} t (some (a, [])) none) none (λ r. maybe (natural process_width r.1) none (λ q. some (monitor r.0 q.0, q.1)))) none (λ r. cond (is_empty r.1) (some r.0) none) ≡ none
    go true = unfold natural provided in refl
    go false = refl
monitor_request (a ∷ b ∷ []) = rw (host_read a (b ∷ [])) (go (ltb a hosts))
  where
    go : (t : Bool) → maybe {A = Request × List ℕ} (maybe (cond {A = Option (ℕ × List ℕ)} t (some (a, b ∷ [])) none) none (λ r. maybe (natural process_width r.1) none (λ q. some (monitor r.0 q.0, q.1)))) none (λ r. cond (is_empty r.1) (some r.0) none) ≡ none
    go true = unfold natural provided in refl
    go false = refl
monitor_request (a ∷ b ∷ c ∷ []) = rw (host_read a (b ∷ c ∷ [])) (go (ltb a hosts))
  where
    go : (t : Bool) → maybe {A = Request × List ℕ} (maybe (cond {A = Option (ℕ × List ℕ)} t (some (a, b ∷ c ∷ [])) none) none (λ r. maybe (natural process_width r.1) none (λ q. some (monitor r.0 q.0, q.1)))) none (λ r. cond (is_empty r.1) (some r.0) none) ≡ cond t (some (monitor a (number (b ∷ c ∷ [])))) none
    go true = unfold natural provided is_empty in refl
    go false = refl
monitor_request (a ∷ b ∷ c ∷ d ∷ l) =
    let n : eqb (length (a ∷ b ∷ c ∷ d ∷ l)) process_body ≡ false = ne_eqb (length (a ∷ b ∷ c ∷ d ∷ l)) process_body (λ e. omega arith) in
    rw (host_read a (b ∷ c ∷ d ∷ l), n) (go (ltb a hosts))
  where
    go : (t : Bool) → maybe {A = Request × List ℕ} (maybe (cond {A = Option (ℕ × List ℕ)} t (some (a, b ∷ c ∷ d ∷ l)) none) none (λ r. maybe (natural process_width r.1) none (λ q. some (monitor r.0 q.0, q.1)))) none (λ r. cond (is_empty r.1) (some r.0) none) ≡ none
    go true = unfold is_empty in rw (process_read b c (d ∷ l))
    go false = refl

-- ---- the test of a body's first byte

pub from_no : (body : List ℕ) (n : ℕ) → length body ≢ n → from_host body n ≡ false
unfolding from_host
from_no body n h = rw (ne_eqb (length body) n h)

module _ (body : List ℕ) (n h : ℕ) (l : length body ≡ n) (e : h ≡ get_or body host_at 0) where
  pub from_past : hosts ≤ h → from_host body n ≡ false
  unfolding from_host
  from_past k = let p : hosts ≤ get_or body host_at 0 = omega (arith, e, k) in rw (eq-eqb (length body) n l, le-ltb (get_or body host_at 0) hosts p)

  pub from_yes : h < hosts → IsFrom body n h
  unfolding from_host
  from_yes k = let p : get_or body host_at 0 < hosts = omega (arith, e, k) in record { yes = rw (eq-eqb (length body) n l, lt-ltb (get_or body host_at 0) hosts p); long = l; at = e; small = k }

module _ (body : List ℕ) where
  pub recover_yes : (h : ℕ) → IsFrom body host_body h → some (recover h) ≡ request_of RV body
  unfolding request_of
  recover_yes h f = sym (host_request recover body ∙ rw (f.yes, f.at))

  pub recover_no : from_host body host_body ≡ false → none ≡ request_of RV body
  unfolding request_of
  recover_no z = sym (host_request recover body ∙ rw z)

  pub crash_yes : (h : ℕ) → IsFrom body host_body h → some (crash h) ≡ request_of CR body
  unfolding request_of
  crash_yes h f = sym (host_request crash body ∙ rw (f.yes, f.at))

  pub crash_no : from_host body host_body ≡ false → none ≡ request_of CR body
  unfolding request_of
  crash_no z = sym (host_request crash body ∙ rw z)

  pub monitor_yes : (h p : ℕ) → AreFrom body process_body h p → some (monitor h p) ≡ request_of MO body
  unfolding request_of
  monitor_yes h p f = sym (monitor_request body ∙ rw (f.first.yes, f.first.at, f.second))

  pub monitor_no : from_host body process_body ≡ false → none ≡ request_of MO body
  unfolding request_of
  monitor_no z = sym (monitor_request body ∙ rw z)
