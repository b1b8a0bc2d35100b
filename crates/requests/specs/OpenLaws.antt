-- The bodies of MS and DS as requests. Assumes nothing.
use Rattle.std.specs.Prelude.{◌≡◌, ℕ, zero, suc, ◌≤◌, ◌<◌, Bool, ◌&&◌, length, take, drop, get_or, eqb, ltb}
use Rattle.std.proofs.Math.Path.{refl}
use Rattle.std.proofs.Common.{sym, ◌∙◌, arith, length-drop}
use Rattle.std.proofs.Math.Bool.{true, false, cond}
use Rattle.std.proofs.Math.Option.{Option, none, some}
use mathlib.Core.List.{List, [], ◌∷◌}
use Rattle.std.proofs.Math.Dec.{leb}
use borrow.Author.Tests.{le-leb, lt-leb, eq-eqb, ne_eqb, eqb-true, eqb-false, leb-true, leb-false}
use Rattle.basis.specs.Choice.{maybe, provided}
use Rattle.basis.specs.Lists.{is_empty}
use Rattle.basis.specs.Numbers.{number, number_at}
use Rattle.basis.specs.NumberLaws.{bytes_of_lem, number_at_lt}
use Rattle.basis.specs.Sizes.{process_width, space_width, hosts, space_numbers, process_at, process_body, kind_body, space_body, host_at, space_at, kind_at}
use Rattle.model.specs.Reading.{◌>>=◌, give, natural, whole_of}
use Rattle.model.specs.Step.{MS, DS, Request, open_space, close_space, host, space_kind, open_body, close_body, request_of}
use Rattle.requests.specs.Asking.{from_host, AreFrom}
use Rattle.requests.specs.BodyLaws.{host_read, process_read}

-- host, process, and a last part read by p
module _ {A : Type 0} (p : List ℕ → Option (A × List ℕ)) (made : ℕ → ℕ → A → Request) where
  -- what is read of a body
  abbrev reads : List ℕ → Option Request
  reads body = maybe {A = Request × List ℕ} (maybe (host body) none (λ r. maybe (natural process_width r.1) none (λ q. maybe (p q.1) none (λ k. some (made r.0 q.0 k.0, k.1))))) none (λ r. cond (is_empty r.1) (some r.0) none)

  short_none : (body : List ℕ) → length body < process_body → reads body ≡ none
  unfolding is_empty
  short_none [] h = unfold host natural ◌>>=◌ provided in refl
  short_none (a ∷ []) h = rw (host_read a []) (go (ltb a hosts))
    where
      go : (t : Bool) → maybe {A = Request × List ℕ} (maybe (cond {A = Option (ℕ × List ℕ)} t (some (a, [])) none) none (λ r. maybe (natural process_width r.1) none (λ q. maybe (p q.1) none (λ k. some (made r.0 q.0 k.0, k.1))))) none (λ r. cond (is_empty r.1) (some r.0) none) ≡ none
      go true = unfold natural provided in refl
      go false = refl
  short_none (a ∷ b ∷ []) h = rw (host_read a (b ∷ [])) (go (ltb a hosts))
    where
      go : (t : Bool) → maybe {A = Request × List ℕ} (maybe (cond {A = Option (ℕ × List ℕ)} t (some (a, b ∷ [])) none) none (λ r. maybe (natural process_width r.1) none (λ q. maybe (p q.1) none (λ k. some (made r.0 q.0 k.0, k.1))))) none (λ r. cond (is_empty r.1) (some r.0) none) ≡ none
      go true = unfold natural provided in refl
      go false = refl
  short_none (a ∷ b ∷ c ∷ l) h = absurd (omega arith)

  -- from three bytes on, what p reads decides
  pub last_part_lem : (a b c : ℕ) (l : List ℕ) → reads (a ∷ b ∷ c ∷ l) ≡ cond (ltb a hosts) (maybe (p l) none (λ k. cond (is_empty k.1) (some (made a (number (b ∷ c ∷ [])) k.0)) none)) none
  last_part_lem a b c l = rw (host_read a (b ∷ c ∷ l)) (go (ltb a hosts))
    where
      two : (o : Option (A × List ℕ)) → maybe {A = Request × List ℕ} (maybe o none (λ k. some (made a (number (b ∷ c ∷ [])) k.0, k.1))) none (λ r. cond (is_empty r.1) (some r.0) none)
          ≡ maybe o none (λ k. cond (is_empty k.1) (some (made a (number (b ∷ c ∷ [])) k.0)) none)
      two none = refl
      two (some k) = refl

      go : (t : Bool) → maybe {A = Request × List ℕ} (maybe (cond {A = Option (ℕ × List ℕ)} t (some (a, b ∷ c ∷ l)) none) none (λ r. maybe (natural process_width r.1) none (λ q. maybe (p q.1) none (λ k. some (made r.0 q.0 k.0, k.1))))) none (λ r. cond (is_empty r.1) (some r.0) none)
          ≡ cond t (maybe (p l) none (λ k. cond (is_empty k.1) (some (made a (number (b ∷ c ∷ [])) k.0)) none)) none
      go true = rw (process_read b c l) (two (p l))
      go false = refl

-- a number of w bytes and no more
whole_natural : (w : ℕ) (made : ℕ → Request) (l : List ℕ) → maybe (natural w l) none (λ k. cond (is_empty k.1) (some (made k.0)) none) ≡ cond (eqb (length l) w) (some (made (number (take w l)))) none
unfolding natural provided
whole_natural w made l = go (leb w (length l)) (eqb (length l) w) refl refl
  where
    empty : (r : List ℕ) → length r ≡ 0 → is_empty r ≡ true
    empty [] h = unfold is_empty in refl
    empty (a ∷ r) h = absurd (omega arith)

    more : (r : List ℕ) → 0 < length r → is_empty r ≡ false
    more [] h = absurd (omega arith)
    more (a ∷ r) h = unfold is_empty in refl

    go : (t u : Bool) → leb w (length l) ≡ t → eqb (length l) w ≡ u
        → maybe (cond {A = Option (ℕ × List ℕ)} t (some (number (take w l), drop w l)) none) none (λ k. cond (is_empty k.1) (some (made k.0)) none) ≡ cond u (some (made (number (take w l)))) none
    go true true p q = let e : length (drop w l) ≡ 0 = rw length-drop (omega (arith, eqb-true (length l) w q)) in rw (empty (drop w l) e)
    go true false p q = let e : 0 < length (drop w l) = rw length-drop (omega (arith, leb-true w (length l) p, eqb-false (length l) w q)) in rw (more (drop w l) e)
    go false true p q = absurd (omega (arith, leb-false w (length l) p, eqb-true (length l) w q))
    go false false p q = refl

close_request : (body : List ℕ) → whole_of close_body body ≡ cond (from_host body space_body) (some (close_space (get_or body host_at 0) (number_at process_at process_width body) (number_at space_at space_width body))) none
unfolding whole_of close_body ◌>>=◌ give provided from_host number_at
close_request [] = short_none (natural space_width) close_space [] (omega arith)
close_request (a ∷ []) = short_none (natural space_width) close_space (a ∷ []) (omega arith)
close_request (a ∷ b ∷ []) = short_none (natural space_width) close_space (a ∷ b ∷ []) (omega arith)
close_request (a ∷ b ∷ c ∷ l) = last_part_lem (natural space_width) close_space a b c l ∙ rw (whole_natural space_width (close_space a (number (b ∷ c ∷ []))) l, past (eqb (length l) space_width) refl) (go (eqb (length l) space_width) (ltb a hosts))
  where
    past : (u : Bool) → eqb (length l) space_width ≡ u → eqb (length (a ∷ b ∷ c ∷ l)) space_body ≡ u
    past true q = eq-eqb (length (a ∷ b ∷ c ∷ l)) space_body (omega (arith, eqb-true (length l) space_width q))
    past false q = ne_eqb (length (a ∷ b ∷ c ∷ l)) space_body (λ e. eqb-false (length l) space_width q (omega arith))

    go : (u t : Bool) → cond t (cond u (some (close_space a (number (b ∷ c ∷ [])) (number (take space_width l)))) none) none ≡ cond (u && t) (some (close_space a (number (b ∷ c ∷ [])) (number (take space_width l)))) none
    go true true = refl
    go true false = refl
    go false true = refl
    go false false = refl

-- of bytes it is a space number
pub space_within : (body : List ℕ) → ((k : ℕ) → get_or body k 0 < 256) → number_at space_at space_width body < space_numbers
space_within body h = number_at_lt space_at space_width body (bytes_of_lem body h)

-- the kind byte that is there
kind_read : (d : ℕ) (l : List ℕ) → space_kind (d ∷ l) ≡ cond (leb d 1) (some (eqb d 1, l)) none
unfolding space_kind
kind_read zero l = refl
kind_read (suc zero) l = refl
kind_read (suc (suc n)) l =
    let a : eqb (suc (suc n)) 0 ≡ false = ne_eqb (suc (suc n)) 0 (λ q. omega arith) in
    let b : eqb (suc (suc n)) 1 ≡ false = ne_eqb (suc (suc n)) 1 (λ q. omega arith) in
    let c : leb (suc (suc n)) 1 ≡ false = lt-leb (suc (suc n)) 1 (omega arith) in
    rw (a, b, c)

open_request : (body : List ℕ) → whole_of open_body body ≡ cond (from_host body process_body) (some (open_space (get_or body host_at 0) (number_at process_at process_width body) false))
    (cond (from_host body kind_body) (cond (leb (get_or body kind_at 0) 1) (some (open_space (get_or body host_at 0) (number_at process_at process_width body) (eqb (get_or body kind_at 0) 1))) none) none)
unfolding whole_of open_body ◌>>=◌ give provided from_host number_at
open_request [] = short_none space_kind open_space [] (omega arith)
open_request (a ∷ []) = short_none space_kind open_space (a ∷ []) (omega arith)
open_request (a ∷ b ∷ []) = short_none space_kind open_space (a ∷ b ∷ []) (omega arith)
open_request (a ∷ b ∷ c ∷ []) = last_part_lem space_kind open_space a b c [] ∙ go (ltb a hosts)
  where
    go : (t : Bool) → cond t (maybe (space_kind []) none (λ k. cond (is_empty k.1) (some (open_space a (number (b ∷ c ∷ [])) k.0)) none)) none ≡ cond t (some (open_space a (number (b ∷ c ∷ [])) false)) none
    go true = unfold space_kind is_empty in refl
    go false = refl
open_request (a ∷ b ∷ c ∷ d ∷ []) = last_part_lem space_kind open_space a b c (d ∷ []) ∙ go (ltb a hosts)
  where
    kind : (u : Bool) → maybe (cond {A = Option (Bool × List ℕ)} u (some (eqb d 1, [])) none) none (λ k. cond (is_empty k.1) (some (open_space a (number (b ∷ c ∷ [])) k.0)) none) ≡ cond u (some (open_space a (number (b ∷ c ∷ [])) (eqb d 1))) none
    kind true = unfold is_empty in refl
    kind false = refl

    go : (t : Bool) → cond t (maybe (space_kind (d ∷ [])) none (λ k. cond (is_empty k.1) (some (open_space a (number (b ∷ c ∷ [])) k.0)) none)) none
        ≡ cond t (cond (leb d 1) (some (open_space a (number (b ∷ c ∷ [])) (eqb d 1))) none) none
    go true = rw (kind_read d []) (kind (leb d 1))
    go false = refl
open_request (a ∷ b ∷ c ∷ d ∷ e ∷ l) =
    let n : eqb (length (a ∷ b ∷ c ∷ d ∷ e ∷ l)) process_body ≡ false = ne_eqb (length (a ∷ b ∷ c ∷ d ∷ e ∷ l)) process_body (λ q. omega arith) in
    let m : eqb (length (a ∷ b ∷ c ∷ d ∷ e ∷ l)) kind_body ≡ false = ne_eqb (length (a ∷ b ∷ c ∷ d ∷ e ∷ l)) kind_body (λ q. omega arith) in
    last_part_lem space_kind open_space a b c (d ∷ e ∷ l) ∙ go (ltb a hosts) ∙ sym (rw (n, m))
  where
    kind : (u : Bool) → maybe (cond {A = Option (Bool × List ℕ)} u (some (eqb d 1, e ∷ l)) none) none (λ k. cond (is_empty k.1) (some (open_space a (number (b ∷ c ∷ [])) k.0)) none) ≡ none
    kind true = unfold is_empty in refl
    kind false = refl

    go : (t : Bool) → cond t (maybe (space_kind (d ∷ e ∷ l)) none (λ k. cond (is_empty k.1) (some (open_space a (number (b ∷ c ∷ [])) k.0)) none)) none ≡ none
    go true = rw (kind_read d (e ∷ l)) (kind (leb d 1))
    go false = refl

module _ (body : List ℕ) where
  pub close_yes : (h p n : ℕ) → AreFrom body space_body h p → n ≡ number_at space_at space_width body → some (close_space h p n) ≡ request_of DS body
  unfolding request_of
  close_yes h p n f e = sym (close_request body ∙ rw (f.first.yes, f.first.at, f.second, e))

  pub close_no : from_host body space_body ≡ false → none ≡ request_of DS body
  unfolding request_of
  close_no z = sym (close_request body ∙ rw z)

  -- "byte absent: shared"
  pub open_short : (h p : ℕ) → AreFrom body process_body h p → some (open_space h p false) ≡ request_of MS body
  unfolding request_of
  open_short h p f = sym (open_request body ∙ rw (f.first.yes, f.first.at, f.second))

  module _ (z : from_host body process_body ≡ false) where
    pub open_no : from_host body kind_body ≡ false → none ≡ request_of MS body
    unfolding request_of
    open_no y = sym (open_request body ∙ rw (z, y))

    module _ (h p : ℕ) (f : AreFrom body kind_body h p) where
      pub open_other : 1 < get_or body kind_at 0 → none ≡ request_of MS body
      unfolding request_of
      open_other k = let c : leb (get_or body kind_at 0) 1 ≡ false = lt-leb (get_or body kind_at 0) 1 k in sym (open_request body ∙ rw (z, f.first.yes, c))

      pub open_yes : get_or body kind_at 0 ≤ 1 → some (open_space h p (eqb (get_or body kind_at 0) 1)) ≡ request_of MS body
      unfolding request_of
      open_yes k = let c : leb (get_or body kind_at 0) 1 ≡ true = le-leb (get_or body kind_at 0) 1 k in sym (open_request body ∙ rw (z, f.first.yes, c, f.first.at, f.second))
