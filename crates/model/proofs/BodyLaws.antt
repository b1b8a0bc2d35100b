-- "The stream": which bytes are the body of each mark, and what they ask. Assumes nothing.
use Rattle.std.specs.Prelude.{◌≡◌, refl, ◌↔◌, ◌⊎◌, ℕ, suc, ◌+◌, ◌*◌, ◌≤◌, ◌<◌, Bool, true, false, cond, length, take, drop, leb, ltb, eqb}
use Rattle.std.proofs.Common.{sym, ◌∙◌, inl, inr, arith, length-append, take-append-drop, take_at, drop_at, length-take-le, eqb→eq, le→leb, leb→le, ltb→lt}
use Rattle.std.proofs.Math.Path.{ap}
use Rattle.std.proofs.Math.Option.{Option, none, some, map, some-injective, none-ne-some}
use mathlib.Core.List.{List, [], ◌∷◌, ◌++◌, append-nil}
use Rattle.std.proofs.Math.Dec.{T, lt→ltb}
use Rattle.basis.specs.Choice.{maybe, provided}
use Rattle.basis.specs.Logic.{is_true}
use Rattle.basis.specs.Lists.{is_empty}
use Rattle.basis.specs.Numbers.{number}
use Rattle.basis.specs.NumberLaws.{number_one}
use Rattle.basis.specs.Sizes.{hosts, host_width, process_width, space_width}
use Rattle.model.specs.Statement.{Statement}
use Rattle.model.specs.Reading.{Reader, ◌>>=◌, give, refuse, natural, whole_of}
use Rattle.model.specs.Legal.{parse}
use Rattle.model.proofs.ReadBack.{then_some}
use Rattle.model.specs.Step.{Mark, RV, CR, MO, MS, DS, AG, Request, recover, crash, monitor, open_space, close_space, guarded, host, monitor_body, space_kind, open_body, close_body, request_of}

-- ---- the words

-- a host 0 to 15, a process in its bytes, the most significant first, and what is left
abbrev pub HostProcess : List ℕ → (host process : ℕ) (rest : List ℕ) → Type 0
HostProcess b h p rest = (h < hosts) × ((bytes : List ℕ) × (length bytes ≡ process_width) × (p ≡ number bytes) × (b ≡ h ∷ bytes ++ rest))

-- two bytes, the most significant first
pub two_bytes : (x y : ℕ) → number (x ∷ y ∷ []) ≡ x * 256 + y
unfolding number
two_bytes x y = omega arith

-- the kind byte: "0 shared, 1 private to the process; byte absent: shared"
abbrev pub KindByte : List ℕ → Bool → Type 0
KindByte b isPrivate = ((b ≡ []) × (isPrivate ≡ false)) ⊎ (((b ≡ 0 ∷ []) × (isPrivate ≡ false)) ⊎ ((b ≡ 1 ∷ []) × (isPrivate ≡ true)))

-- the bodies of the six marks
abbrev pub Body : Mark → List ℕ → Request → Type 0
Body RV b q = (h : ℕ) × (h < hosts) × (b ≡ h ∷ []) × (q ≡ recover h)
Body CR b q = (h : ℕ) × (h < hosts) × (b ≡ h ∷ []) × (q ≡ crash h)
Body MO b q = (h p : ℕ) × HostProcess b h p [] × (q ≡ monitor h p)
Body MS b q = (h p : ℕ) × (rest : List ℕ) × (isPrivate : Bool) × HostProcess b h p rest × KindByte rest isPrivate × (q ≡ open_space h p isPrivate)
Body DS b q = (h p n : ℕ) × (space : List ℕ) × HostProcess b h p space × (length space ≡ space_width) × (n ≡ number space) × (q ≡ close_space h p n)
Body AG b q = (st : Statement) × (parse b ≡ some st) × (q ≡ guarded st)

-- ---- readers

-- a reader that gives a and leaves rest exactly where P says so
abbrev Reads : {A : Type 0} → Reader A → (List ℕ → A → List ℕ → Type 0) → Type 0
Reads {A} p P = (b : List ℕ) (a : A) (rest : List ℕ) → (p b ≡ some (a, rest)) ↔ P b a rest

one_at : (n : ℕ) (rest : List ℕ) → natural host_width (n ∷ rest) ≡ some (n, rest)
unfolding natural provided
one_at n rest = rw (is_true (leb host_width (suc (length rest))) (le→leb host_width (suc (length rest)) (omega arith)), number_one n)

same_first : {A : Type 0} (a b : A) (s t : List ℕ) → ◌≡◌ {A = Option (A × List ℕ)} (some (a, s)) (some (b, t)) → (a ≡ b) × (s ≡ t)
same_first {A} a b s t e = let p = some-injective (a, s) (b, t) e in (ap (λ (z : A × List ℕ). z.0) p, ap (λ (z : A × List ℕ). z.1) p)

none_at : {A B : Type 0} (o : Option A) (a : A) → o ≡ none → o ≡ some a → B
none_at o a p q = absurd (none-ne-some a (sym p ∙ q))

one_nil : natural host_width [] ≡ none
unfolding natural provided
one_nil = refl

nil_cons : {B : Type 0} (a : ℕ) (l : List ℕ) → [] ≡ a ∷ l → B
nil_cons a l e = let z : ◌≡◌ {A = ℕ} 0 1 = cc in absurd (omega arith)

one_reads : Reads (natural host_width) (λ b n rest. b ≡ n ∷ rest)
one_reads [] n rest = (λ e. none_at (natural host_width []) (n, rest) one_nil e, λ e. nil_cons n rest e)
one_reads (m ∷ b) n rest = (
  λ e. let p = same_first m n b rest (sym (one_at m b) ∙ e) in let i = p.0 in let j = p.1 in cc,
  λ e. rw e (one_at n rest),
)

-- a number in w bytes, and what is left
abbrev InBytes : ℕ → List ℕ → ℕ → List ℕ → Type 0
InBytes w b n rest = (front : List ℕ) × (length front ≡ w) × (n ≡ number front) × (b ≡ front ++ rest)

natural_reads : (w : ℕ) → Reads (natural w) (InBytes w)
unfolding natural provided
natural_reads w b n rest = (to (leb w (length b)) refl, from)
  where
    to : (c : Bool) → leb w (length b) ≡ c → cond {A = Option (ℕ × List ℕ)} c (some (number (take w b), drop w b)) none ≡ some (n, rest) → InBytes w b n rest
    to true q e =
        let p = same_first (number (take w b)) n (drop w b) rest e in
        (take w b, length-take-le w b (leb→le w (length b) (rw q tt)), sym p.0, sym (take-append-drop w b) ∙ ap (λ (l : List ℕ). take w b ++ l) p.1)
    to false q e = absurd (none-ne-some (n, rest) e)

    from : InBytes w b n rest → cond {A = Option (ℕ × List ℕ)} (leb w (length b)) (some (number (take w b), drop w b)) none ≡ some (n, rest)
    from (front, l, e, f) =
        let long : w ≤ length b = omega (arith, ap length f, length-append front rest) in
        let head : take w b ≡ front = ap (take w) f ∙ take_at front rest w l in
        let tail : drop w b ≡ rest = ap (drop w) f ∙ drop_at front rest w l in
        rw (is_true (leb w (length b)) (le→leb w (length b) long), head, tail, e)

-- one reader after another
then_reads : {A B : Type 0} (p : Reader A) (f : A → Reader B) (P : List ℕ → A → List ℕ → Type 0) (Q : A → List ℕ → B → List ℕ → Type 0) → Reads p P → ((a : A) → Reads (f a) (Q a))
    → Reads (p >>= f) (λ b x rest. (a : A) × (left : List ℕ) × P b a left × Q a left x rest)
unfolding ◌>>=◌
then_reads p f P Q hp hf b x rest = (
  λ e. let t = then_some p f b (x, rest) (unfold ◌>>=◌ in e) in (t.item, t.left, (hp b t.item t.left).0 t.first, (hf t.item t.left x rest).0 t.later),
  λ q. rw ((hp b q.0 q.1).1 q.2) ((hf q.0 q.1 x rest).1 q.3),
)

give_reads : {A : Type 0} (a : A) → Reads (give a) (λ b x rest. (x ≡ a) × (b ≡ rest))
unfolding give
give_reads a b x rest = (λ e. let p = same_first a x b rest e in (sym p.0, p.1), λ q. rw (q.0, q.1))

checked_reads : (h : ℕ) → Reads (cond (ltb h hosts) (give h) refuse) (λ b x rest. (h < hosts) × (x ≡ h) × (b ≡ rest))
unfolding refuse
checked_reads h b x rest = go (ltb h hosts) refl
  where
    go : (c : Bool) → ltb h hosts ≡ c → (cond c (give h) refuse b ≡ some (x, rest)) ↔ ((h < hosts) × (x ≡ h) × (b ≡ rest))
    go true q = (λ e. let r = (give_reads h b x rest).0 e in let l = ltb→lt h hosts (rw q tt) in (omega arith, r.0, r.1), λ r. (give_reads h b x rest).1 (r.1, r.2))
    go false q = unfold refuse in (λ e. absurd (none-ne-some (x, rest) e), λ r. let l : T (ltb h hosts) = lt→ltb h hosts (omega (arith, r.0)) in absurd (rw q at l))

host_reads : Reads host (λ b h rest. (h < hosts) × (b ≡ h ∷ rest))
unfolding host
host_reads b h rest =
    let r = then_reads (natural host_width) (λ h. cond (ltb h hosts) (give h) refuse) (λ b n rest. b ≡ n ∷ rest) (λ n b x rest. (n < hosts) × (x ≡ n) × (b ≡ rest)) one_reads checked_reads b h rest in (
      λ e. let q = r.0 e in let l = q.3.0 in let i = q.3.1 in let j = q.3.2 in let k = q.2 in (rw i l, cc),
      λ q. r.1 (h, rest, q.1, (q.0, refl, refl)),
    )

whole_reads : {A : Type 0} (p : Reader A) (b : List ℕ) (a : A) → (whole_of p b ≡ some a) ↔ (p b ≡ some (a, []))
unfolding whole_of provided is_empty
whole_reads {A} p b a = go (p b)
  where
    go : (o : Option (A × List ℕ)) → (maybe o none (λ r. cond (is_empty r.1) (some r.0) none) ≡ some a) ↔ (o ≡ some (a, []))
    go none = (λ e. absurd (none-ne-some a e), λ e. absurd (none-ne-some (a, []) e))
    go (some (x, [])) = unfold is_empty in (λ e. ap (λ (y : A). some (y, [])) (some-injective x a e), λ e. ap some (same_first x a [] [] e).0)
    go (some (x, c ∷ l)) = unfold is_empty in (λ e. absurd (none-ne-some a e), λ e. nil_cons c l (sym (same_first x a (c ∷ l) [] e).1))

-- ---- the bodies

asked_reads : (f : ℕ → ℕ → Reader Request) (Q : ℕ → ℕ → List ℕ → Request → List ℕ → Type 0) → ((h p : ℕ) → Reads (f h p) (Q h p))
    → Reads (host >>= λ h. natural process_width >>= λ p. f h p) (λ b x rest. (h p : ℕ) × (left : List ℕ) × HostProcess b h p left × Q h p left x rest)
asked_reads f Q hf b x rest =
    let r = then_reads host (λ h. natural process_width >>= λ p. f h p) (λ b h rest. (h < hosts) × (b ≡ h ∷ rest)) (λ h b x rest. (p : ℕ) × (left : List ℕ) × InBytes process_width b p left × Q h p left x rest) host_reads
    (λ h. then_reads (natural process_width) (f h) (InBytes process_width) (Q h) (natural_reads process_width) (hf h)) b x rest in (
      λ e.
          let q = r.0 e in
          let h = q.0 in
          let m = q.3 in
          let t = m.2 in
          (h, m.0, m.1, (q.2.0, (t.0, t.1, t.2, q.2.1 ∙ ap (λ (l : List ℕ). h ∷ l) t.3)), m.3),
      λ q.
          let t = q.3.1 in
          r.1 (q.0, t.0 ++ q.2, (q.3.0, t.3), (q.1, q.2, (t.0, t.1, t.2, refl), q.4)),
    )

abbrev KindRead : List ℕ → Bool → List ℕ → Type 0
KindRead b k rest = ((b ≡ []) × (k ≡ false) × (rest ≡ [])) ⊎ (((b ≡ 0 ∷ rest) × (k ≡ false)) ⊎ ((b ≡ 1 ∷ rest) × (k ≡ true)))

kind_to : (b : List ℕ) (k : Bool) (rest : List ℕ) → space_kind b ≡ some (k, rest) → KindRead b k rest
unfolding space_kind
kind_to [] k rest e = let p = same_first false k [] rest e in inl (refl, sym p.0, sym p.1)
kind_to (c ∷ b) k rest e = go (eqb c 0) refl (eqb c 1) refl e
  where
    go : (x : Bool) → eqb c 0 ≡ x → (y : Bool) → eqb c 1 ≡ y → cond {A = Option (Bool × List ℕ)} x (some (false, b)) (cond y (some (true, b)) none) ≡ some (k, rest) → KindRead (c ∷ b) k rest
    go true q y r e = let p = same_first false k b rest e in let z = eqb→eq c 0 (rw q tt) in let j = p.1 in inr (inl (cc, sym p.0))
    go false q true r e = let p = same_first true k b rest e in let z = eqb→eq c 1 (rw r tt) in let j = p.1 in inr (inr (cc, sym p.0))
    go false q false r e = absurd (none-ne-some (k, rest) e)

kind_from : (b : List ℕ) (k : Bool) (rest : List ℕ) → KindRead b k rest → space_kind b ≡ some (k, rest)
unfolding space_kind
kind_from b k rest (inl q) = rw (q.0, q.1, q.2)
kind_from b k rest (inr (inl q)) = rw (q.0, q.1)
kind_from b k rest (inr (inr q)) = rw (q.0, q.1)

kind_reads : Reads space_kind KindRead
kind_reads b k rest = (kind_to b k rest, kind_from b k rest)

kind_words : (b : List ℕ) (k : Bool) → KindRead b k [] ↔ KindByte b k
kind_words b k = (to, from)
  where
    to : KindRead b k [] → KindByte b k
    to (inl q) = inl (q.0, q.1)
    to (inr q) = inr q

    from : KindByte b k → KindRead b k []
    from (inl q) = inl (q.0, q.1, refl)
    from (inr q) = inr q

map_iff : {A : Type 0} (made : A → Request) (o : Option A) (q : Request) → (map made o ≡ some q) ↔ ((a : A) × (o ≡ some a) × (q ≡ made a))
map_iff made none q = (λ e. absurd (none-ne-some q e), λ r. absurd (none-ne-some r.0 r.1))
map_iff made (some a) q = (λ e. (a, refl, sym (some-injective (made a) q e)), λ r. rw (r.2, some-injective a r.0 r.1))

host_body_lem : (b : List ℕ) (h : ℕ) → (whole_of host b ≡ some h) ↔ ((h < hosts) × (b ≡ h ∷ []))
host_body_lem b h = (λ e. (host_reads b h []).0 ((whole_reads host b h).0 e), λ q. (whole_reads host b h).1 ((host_reads b h []).1 q))

hosts_body : (made : ℕ → Request) (b : List ℕ) (q : Request) → (map made (whole_of host b) ≡ some q) ↔ ((h : ℕ) × (h < hosts) × (b ≡ h ∷ []) × (q ≡ made h))
hosts_body made b q =
    let r = map_iff made (whole_of host b) q in (
      λ e. let t = r.0 e in let w = (host_body_lem b t.0).0 t.1 in (t.0, w.0, w.1, t.2),
      λ t. r.1 (t.0, (host_body_lem b t.0).1 (t.1, t.2), t.3),
    )

-- a body asks exactly what its bytes say
pub body_iff : (m : Mark) (b : List ℕ) (q : Request) → (request_of m b ≡ some q) ↔ Body m b q
unfolding request_of monitor_body open_body close_body
body_iff RV b q = hosts_body recover b q
body_iff CR b q = hosts_body crash b q
body_iff MO b q =
    let r = asked_reads (λ h p. give (monitor h p)) (λ h p b x rest. (x ≡ monitor h p) × (b ≡ rest)) (λ h p. give_reads (monitor h p)) b q [] in
    let w = whole_reads monitor_body b q in (
      λ e. let t = r.0 (w.0 e) in let n = t.4.1 in (t.0, t.1, rw n at t.3, t.4.0),
      λ t. w.1 (r.1 (t.0, t.1, [], t.2, (t.3, refl))),
    )
body_iff MS b q =
    let r = asked_reads (λ h p. space_kind >>= λ k. give (open_space h p k)) (λ h p b x rest. (k : Bool) × (left : List ℕ) × KindRead b k left × ((x ≡ open_space h p k) × (left ≡ rest)))
    (λ h p. then_reads space_kind (λ k. give (open_space h p k)) KindRead (λ k b x rest. (x ≡ open_space h p k) × (b ≡ rest)) kind_reads (λ k. give_reads (open_space h p k))) b q [] in
    let w = whole_reads open_body b q in (
      λ e. let t = r.0 (w.0 e) in let n = t.4 in (t.0, t.1, t.2, n.0, t.3, (kind_words t.2 n.0).0 (rw n.3.1 at n.2), n.3.0),
      λ t. w.1 (r.1 (t.0, t.1, t.2, t.4, (t.3, [], (kind_words t.2 t.3).1 t.5, (t.6, refl)))),
    )
body_iff DS b q =
    let r = asked_reads (λ h p. natural space_width >>= λ n. give (close_space h p n)) (λ h p b x rest. (n : ℕ) × (left : List ℕ) × InBytes space_width b n left × ((x ≡ close_space h p n) × (left ≡ rest)))
    (λ h p. then_reads (natural space_width) (λ n. give (close_space h p n)) (InBytes space_width) (λ n b x rest. (x ≡ close_space h p n) × (b ≡ rest)) (natural_reads space_width) (λ n. give_reads (close_space h p n))) b q [] in
    let w = whole_reads close_body b q in (
      λ e.
          let t = r.0 (w.0 e) in
          let n = t.4 in
          let i = n.2 in
          let all : t.2 ≡ i.0 = i.3 ∙ (ap (λ (l : List ℕ). i.0 ++ l) n.3.1 ∙ append-nil i.0) in
          (t.0, t.1, n.0, t.2, t.3, ap length all ∙ i.1, i.2 ∙ ap number (sym all), n.3.0),
      λ t. w.1 (r.1 (t.0, t.1, t.3, t.4, (t.2, [], (t.3, t.5, t.6, sym (append-nil t.3)), (t.7, refl)))),
    )
body_iff AG b q = map_iff guarded (parse b) q
