-- Rules 5 and 7 and the values of a reply in their words: who is woken, what comes of it, and when it ends. Assumes nothing.
use Rattle.std.specs.Prelude.{◌≡◌, ◌↔◌, ◌⊎◌, not, length, get_or, T}
use Rattle.std.proofs.Math.Path.{refl}
use Rattle.std.proofs.Common.{sym, ap, subst, ◌∙◌, inl, inr, le_refl, arith, T_not, lt→ltb}
use Prim.Native.Nat.{ℕ, zero, suc, ◌+◌, ◌≤◌, ◌<◌}
use Rattle.std.proofs.Math.Option.{none, some, some-injective, none-ne-some}
use mathlib.Core.List.Memᴰ
use mathlib.Core.List.{List, [], ◌∷◌, ◌++◌, Memᴰ}
use Rattle.std.proofs.Math.Dec.{not_T, ltb, ltb→lt}
use Rattle.basis.specs.Choice.{maybe-ind}
use Rattle.basis.specs.Logic.{and_l, and_r, both}
use Rattle.basis.specs.Lists.{all, pairwise}
use Rattle.basis.specs.ListLaws.{Each, each_nil, all_at, all_of}
use Rattle.basis.specs.IndexLaws.{Least, least_of_first, least_removed}
use Rattle.model.specs.Value.{Value}
use Rattle.model.specs.Statement.{Statement}
use Rattle.model.specs.Matching.{Tuple, Bindings}
use Rattle.model.specs.Execution.{Result, done, failed, ready, Executed, tuples_after}
use Rattle.model.proofs.OperationLaws.{without}
use Rattle.model.proofs.ExecutionLaws.{Ready, ready_iff, Runs, attempt_runs}
use Rattle.model.specs.Run.{Waiting, Run, with_tuples, with_waiting, Reply, bound_from, outcome_of, values_of, ran_reply, Turn, woken_by, wake, laid, continued, settle_within, settle}
use Rattle.model.specs.Valid.{none_ready}
use Rattle.model.proofs.Settle.{wake_some, wake_none, turn_shorter}

-- ---- the values of a reply

-- "all its bound variables in rising number"
pub record Bound (bs : Bindings) (vs : List (ℕ × Value)) : Type 0 where
  pub exactly : (x : ℕ) (v : Value) → Memᴰ (x, v) vs ↔ (get_or bs x none ≡ some v)
  pub rise : T (pairwise (λ a b. ltb a.0 b.0) vs)

bound_to_lem : (k : ℕ) (bs : Bindings) (a : ℕ × Value) → Memᴰ a (bound_from k bs) → (i : ℕ) × (a.0 ≡ k + i) × (get_or bs i none ≡ some a.1)
unfolding bound_from
bound_to_lem k [] a m = absurd (Memᴰ.not-nil m)
bound_to_lem k (none ∷ bs) a m = let r = bound_to_lem (suc k) bs a m in (suc r.0, r.1 ∙ omega arith, r.2)
bound_to_lem k (some u ∷ bs) a m = go (Memᴰ.cases_cons m) (bound_to_lem (suc k) bs a)
  where
    go : (a ≡ (k, u)) ⊎ Memᴰ a (bound_from (suc k) bs) → (Memᴰ a (bound_from (suc k) bs) → (i : ℕ) × (a.0 ≡ suc k + i) × (get_or bs i none ≡ some a.1))
        → (i : ℕ) × (a.0 ≡ k + i) × (get_or (some u ∷ bs) i none ≡ some a.1)
    go (inl e) later = (0, ap (λ (z : ℕ × Value). z.0) e ∙ omega arith, ap (λ (z : ℕ × Value). some z.1) (sym e))
    go (inr m) later = let r = later m in (suc r.0, r.1 ∙ omega arith, r.2)

bound_from_lem : (k : ℕ) (bs : Bindings) (i : ℕ) (v : Value) → get_or bs i none ≡ some v → Memᴰ (k + i, v) (bound_from k bs)
unfolding bound_from
bound_from_lem k [] i v e = absurd (none-ne-some v e)
bound_from_lem k (none ∷ bs) zero v e = absurd (none-ne-some v e)
bound_from_lem k (some u ∷ bs) zero v e =
    let z : k + 0 ≡ k = omega arith in
    let w : ◌≡◌ {A = ℕ × Value} (k + 0, v) (k, u) = rw (z, some-injective u v e) in
    Memᴰ.head w
bound_from_lem k (none ∷ bs) (suc i) v e = let z : k + suc i ≡ suc k + i = omega arith in rw z (bound_from_lem (suc k) bs i v e)
bound_from_lem k (some u ∷ bs) (suc i) v e = let z : k + suc i ≡ suc k + i = omega arith in rw z (Memᴰ.tail (bound_from_lem (suc k) bs i v e))

bound_rise : (k : ℕ) (bs : Bindings) → T (pairwise (λ a b. ltb a.0 b.0) (bound_from k bs))
unfolding bound_from pairwise
bound_rise k [] = tt
bound_rise k (none ∷ bs) = bound_rise (suc k) bs
bound_rise k (some u ∷ bs) =
    both (all (λ (b : ℕ × Value). ltb k b.0) (bound_from (suc k) bs)) (pairwise (λ a b. ltb a.0 b.0) (bound_from (suc k) bs))
    (all_of (λ (b : ℕ × Value). ltb k b.0) (bound_from (suc k) bs) (λ b m. let r = bound_to_lem (suc k) bs b m in let e = r.1 in lt→ltb k b.0 (omega arith)))
    (bound_rise (suc k) bs)

-- "A statement's values are all its bound variables in rising number"
pub bound_words : (bs : Bindings) → Bound bs (bound_from 0 bs)
bound_words bs = record {
  exactly = λ x v. (
    λ m. let r = bound_to_lem 0 bs (x, v) m in let e : r.0 ≡ x = sym (r.1 ∙ omega arith) in rw (← e) r.2,
    λ q. let z : 0 + x ≡ x = omega arith in rw z at (bound_from_lem 0 bs x v q),
  );
  rise = bound_rise 0 bs;
}

-- rising lists of the same members are the same
same_rising : (l m : List (ℕ × Value)) → T (pairwise (λ a b. ltb a.0 b.0) l) → T (pairwise (λ a b. ltb a.0 b.0) m) → ((a : ℕ × Value) → Memᴰ a l ↔ Memᴰ a m) → l ≡ m
unfolding pairwise
same_rising [] [] p q h = refl
same_rising [] (b ∷ m) p q h = absurd (Memᴰ.not-nil ((h b).1 (Memᴰ.head refl)))
same_rising (a ∷ l) [] p q h = absurd (Memᴰ.not-nil ((h a).0 (Memᴰ.head refl)))
same_rising (a ∷ l) (b ∷ m) p q h =
    let above = above_first a l p in
    let over = above_first b m q in
    let e = firsts above over (Memᴰ.cases_cons ((h a).0 (Memᴰ.head refl))) (Memᴰ.cases_cons ((h b).1 (Memᴰ.head refl))) in
    let tails = same_rising l m (and_r (all (λ (c : ℕ × Value). ltb a.0 c.0) l) _ p) (and_r (all (λ (c : ℕ × Value). ltb b.0 c.0) m) _ q)
    (λ x. (λ i. later b m x e (above x i) (Memᴰ.cases_cons ((h x).0 (Memᴰ.tail i))), λ i. later a l x (sym e) (over x i) (Memᴰ.cases_cons ((h x).1 (Memᴰ.tail i))))) in
    ap (λ (k : List (ℕ × Value)). a ∷ k) tails ∙ ap (λ (c : ℕ × Value). c ∷ m) e
  where
    above_first : (c : ℕ × Value) (k : List (ℕ × Value)) → T (pairwise (λ a b. ltb a.0 b.0) (c ∷ k)) → Each (λ (x : ℕ × Value). c.0 < x.0) k
    above_first c k t x i = unfold pairwise in ltb→lt c.0 x.0 (all_at (λ (x : ℕ × Value). ltb c.0 x.0) k (and_l (all (λ (x : ℕ × Value). ltb c.0 x.0) k) _ t) x i)

    firsts : Each (λ (x : ℕ × Value). a.0 < x.0) l → Each (λ (x : ℕ × Value). b.0 < x.0) m → (a ≡ b) ⊎ Memᴰ a m → (b ≡ a) ⊎ Memᴰ b l → a ≡ b
    firsts above over (inl e) j = e
    firsts above over (inr i) (inl e) = sym e
    firsts above over (inr i) (inr j) = let u = above b j in let v = over a i in absurd (omega arith)

    later : (c : ℕ × Value) (k : List (ℕ × Value)) (x : ℕ × Value) {d : ℕ × Value} → d ≡ c → d.0 < x.0 → (x ≡ c) ⊎ Memᴰ x k → Memᴰ x k
    later c k x e low (inl z) = let u = ap (λ (y : ℕ × Value). y.0) (e ∙ sym z) in absurd (omega arith)
    later c k x e low (inr i) = i

-- these words tell which list it is
pub bound_only : (bs : Bindings) (vs : List (ℕ × Value)) → Bound bs vs → vs ≡ bound_from 0 bs
bound_only bs vs h =
    let w = bound_words bs in
    same_rising vs (bound_from 0 bs) h.rise w.rise
    (λ a. (λ i. (w.exactly a.0 a.1).1 ((h.exactly a.0 a.1).0 i), λ i. (h.exactly a.0 a.1).1 ((w.exactly a.0 a.1).0 i)))

-- ---- rule 5: what comes of a statement that ran

-- Done, it leaves its tuples and answers 0 with its variables. If an operation fails "the whole statement, guard included, changes nothing", and answers that number with no values.
abbrev pub Ends : Result → (before after : List Tuple) → Reply → Type 0
Ends (done bs ts) before after r = (after ≡ ts) × (r.outcome ≡ 0) × Bound bs r.values
Ends (failed n) before after r = (after ≡ before) × (r.outcome ≡ n) × (r.values ≡ [])

-- the reply goes to the statement's host and process, at the position of its record, with the branch that ran
pub record Answered (number : ℕ) (st : Statement) (e : Executed) (before after : List Tuple) (r : Reply) : Type 0 where
  pub position : r.position ≡ number
  pub host : r.host ≡ st.host
  pub process : r.process ≡ st.process
  pub branch : r.branch ≡ e.branch
  pub ends : Ends e.result before after r

ends_words : (p : ℕ) (st : Statement) (e : Executed) (before : List Tuple) → Ends e.result before (tuples_after before e.result) (ran_reply p st e)
unfolding ran_reply outcome_of values_of tuples_after
ends_words p st e before = go e.result refl
  where
    go : (r : Result) → e.result ≡ r → Ends r before (tuples_after before r) (ran_reply p st e)
    go (done bs ts) q = unfold ran_reply outcome_of values_of tuples_after in (refl, rw q refl, rw q (bound_words bs))
    go (failed n) q = unfold ran_reply outcome_of values_of tuples_after in (refl, rw q refl, rw q refl)

-- a statement that ran is so answered
pub answered_words : (p : ℕ) (st : Statement) (e : Executed) (before : List Tuple) → Answered p st e before (tuples_after before e.result) (ran_reply p st e)
unfolding ran_reply
answered_words p st e before = record { position = refl; host = refl; process = refl; branch = refl; ends = ends_words p st e before }

-- ---- rule 7

-- The oldest waiting statement with a guard that holds runs, is answered, "and leaves the queue, whatever its outcome"; nothing but the tuples and the queue changes.
pub record WokenWords (s : Run) (t : Turn) : Type 0 where
  pub index : ℕ
  pub woken : Waiting
  pub executed : Executed
  pub tuples : List Tuple
  pub reply : Reply
  pub oldest : Least (λ (w : Waiting). Ready s.tuples w.statement) s.waiting index woken
  pub runs : Runs s.tuples woken.statement executed
  pub answered : Answered woken.position woken.statement executed s.tuples tuples reply
  pub replies : t.replies ≡ reply ∷ []
  pub run : t.run ≡ with_tuples (with_waiting s (without oldest)) tuples

readies : (s : Run) (w : Waiting) → T (ready s.tuples w.statement) ↔ Ready s.tuples w.statement
readies s w = ready_iff s.tuples w.statement

-- a turn of rule 7
pub woken_words : (s : Run) (t : Turn) → wake s ≡ some t → WokenWords s t
unfolding woken_by
woken_words s t e =
    let w = wake_some s t e in
    let f = w.found in
    let x = w.executed in
    let o = least_of_first (λ (w : Waiting). ready s.tuples w.statement) (λ (w : Waiting). Ready s.tuples w.statement) (readies s) s.waiting f w.oldest in
    record {
      index = f.index;
      woken = f.item;
      executed = x;
      tuples = tuples_after s.tuples x.result;
      reply = ran_reply f.item.position f.item.statement x;
      oldest = o;
      runs = attempt_runs s.tuples f.item.statement x w.attempted;
      answered = answered_words f.item.position f.item.statement x s.tuples;
      replies = ap (λ (u : Turn). u.replies) w.turned;
      run = ap (λ (u : Turn). u.run) w.turned ∙ ap (λ (q : List Waiting). with_tuples (with_waiting s q) (tuples_after s.tuples x.result)) (least_removed (λ (w : Waiting). Ready s.tuples w.statement) s.waiting f.index f.item o);
    }

-- no waiting statement has a guard that holds
abbrev pub Calm : Run → Type 0
Calm s = Each (λ (w : Waiting). ¬ Ready s.tuples w.statement) s.waiting

-- the test is the words
pub calm_iff : (s : Run) → T (none_ready s) ↔ Calm s
unfolding none_ready
calm_iff s = (
  λ t w m r. T_not (ready s.tuples w.statement) (all_at (λ w. not (ready s.tuples w.statement)) s.waiting t w m) ((readies s w).1 r),
  λ c. all_of (λ w. not (ready s.tuples w.statement)) s.waiting (λ w m. not_T (ready s.tuples w.statement) (λ t. c w m ((readies s w).0 t))),
)

-- turns from one run to another, "until none holds", and their replies one after the other; after each of them what is owed is laid (`Laying`), and the queue is searched again
pub data Settles : Run → Run → List Reply → Type 0 where
  calm : {s : Run} → Calm s → Settles s s []
  turn : {s u : Run} {rs : List Reply} (t : Turn) → WokenWords s t → Settles (laid t.run) u rs → Settles s u (t.replies ++ rs)

within_words : (n : ℕ) (s : Run) → length s.waiting ≤ n → Settles s (settle_within n s).run (settle_within n s).replies
unfolding settle_within continued
within_words zero s h = calm (go s.waiting h)
  where
    go : (ws : List Waiting) → length ws ≤ 0 → Each (λ (w : Waiting). ¬ Ready s.tuples w.statement) ws
    go [] h = each_nil _
    go (w ∷ ws) h = absurd (omega arith)
within_words (suc n) s h =
    maybe-ind (λ (t : Turn). Settles s t.run t.replies) (wake s) _ _ (λ e. calm ((calm_iff s).0 (wake_none s e)))
    (λ t e. turn t (woken_words s t e) (within_words n (laid t.run) (omega (arith, turn_shorter s t e))))

-- "this repeats from the oldest until none holds"
pub settle_words : (s : Run) → Settles s (settle s).run (settle s).replies
unfolding settle
settle_words s = within_words (length s.waiting) s (le_refl (length s.waiting))

-- rule 5 of a woken statement: where an operation fails it leaves the queue, and nothing else changes
pub woken_failed : (s : Run) (t : Turn) (w : WokenWords s t) (n : ℕ) → w.executed.result ≡ failed n → (t.run ≡ with_waiting s (without w.oldest)) × (w.reply.outcome ≡ n) × (w.reply.values ≡ [])
woken_failed s t w n e =
    let h : Ends (failed n) s.tuples w.tuples w.reply = subst (λ (r : Result). Ends r s.tuples w.tuples w.reply) e w.answered.ends in
    (w.run ∙ rw h.0, h.1, h.2)
