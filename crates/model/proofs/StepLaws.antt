-- A step in its words: the first check that fails, what a refused record leaves, and what a statement comes to. Assumes nothing.
use Rattle.std.specs.Prelude.{◌≡◌, ◌⊎◌, ℕ, ◌≤◌, ◌<◌, Bool, not, cond, length, T, leb}
use Rattle.std.proofs.Math.Path.{refl, ap}
use Rattle.std.proofs.Common.{sym, subst, ◌∙◌, inl, inr, arith, true≢false, leb→le}
use Rattle.std.proofs.Math.Bool.{true, false}
use Rattle.std.proofs.Math.Option.{Option, none, some}
use mathlib.Core.List.{List, [], ◌∷◌, ◌++◌, append-nil, Memᴰ}
use Rattle.std.proofs.Math.Dec.{nleb→lt}
use Rattle.basis.specs.Choice.{maybe, first_number}
use Rattle.basis.specs.ListLaws.{Each, each_nil, each-cons, each_append, any_at, any_of_lem}
use Rattle.basis.specs.IndexLaws.{Decides}
use Rattle.basis.specs.Sizes.{most_waiting}
use Rattle.model.specs.Value.{Value}
use Rattle.model.specs.Statement.{Field, Operation, always, lookup, deposit, transfer, Branch, Statement}
use Rattle.model.specs.Matching.{Tuple}
use Rattle.model.specs.Execution.{Result, done, failed, is_blocking, can_wait, Executed, attempt, tuples_after}
use Rattle.model.proofs.ExecutionLaws.{Holds, Ready, Runs, attempt_runs, attempt_unmet, failure_number}
use Rattle.model.specs.Run.{Waiting, Run, with_last, with_tuples, with_waiting, has_room, owes_some, laid, Reply, ran_reply, Turn, continued, settle}
use Rattle.model.proofs.RunLaws.{Ends, Answered, answered_words, Calm, calm_iff, Settles, settle_words}
use Rattle.model.specs.Step.{Record, Request, recover, crash, monitor, open_space, close_space, guarded, request_of, checks, asking_host, asking_process, plain_reply, refused, malformed, replied, unmet, ran, effect, settled, handled, step}
use Rattle.model.proofs.RowLaws.{rows, FirstRow, NoRow, first_row, no_row}
use Rattle.model.specs.Valid.{none_ready, owes_only_full}
use Rattle.model.proofs.Debts.{laid_still}
use Rattle.model.proofs.Settle.{settle_of_calm}

-- ---- the checks, in order

-- a reply to a record that is not a statement, or for which no branch was chosen
abbrev pub answer : (position host process outcome : ℕ) → List (ℕ × Value) → Reply
answer p h c n vs = record { position = p; host = h; process = c; outcome = n; branch = 0; values = vs }

-- "one reply carries the number, nothing else changes"
abbrev pub Refused : Run → (host process outcome : ℕ) → Turn → Type 0
Refused s h c n t = t ≡ record { run = s; replies = answer s.last h c n [] ∷ [] }

-- 6 is the first check: "For 6 the reply has host 255, process 65,535"
pub step_malformed : (s : Run) (r : Record) → request_of r.mark r.body ≡ none → Refused (with_last s r.position) 255 65535 6 (step s r)
unfolding step malformed refused plain_reply
step_malformed s r e = rw e

-- else the step goes by what the record asks, with the last number set
pub step_asks : (s : Run) (r : Record) (q : Request) → request_of r.mark r.body ≡ some q → step s r ≡ handled (with_last s r.position) q
unfolding step
step_asks s r q e = rw e

-- "the first that fails gives the one reply, and nothing else changes"
pub first_check : (s : Run) (q : Request) (n : ℕ) → FirstRow (rows s q) n → Refused s (asking_host q) (asking_process q) n (handled s q)
unfolding handled refused plain_reply
first_check s q n f = rw ((first_row s q n).1 f)

-- and where none fails the record has its effect
pub all_checks : (s : Run) (q : Request) → NoRow (rows s q) → handled s q ≡ settled (effect s q)
unfolding handled
all_checks s q f = rw ((no_row s q).1 f)

-- one or the other
pub check_cases : (s : Run) (q : Request) → NoRow (rows s q) ⊎ ((n : ℕ) × FirstRow (rows s q) n)
check_cases s q = go (first_number (checks s q)) refl
  where
    go : (o : Option ℕ) → first_number (checks s q) ≡ o → NoRow (rows s q) ⊎ ((n : ℕ) × FirstRow (rows s q) n)
    go none e = inl ((no_row s q).0 e)
    go (some n) e = inr (n, (first_row s q n).0 e)

-- The effect leaves the run s and the own replies; what is owed is laid (`Laying`); "Then rule 7 runs, with a reply for each statement in turn": "The own reply comes first, then woken ones".
pub record Then (s : Run) (own : List Reply) (t : Turn) : Type 0 where
  pub woken : List Reply
  pub settles : Settles (laid s) t.run woken
  pub replies : t.replies ≡ own ++ woken

-- so it is after every effect
pub settled_words : (t : Turn) → Then t.run t.replies (settled t)
unfolding settled continued
settled_words t = record { woken = (settle (laid t.run)).replies; settles = settle_words (laid t.run); replies = refl }

-- ---- what a statement comes to

-- "some guard is in or rd"
abbrev pub CanWait : Statement → Type 0
CanWait st = (b : Branch) × Memᴰ b st.branches × ((withdraws : Bool) × (s : ℕ) × (fs : List Field) × (b.guard ≡ lookup withdraws true s fs))

abbrev Blocking : Operation → Type 0
Blocking o = (withdraws : Bool) × (s : ℕ) × (fs : List Field) × (o ≡ lookup withdraws true s fs)

blocking_iff : Decides is_blocking Blocking
unfolding is_blocking
blocking_iff always = (λ t. absurd t, λ q. let e = q.3 in let z : ◌≡◌ {A = ℕ} 0 1 = cc in absurd (omega arith))
blocking_iff (lookup withdraws true s fs) = (λ t. (withdraws, s, fs, refl), λ q. tt)
blocking_iff (lookup withdraws false s fs) = (λ t. absurd t, λ q. let e = q.3 in let z : ◌≡◌ {A = Bool} true false = cc in absurd (true≢false z))
blocking_iff (deposit s fs) = (λ t. absurd t, λ q. let e = q.3 in let z : ◌≡◌ {A = ℕ} 0 1 = cc in absurd (omega arith))
blocking_iff (transfer withdraws from to fs) = (λ t. absurd t, λ q. let e = q.3 in let z : ◌≡◌ {A = ℕ} 0 1 = cc in absurd (omega arith))

-- the test is the words
pub can_wait_iff : Decides can_wait CanWait
unfolding can_wait
can_wait_iff st = (
  λ t. let p = any_at (λ b. is_blocking b.guard) st.branches t in (p.item, p.member, (blocking_iff p.item.guard).0 p.passes),
  λ q. any_of_lem (λ b. is_blocking b.guard) st.branches q.0 q.1 ((blocking_iff q.0.guard).1 q.2),
)

-- it ran: its branch is answered, and only the tuples change
pub record Ran (s : Run) (st : Statement) (t : Turn) : Type 0 where
  pub executed : Executed
  pub tuples : List Tuple
  pub reply : Reply
  pub runs : Runs s.tuples st executed
  pub answered : Answered s.last st executed s.tuples tuples reply
  pub turned : t ≡ record { run = with_tuples s tuples; replies = reply ∷ [] }

-- no guard holds
abbrev pub Unmet : Run → Statement → Type 0
Unmet s st = Each (λ (b : Branch). ¬ Holds s.tuples b.guard) st.branches

-- "AG goes by rules 1 to 5, .. and waits without a reply or replies its outcome"
pub data Comes (s : Run) (st : Statement) (t : Turn) : Type 0 where
  runs : Ran s st t → Comes s st t
  is_18 : Unmet s st → ¬ CanWait st → Refused s st.host st.process 18 t → Comes s st t
  is_13 : Unmet s st → CanWait st → most_waiting ≤ length s.waiting → Refused s st.host st.process 13 t → Comes s st t
  waits : Unmet s st → CanWait st → length s.waiting < most_waiting → t ≡ record { run = with_waiting s (s.waiting ++ (record { position = s.last; statement = st } ∷ [])); replies = [] } → Comes s st t

unmet_comes : (s : Run) (st : Statement) → Unmet s st → Comes s st (unmet s st)
unfolding unmet refused plain_reply
unmet_comes s st u = go (can_wait st) refl (leb most_waiting (length s.waiting)) refl
  where
    later : Turn
    later = record { run = with_waiting s (s.waiting ++ (record { position = s.last; statement = st } ∷ [])); replies = [] }

    go : (b : Bool) → can_wait st ≡ b → (c : Bool) → leb most_waiting (length s.waiting) ≡ c
        → Comes s st (cond (not b) (refused s st.host st.process 18) (cond c (refused s st.host st.process 13) later))
    go false q c r = is_18 u (λ w. rw q at ((can_wait_iff st).1 w)) (unfold refused plain_reply in refl)
    go true q true r = is_13 u ((can_wait_iff st).0 (rw q tt)) (leb→le most_waiting (length s.waiting) (rw r tt)) (unfold refused plain_reply in refl)
    go true q false r = waits u ((can_wait_iff st).0 (rw q tt)) (nleb→lt most_waiting (length s.waiting) (rw r tt)) refl

-- a statement past its checks
pub statement_comes : (s : Run) (st : Statement) → Comes s st (effect s (guarded st))
unfolding effect ran
statement_comes s st = go (attempt s.tuples st) refl
  where
    go : (o : Option Executed) → attempt s.tuples st ≡ o → Comes s st (maybe o (unmet s st) (ran s st))
    go none q = unmet_comes s st (attempt_unmet s.tuples st q)
    go (some e) q = unfold ran in runs (record { executed = e; tuples = tuples_after s.tuples e.result; reply = ran_reply s.last st e; runs = attempt_runs s.tuples st e q; answered = answered_words s.last st e s.tuples; turned = refl })

-- rule 5: "If an operation fails, the whole statement, guard included, changes nothing and is answered 12, 16 or 17"
pub ran_failed : (s : Run) (st : Statement) (t : Turn) (r : Ran s st t) (n : ℕ) → r.executed.result ≡ failed n → (t.run ≡ s) × (r.reply.outcome ≡ n) × (r.reply.values ≡ []) × ((n ≡ 12) ⊎ ((n ≡ 16) ⊎ (n ≡ 17)))
ran_failed s st t r n e =
    let h : Ends (failed n) s.tuples r.tuples r.reply = subst (λ (x : Result). Ends x s.tuples r.tuples r.reply) e r.answered.ends in
    (ap (λ (u : Turn). u.run) r.turned ∙ rw h.0, h.1, h.2, failure_number _ _ _ n (sym r.runs.result ∙ e))

-- ---- what a refused record leaves

-- the first reply says 6 to 17: "one reply carries the number, nothing else changes"
abbrev pub Keeps : Run → Turn → Type 0
Keeps s t = (r : Reply) (more : List Reply) → t.replies ≡ r ∷ more → 6 ≤ r.outcome → r.outcome ≤ 17 → (t.run ≡ s) × (more ≡ [])

tail_nil : (x r : Reply) (more : List Reply) → x ∷ [] ≡ r ∷ more → more ≡ []
tail_nil x r more e = cc

refused_only : (s : Run) (h c n : ℕ) (t : Turn) → Refused s h c n t → Keeps s t
refused_only s h c n t q r more e low high = (ap (λ (u : Turn). u.run) q, tail_nil (answer s.last h c n []) r more (sym (ap (λ (u : Turn). u.replies) q) ∙ e))

-- a turn whose first reply says 0, or 18, is none of these
other_number : (s : Run) (t : Turn) (x : Reply) (rest : List Reply) → t.replies ≡ x ∷ rest → (x.outcome ≡ 0) ⊎ (x.outcome ≡ 18) → Keeps s t
other_number s t x rest q o r more e low high =
    let w : x ∷ rest ≡ r ∷ more = sym q ∙ e in
    let z : x ≡ r = cc in
    let n : x.outcome ≡ r.outcome = ap (λ (y : Reply). y.outcome) z in
    absurd (go o n)
  where
    go : (x.outcome ≡ 0) ⊎ (x.outcome ≡ 18) → x.outcome ≡ r.outcome → ⊥
    go (inl a) b = omega arith
    go (inr a) b = omega arith

-- nothing can be laid, and no waiting statement has a guard that holds: so it is after every record
abbrev pub Rests : Run → Type 0
Rests s = T (none_ready s) × T (owes_only_full s)

-- where rule 7 has nothing to do the turn is the effect's
settled_still : (t : Turn) → Rests t.run → ((settled t).run ≡ t.run) × ((settled t).replies ≡ t.replies ++ [])
unfolding settled continued
settled_still t c =
    let e : settle (laid t.run) ≡ record { run = t.run; replies = [] } = ap settle (laid_still t.run c.1) ∙ settle_of_calm t.run c.0 in
    (ap (λ (u : Turn). u.run) e, ap (λ (u : Turn). t.replies ++ u.replies) e)

still_keeps : (s : Run) (t : Turn) → Rests t.run → Keeps s t → Keeps s (settled t)
still_keeps s t c k r more e low high =
    let h = settled_still t c in
    let m = k r more (sym (append-nil t.replies) ∙ sym h.1 ∙ e) low high in
    (h.0 ∙ m.0, m.1)

done_keeps : (s s' : Run) (q : Request) (vs : List (ℕ × Value)) → Keeps s (settled (replied s' q vs))
unfolding settled continued replied plain_reply
done_keeps s s' q vs = other_number s _ _ _ refl (inl refl)

-- a statement that waits has no guard that holds
waiting_calm : (s : Run) (st : Statement) (p : ℕ) → Calm s → Unmet s st → Calm (with_waiting s (s.waiting ++ (record { position = p; statement = st } ∷ [])))
waiting_calm s st p c u = each_append (λ (w : Waiting). ¬ Ready s.tuples w.statement) s.waiting _ c (each-cons (λ (w : Waiting). ¬ Ready s.tuples w.statement) (record { position = p; statement = st }) [] (λ r. u r.0 r.1 r.2) (each_nil _))

comes_keeps : (s : Run) (st : Statement) (t : Turn) → Rests s → Comes s st t → Keeps s (settled t)
unfolding settled continued owes_only_full owes_some has_room
comes_keeps s st t c (runs r) = go r.executed.result refl
  where
    go : (x : Result) → r.executed.result ≡ x → Keeps s (settled t)
    go (done bs ts) q =
        let h : Ends (done bs ts) s.tuples r.tuples r.reply = subst (λ (x : Result). Ends x s.tuples r.tuples r.reply) q r.answered.ends in
        other_number s (settled t) r.reply (settle (laid t.run)).replies (unfold settled continued in ap (λ (u : Turn). u.replies ++ (settle (laid t.run)).replies) r.turned) (inl h.1)
    go (failed n) q =
        let h = ran_failed s st t r n q in
        still_keeps s t (rw h.0 c) (λ x more e low high. (h.0, tail_nil r.reply x more (sym (ap (λ (u : Turn). u.replies) r.turned) ∙ e)))
comes_keeps s st t c (is_18 u w q) = other_number s (settled t) (answer s.last st.host st.process 18 []) (settle (laid t.run)).replies (ap (λ (u : Turn). u.replies ++ (settle (laid t.run)).replies) q) (inr refl)
comes_keeps s st t c (is_13 u w m q) = still_keeps s t (rw (ap (λ (u : Turn). u.run) q) c) (refused_only s st.host st.process 13 t q)
comes_keeps s st t c (waits u w m q) =
    let after : Run = with_waiting s (s.waiting ++ (record { position = s.last; statement = st } ∷ [])) in
    let quiet : Rests after = ((calm_iff after).1 (waiting_calm s st s.last ((calm_iff s).0 c.0) u), c.1) in
    still_keeps s t (subst (λ (v : Turn). Rests v.run) (sym q) quiet) (λ r more e low high. let n : [] ≡ r ∷ more = sym (ap (λ (u : Turn). u.replies) q) ∙ e in let z : ◌≡◌ {A = ℕ} 0 1 = cc in absurd (omega arith))

effect_keeps : (s : Run) (q : Request) → Rests s → Keeps s (settled (effect s q))
unfolding effect
effect_keeps s (recover h) c = done_keeps s _ (recover h) _
effect_keeps s (crash h) c = done_keeps s _ (crash h) _
effect_keeps s (monitor h p) c = done_keeps s _ (monitor h p) _
effect_keeps s (open_space h p isPrivate) c = done_keeps s _ (open_space h p isPrivate) _
effect_keeps s (close_space h p n) c = done_keeps s _ (close_space h p n) _
effect_keeps s (guarded st) c = comes_keeps s st (effect s (guarded st)) c (statement_comes s st)

handled_keeps : (s : Run) (q : Request) → Rests s → Keeps s (handled s q)
handled_keeps s q c = go (check_cases s q)
  where
    go : NoRow (rows s q) ⊎ ((n : ℕ) × FirstRow (rows s q) n) → Keeps s (handled s q)
    go (inl f) = subst (Keeps s) (sym (all_checks s q f)) (effect_keeps s q c)
    go (inr f) = refused_only s (asking_host q) (asking_process q) f.0 (handled s q) (first_check s q f.0 f.1)

-- "6 to 17: the record is taken, its position advances, one reply carries the number, nothing else changes"
pub refused_keeps : (s : Run) (r : Record) → Rests s → Keeps (with_last s r.position) (step s r)
refused_keeps s r c = go (request_of r.mark r.body) refl
  where
    s' : Run
    s' = with_last s r.position

    go : (o : Option Request) → request_of r.mark r.body ≡ o → Keeps s' (step s r)
    go none e = refused_only s' 255 65535 6 (step s r) (step_malformed s r e)
    go (some q) e = subst (Keeps s') (sym (step_asks s r q e)) (handled_keeps s' q (unfold none_ready owes_only_full owes_some has_room in c))
