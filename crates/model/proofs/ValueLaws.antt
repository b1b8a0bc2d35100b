-- The values of every reply of a step to a statement that ran done are that statement's own: of the record's statement and, at each turn of rule 7, of the one that it wakes. Assumes nothing.
use Rattle.std.specs.Prelude.{◌≡◌, List, [], ◌∷◌, not, T, eqb}
use Rattle.std.proofs.Common.{sym, ap, subst, ◌∙◌, arith}
use Rattle.std.proofs.Math.Option.{some}
use Rattle.std.proofs.Math.Pow.{are_bytes}
use Rattle.basis.specs.ListLaws.{Each, each_nil, each-cons, each_append, keep_in}
use Rattle.model.specs.Statement.{Statement}
use Rattle.model.specs.Legal.{legal_statement}
use Rattle.model.specs.Writing.{statement_bytes}
use Rattle.model.proofs.ReadBack.{parse_some}
use Rattle.model.proofs.OperationLaws.{least_in, without_in}
use Rattle.model.specs.Run.{Waiting, Run, with_last, laid, Reply, Turn}
use Rattle.model.proofs.Debts.{laid_waiting, crashed_beside}
use Rattle.model.proofs.RunLaws.{WokenWords, Settles, calm, turn}
use Rattle.model.specs.Step.{Record, Request, recover, crash, monitor, open_space, close_space, guarded, request_of, replied, recovered, dropped, opened, closed, effect, settled, step}
use Rattle.model.proofs.StepLaws.{answer, step_asks, all_checks, Then, settled_words, Comes, runs, is_18, is_13, waits, statement_comes}
use Rattle.model.proofs.RowLaws.{rows, NoRow}
use Rattle.model.proofs.Requests.{Possible, request_possible}
use Rattle.model.proofs.Sound.{Sound}
use Rattle.model.proofs.BoundLaws.{OwnReply, answered_own}

-- every statement that waits is legal
abbrev pub Lawful : List Waiting → Type 0
Lawful ws = Each (λ (w : Waiting). T (legal_statement w.statement)) ws

-- ---- the record's own statement

only : (P : Reply → Type 0) (t : Turn) (r : Reply) → t.replies ≡ r ∷ [] → P r → Each P t.replies
only P t r e p = subst (Each P) (sym e) (each-cons P r [] p (each_nil P))

-- a statement past its checks: done, it is answered for the branch that was chosen on the tuples before it
pub statement_own : (s : Run) (st : Statement) → T (legal_statement st) → Each (λ (r : Reply). r.outcome ≡ 0 → OwnReply s.tuples st r) (effect s (guarded st)).replies
statement_own s st legal = go (effect s (guarded st)) (statement_comes s st)
  where
    P : Reply → Type 0
    P r = r.outcome ≡ 0 → OwnReply s.tuples st r

    go : (t : Turn) → Comes s st t → Each P t.replies
    go t (runs r) = only P t r.reply (ap (λ (u : Turn). u.replies) r.turned) (λ z. answered_own s.last st r.executed s.tuples r.tuples r.reply legal r.runs r.answered)
    go t (is_18 u w e) = only P t (answer s.last st.host st.process 18 []) (ap (λ (u : Turn). u.replies) e) (λ z. absurd (omega arith))
    go t (is_13 u w m e) = only P t (answer s.last st.host st.process 13 []) (ap (λ (u : Turn). u.replies) e) (λ z. absurd (omega arith))
    go t (waits u w m e) = subst (λ (x : Turn). Each P x.replies) (sym e) (each_nil P)

-- ---- rule 7

-- a statement that is woken
pub woken_own : (s : Run) (t : Turn) (w : WokenWords s t) → T (legal_statement w.woken.statement) → OwnReply s.tuples w.woken.statement w.reply
woken_own s t w legal = answered_own w.woken.position w.woken.statement w.executed s.tuples w.tuples w.reply legal w.runs w.answered

-- at each turn the reply is the woken statement's own, on the tuples of that turn
abbrev pub OwnTurns : {s u : Run} {rs : List Reply} → Settles s u rs → Type 0
OwnTurns (calm c) = Unit {0}
OwnTurns (turn {s = s} t w h) = OwnReply s.tuples w.woken.statement w.reply × OwnTurns h

-- rule 7, where all that wait are legal
pub settles_own : (s u : Run) (rs : List Reply) (h : Settles s u rs) → Lawful s.waiting → OwnTurns h
settles_own s _ _ (calm c) l = tt
settles_own s u _ (turn {rs = rs} t w h) l =
    let left : Lawful t.run.waiting = subst (λ (x : Run). Lawful x.waiting) (sym w.run) (λ v m. l v (without_in w.oldest v m)) in
    let still : Lawful (laid t.run).waiting = subst Lawful (sym (laid_waiting t.run)) left in
    (woken_own s t w (l w.woken (least_in w.oldest)), settles_own (laid t.run) u rs h still)

-- ---- a step

-- A record's effect, then rule 7: the own reply of an AG that is done, and the reply of each turn. (RV, CR, MO, MS and DS run no statement of their own.)
pub record OwnReplies (s : Run) (q : Request) (t : Turn) : Type 0 where
  pub own : (st : Statement) → q ≡ guarded st → Each (λ (r : Reply). r.outcome ≡ 0 → OwnReply s.tuples st r) (effect s q).replies
  pub follows : Then (effect s q).run (effect s q).replies t
  pub turns : OwnTurns follows.settles

possible_legal : (st : Statement) → Possible (guarded st) → T (legal_statement st)
possible_legal st p = (parse_some (statement_bytes st) st p).legal

comes_lawful : (s : Run) (st : Statement) (t : Turn) → T (legal_statement st) → Lawful s.waiting → Comes s st t → Lawful t.run.waiting
comes_lawful s st t legal l (runs r) = subst (λ (u : Turn). Lawful u.run.waiting) (sym r.turned) l
comes_lawful s st t legal l (is_18 u w e) = subst (λ (u : Turn). Lawful u.run.waiting) (sym e) l
comes_lawful s st t legal l (is_13 u w m e) = subst (λ (u : Turn). Lawful u.run.waiting) (sym e) l
comes_lawful s st t legal l (waits u w m e) =
    let P : Waiting → Type 0 = λ w. T (legal_statement w.statement) in
    subst (λ (u : Turn). Lawful u.run.waiting) (sym e) (each_append P s.waiting _ l (each-cons P _ [] legal (each_nil P)))

effect_lawful : (s : Run) (q : Request) → Possible q → Lawful s.waiting → Lawful (effect s q).run.waiting
unfolding effect replied recovered dropped opened closed
effect_lawful s (recover h) p l = l
effect_lawful s (crash h) p l = subst (λ (u : Run). Lawful u.waiting) (sym (crashed_beside s h)) (λ w m. l w (keep_in (λ w. not (eqb w.statement.host h)) s.waiting w m))
effect_lawful s (monitor h c) p l = l
effect_lawful s (open_space h c isPrivate) p l = l
effect_lawful s (close_space h c n) p l = l
effect_lawful s (guarded st) p l = comes_lawful s st (effect s (guarded st)) (possible_legal st p) l (statement_comes s st)

settled_own : (s : Run) (q : Request) → Possible q → Lawful s.waiting → OwnReplies s q (settled (effect s q))
settled_own s q p l =
    let k = settled_words (effect s q) in
    record {
      own = λ st e. subst (λ (x : Request). Each (λ (r : Reply). r.outcome ≡ 0 → OwnReply s.tuples st r) (effect s x).replies) (sym e) (statement_own s st (possible_legal st (subst Possible e p)));
      follows = k;
      turns = settles_own (laid (effect s q).run) (settled (effect s q)).run k.woken k.settles (subst Lawful (sym (laid_waiting (effect s q).run)) (effect_lawful s q p l));
    }

-- a step whose body is not malformed and that no check refuses (one that is refused has one reply, and that is not done)
pub step_own : (s : Run) (r : Record) (q : Request) → Sound s → T (are_bytes r.body) → request_of r.mark r.body ≡ some q → NoRow (rows (with_last s r.position) q) → OwnReplies (with_last s r.position) q (step s r)
step_own s r q f t e n =
    let s' : Run = with_last s r.position in
    subst (OwnReplies s' q) (sym (step_asks s r q e ∙ all_checks s' q n))
    (settled_own s' q (request_possible r.mark r.body q t e) (λ w i. possible_legal w.statement (f.written w i)))
