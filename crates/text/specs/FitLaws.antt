-- Each part of the replies of a step fits its width. Assumes nothing.
use Rattle.std.specs.Prelude.{◌≡◌, ℕ, zero, suc, ◌^◌, ◌<◌, not, length, T, leb, eqb}
use Rattle.std.proofs.Common.{sym, subst, arith, ltb→lt}
use Rattle.std.proofs.Math.Option.{some}
use mathlib.Core.List.{List, [], ◌∷◌, ◌++◌}
use Rattle.std.proofs.Math.Pow.{are_bytes}
use Rattle.basis.specs.Choice.{maybe-ind, cond_ind, first_number}
use Rattle.basis.specs.Logic.{and_l, and_r}
use Rattle.basis.specs.ListLaws.{Each, each_nil, each-cons, each_append, keep_in, remove_at_in, first_member}
use Rattle.basis.specs.Numbers.{number}
use Rattle.basis.specs.NumberLaws.{bytes_tail, bytes_left, number_lt}
use Rattle.basis.specs.Sizes.{hosts, processes, positions, process_width, most_waiting}
use Rattle.model.specs.Value.{Value}
use Rattle.model.specs.Statement.{Statement}
use Rattle.model.specs.Legal.{legal_statement}
use Rattle.model.proofs.ReadBack.{parse_some}
use Rattle.model.specs.Execution.{can_wait, Executed, attempt, ready}
use Rattle.model.specs.Run.{Waiting, Run, with_last, with_monitors, next_monitor, laid, Reply, ran_reply, Turn, woken_by, wake, continued, settle_within, settle}
use Rattle.model.proofs.Debts.{laid_waiting, crashed_beside}
use Rattle.model.proofs.Settle.{wake_some}
use Rattle.model.specs.Step.{Mark, RV, CR, MO, MS, DS, AG, Record, Request, recover, crash, monitor, open_space, close_space, guarded, request_of, checks, asking_host, asking_process, plain_reply, refused, malformed, replied, recovered, dropped, crashed, opened, closed, unmet, ran, effect, settled, handled, step}
use Rattle.model.proofs.BodyLaws.{HostProcess, body_iff}
use Rattle.model.proofs.Sound.{Sound}
use Rattle.model.proofs.ValidLaws.{valid_position}
use Rattle.text.specs.Written.{Fits}

-- ---- who asks

-- host and process fit their widths
abbrev Asker : (host process : ℕ) → Type 0
Asker h p = (h < 256) × (p < processes)

abbrev Asks : Request → Type 0
Asks q = Asker (asking_host q) (asking_process q)

legal_asker : (st : Statement) → T (legal_statement st) → Asker st.host st.process
unfolding legal_statement
legal_asker st t =
    let h : st.host < hosts = ltb→lt st.host hosts (search (and_l, and_r, t) depth 6) in
    let p : st.process < processes = ltb→lt st.process processes (search (and_l, and_r, t) depth 6) in
    (omega arith, p)

-- a host and a process in bytes
bytes_asker : (b : List ℕ) (h p : ℕ) (rest : List ℕ) → T (are_bytes b) → HostProcess b h p rest → Asker h p
bytes_asker b h p rest t (low, (bytes, n, e, f)) =
    let u : T (are_bytes (h ∷ bytes ++ rest)) = subst (λ (l : List ℕ). T (are_bytes l)) f t in
    let lt = number_lt bytes (bytes_left bytes rest (bytes_tail h (bytes ++ rest) u)) in
    let k : number bytes < 256 ^ process_width = subst (λ (w : ℕ). number bytes < 256 ^ w) n lt in
    (omega arith, rw e k)

-- what a body of bytes asks
request_asks : (m : Mark) (b : List ℕ) (q : Request) → T (are_bytes b) → request_of m b ≡ some q → Asks q
unfolding asking_host asking_process
request_asks RV b q t e = let (h, low, f, g) = (body_iff RV b q).0 e in rw g (omega arith, omega arith)
request_asks CR b q t e = let (h, low, f, g) = (body_iff CR b q).0 e in rw g (omega arith, omega arith)
request_asks MO b q t e = let (h, p, f, g) = (body_iff MO b q).0 e in rw g (bytes_asker b h p [] t f)
request_asks MS b q t e = let (h, p, rest, k, f, j, g) = (body_iff MS b q).0 e in rw g (bytes_asker b h p rest t f)
request_asks DS b q t e = let (h, p, n, space, f, i, j, g) = (body_iff DS b q).0 e in rw g (bytes_asker b h p space t f)
request_asks AG b q t e = let (st, f, g) = (body_iff AG b q).0 e in rw g (legal_asker st (parse_some b st f).legal)

-- ---- replies

abbrev FitAll : List Reply → Type 0
FitAll rs = Each Fits rs

one_fits : (position h p outcome branch : ℕ) (vs : List (ℕ × Value)) → position < positions → Asker h p → FitAll (record { position = position; host = h; process = p; outcome = outcome; branch = branch; values = vs } ∷ [])
one_fits position h p outcome branch vs l a = each-cons Fits _ [] (record { position = l; host = a.0; process = a.1 }) (each_nil Fits)

-- a statement of the queue: its reply will fit
abbrev Ready : Waiting → Type 0
Ready w = (w.position < positions) × Asker w.statement.host w.statement.process

abbrev AllReady : Run → Type 0
AllReady s = Each Ready s.waiting

sound_ready : (s : Run) → Sound s → AllReady s
sound_ready s f w i =
    let p = (valid_position s f.valid w i).1 in
    let l = f.last in
    (omega arith, legal_asker w.statement (parse_some _ w.statement (f.written w i)).legal)

-- ---- rule 7

woken_fits : (s : Run) (t : Turn) → wake s ≡ some t → AllReady s → FitAll t.replies × AllReady t.run
unfolding woken_by ran_reply
woken_fits s t e r =
    let k = wake_some s t e in
    let w = k.found.item in
    let q = r w (first_member (λ w. ready s.tuples w.statement) s.waiting k.found k.oldest) in
    subst (λ (u : Turn). FitAll u.replies × AllReady u.run) (sym k.turned)
    (one_fits w.position w.statement.host w.statement.process _ _ _ q.0 q.1, λ v i. r v (remove_at_in k.found.index s.waiting v i))

laid_ready : (s : Run) → AllReady s → AllReady (laid s)
laid_ready s r = subst (λ (ws : List Waiting). Each Ready ws) (sym (laid_waiting s)) r

within_fits : (n : ℕ) (s : Run) → AllReady s → FitAll (settle_within n s).replies
unfolding settle_within continued
within_fits zero s r = each_nil Fits
within_fits (suc n) s r =
    maybe-ind (λ (t : Turn). FitAll t.replies) (wake s) _ _ (λ e. each_nil Fits)
    (λ t e. let k = woken_fits s t e r in each_append Fits t.replies _ k.0 (within_fits n (laid t.run) (laid_ready t.run k.1)))

-- ---- a record

-- its own reply, and the queue after it
abbrev Own : Turn → Type 0
Own t = FitAll t.replies × AllReady t.run

settled_fits : (t : Turn) → Own t → FitAll (settled t).replies
unfolding settled continued settle
settled_fits t o = each_append Fits t.replies _ o.0 (within_fits (length (laid t.run).waiting) (laid t.run) (laid_ready t.run o.1))

module _ (s : Run) (l : s.last < positions) (r : AllReady s) where
  refused_own : (h p n : ℕ) → Asker h p → Own (refused s h p n)
  unfolding refused plain_reply
  refused_own h p n a = (one_fits s.last h p n 0 [] l a, r)

  replied_own : (q : Request) (vs : List (ℕ × Value)) → Asks q → Own (replied s q vs)
  unfolding replied plain_reply
  replied_own q vs a = (one_fits s.last (asking_host q) (asking_process q) 0 0 vs l a, r)

  ran_own : (st : Statement) (x : Executed) → Asker st.host st.process → Own (ran s st x)
  unfolding ran ran_reply
  ran_own st x a = (one_fits s.last st.host st.process _ _ _ l a, r)

  unmet_own : (st : Statement) → Asker st.host st.process → Own (unmet s st)
  unfolding unmet
  unmet_own st a =
      cond_ind Own (not (can_wait st)) _ _ (λ e. refused_own st.host st.process 18 a)
      (λ e. cond_ind Own (leb most_waiting (length s.waiting)) _ _ (λ q. refused_own st.host st.process 13 a)
      (λ q. (each_nil Fits, each_append Ready s.waiting _ r (each-cons Ready _ [] (l, a) (each_nil Ready)))))

effect_own : (s : Run) (q : Request) → s.last < positions → AllReady s → Asks q → Own (effect s q)
unfolding effect recovered dropped opened closed
effect_own s (recover h) l r a = replied_own (recovered s h) l r (recover h) _ a
effect_own s (crash h) l r a =
    let same = crashed_beside s h in
    replied_own (crashed s h) (subst (λ (u : Run). u.last < positions) (sym same) l) (subst AllReady (sym same) (λ w i. r w (keep_in (λ w. not (eqb w.statement.host h)) s.waiting w i))) (crash h) _ a
effect_own s (monitor h p) l r a = replied_own (with_monitors s (next_monitor s)) l r (monitor h p) _ a
effect_own s (open_space h p isPrivate) l r a = replied_own (opened s p isPrivate) l r (open_space h p isPrivate) _ a
effect_own s (close_space h p n) l r a = replied_own (closed s n) l r (close_space h p n) [] a
effect_own s (guarded st) l r a =
    let b : Asker st.host st.process = unfold asking_host asking_process in a in
    maybe-ind Own (attempt s.tuples st) (unmet s st) (ran s st) (λ e. unmet_own s l r st b) (λ x e. ran_own s l r st x b)

handled_fits : (s : Run) (q : Request) → s.last < positions → AllReady s → Asks q → FitAll (handled s q).replies
unfolding handled
handled_fits s q l r a =
    maybe-ind (λ (t : Turn). FitAll t.replies) (first_number (checks s q)) (settled (effect s q)) (refused s (asking_host q) (asking_process q))
    (λ e. settled_fits (effect s q) (effect_own s q l r a)) (λ n e. (refused_own s l r (asking_host q) (asking_process q) n a).0)

-- of a record of bytes, whatever is asked, and of every statement that it wakes
pub step_fits : (s : Run) (r : Record) → Sound s → r.position < positions → T (are_bytes r.body) → Each Fits (step s r).replies
unfolding step malformed
step_fits s r f l t =
    let s' : Run = with_last s r.position in
    let q : AllReady s' = sound_ready s f in
    maybe-ind (λ (u : Turn). FitAll u.replies) (request_of r.mark r.body) (malformed s') (handled s')
    (λ e. (refused_own s' l q 255 65535 6 (omega arith, omega arith)).0) (λ a e. handled_fits s' a l q (request_asks r.mark r.body a t e))
