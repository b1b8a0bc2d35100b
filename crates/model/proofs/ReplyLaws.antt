-- "A well-formed reply to a statement past check 9": every reply to one is so, its own and those of the statements that it wakes. Assumes nothing.
use Rattle.std.specs.Prelude.{◌≡◌, refl, ◌⊎◌, ◌≢◌, ℕ, zero, suc, ◌≤◌, ◌<◌, not, length, get_or, leb, ltb}
use Rattle.std.proofs.Math.Path.{sym, subst}
use Rattle.std.proofs.Common.{ap, ◌∙◌, inl, inr, arith, ltb→lt, leb→le}
use Rattle.std.proofs.Math.Nat.{le_refl}
use Rattle.std.proofs.Math.Option.{none, some, none-ne-some}
use mathlib.Core.List.{List, [], ◌∷◌, Memᴰ}
use Rattle.std.proofs.Math.Dec.{T_not, T, not_T}
use Rattle.std.proofs.Math.Pow.{are_bytes}
use Rattle.basis.specs.Choice.{maybe-ind, cond_ind}
use Rattle.basis.specs.Logic.{and_l, and_r, not_not}
use Rattle.basis.specs.Lists.{pairwise}
use Rattle.basis.specs.ListLaws.{Each, each_nil, each-cons, each_append, first_member}
use Rattle.basis.specs.IndexLaws.{least_below}
use Rattle.basis.specs.Sizes.{hosts, variables, most_branches, most_waiting, positions}
use Rattle.model.specs.Value.{Value, legal_value}
use Rattle.model.specs.Statement.{Branch, Statement, spaces_named}
use Rattle.model.specs.Legal.{legal_statement, parse}
use Rattle.model.specs.Writing.{statement_bytes}
use Rattle.model.proofs.ReadBack.{parse_some}
use Rattle.model.specs.Matching.{Tuple, Bindings}
use Rattle.model.specs.Execution.{Result, done, failed, ready, can_wait, Executed, attempt}
use Rattle.model.proofs.ExecutionLaws.{Holds, attempt_runs, failure_number}
use Rattle.model.specs.Run.{Space, Waiting, Run, with_last, host_up, is_open, is_denied, is_waiting, Reply, bound_from, outcome_of, values_of, ran_reply, laid, Turn, woken_by, wake, continued, settle_within, settle}
use Rattle.model.proofs.RunLaws.{bound_words}
use Rattle.model.specs.Step.{Record, crash, guarded, request_of, refused, plain_reply, replied, crashed, unmet, ran, effect, settled, handled, step, asking_host, asking_process}
use Rattle.model.proofs.StepLaws.{answer, Refused, step_asks, first_check, all_checks, check_cases}
use Rattle.model.proofs.CheckLaws.{waiting_iff, open_iff, denied_iff, names_iff}
use Rattle.model.proofs.RowLaws.{IsUp, ProcessWaits, rows, FirstRow, NoRow}
use Rattle.model.proofs.RecordLaws.{crash_passes}
use Rattle.model.proofs.Sound.{Sound}
use Rattle.model.proofs.Settle.{wake_some}
use Rattle.model.proofs.BoundKinds.{LegalOr}
use Rattle.model.proofs.Keeps.{Open, Kept, KeepsAll, attempt_keeps}
use Rattle.model.proofs.Fit.{Fit, sound_fit}
use Rattle.model.proofs.Requests.{request_possible}
use Rattle.model.proofs.Preserve.{later_fit}
use Rattle.model.proofs.Effects.{crashed_fit, ran_fit, unmet_fit, wake_fit, laid_fit}

-- "0, 12, 16 and 17"
abbrev pub Chosen : ℕ → Type 0
Chosen n = (n ≡ 0) ⊎ ((n ≡ 12) ⊎ ((n ≡ 16) ⊎ (n ≡ 17)))

-- "A well-formed reply to a statement past check 9"
pub record WellFormed (r : Reply) : Type 0 where
  -- "has host 0 to 15"
  pub host : r.host < hosts
  -- "outcome 0, 10 to 13 or 16 to 18"
  pub outcome : (r.outcome ≡ 0) ⊎ (((10 ≤ r.outcome) × (r.outcome ≤ 13)) ⊎ ((16 ≤ r.outcome) × (r.outcome ≤ 18)))
  -- "branch 1 to 4 for 0, 12, 16 and 17"
  pub branch : Chosen r.outcome → (1 ≤ r.branch) × (r.branch ≤ most_branches)
  -- "else 0"
  pub no_branch : ¬ Chosen r.outcome → r.branch ≡ 0
  -- "and values, legal and of rising variables up to 15"
  pub values : Each (λ (a : ℕ × Value). (a.0 < variables) × T (legal_value a.1)) r.values
  pub rise : T (pairwise (λ a b. ltb a.0 b.0) r.values)
  -- "for 0 alone"
  pub no_values : r.outcome ≢ 0 → r.values ≡ []

-- ---- a reply with no branch

-- 10, 11, 13 and 18
abbrev Plain : ℕ → Type 0
Plain n = (n ≡ 10) ⊎ ((n ≡ 11) ⊎ ((n ≡ 13) ⊎ (n ≡ 18)))

chosen_cases : {A : Type 0} (n : ℕ) → Chosen n → (n ≡ 0 → A) → (n ≡ 12 → A) → (n ≡ 16 → A) → (n ≡ 17 → A) → A
chosen_cases n (inl e) a b c d = a e
chosen_cases n (inr (inl e)) a b c d = b e
chosen_cases n (inr (inr (inl e))) a b c d = c e
chosen_cases n (inr (inr (inr e))) a b c d = d e

unchosen : (n : ℕ) → Plain n → ¬ Chosen n
unchosen n (inl e) c = chosen_cases n c (λ a. omega arith) (λ a. omega arith) (λ a. omega arith) (λ a. omega arith)
unchosen n (inr (inl e)) c = chosen_cases n c (λ a. omega arith) (λ a. omega arith) (λ a. omega arith) (λ a. omega arith)
unchosen n (inr (inr (inl e))) c = chosen_cases n c (λ a. omega arith) (λ a. omega arith) (λ a. omega arith) (λ a. omega arith)
unchosen n (inr (inr (inr e))) c = chosen_cases n c (λ a. omega arith) (λ a. omega arith) (λ a. omega arith) (λ a. omega arith)

plain_outcome : (n : ℕ) → Plain n → (n ≡ 0) ⊎ (((10 ≤ n) × (n ≤ 13)) ⊎ ((16 ≤ n) × (n ≤ 18)))
plain_outcome n (inl e) = inr (inl (omega arith, omega arith))
plain_outcome n (inr (inl e)) = inr (inl (omega arith, omega arith))
plain_outcome n (inr (inr (inl e))) = inr (inl (omega arith, omega arith))
plain_outcome n (inr (inr (inr e))) = inr (inr (omega arith, omega arith))

plain_formed : (p h c n : ℕ) → h < hosts → Plain n → WellFormed (answer p h c n [])
unfolding pairwise
plain_formed p h c n l k = record {
  host = omega arith;
  outcome = plain_outcome n k;
  branch = λ c. absurd (unchosen n k c);
  no_branch = λ c. refl;
  values = each_nil _;
  rise = tt;
  no_values = λ d. refl;
}

-- ---- a reply to a statement that ran

legal_host : (st : Statement) → T (legal_statement st) → st.host < hosts
unfolding legal_statement
legal_host st t = ltb→lt st.host hosts (search (and_l, and_r, t) depth 6)

legal_count : (st : Statement) → T (legal_statement st) → length st.branches ≤ most_branches
unfolding legal_statement
legal_count st t = leb→le (length st.branches) most_branches (search (and_l, and_r, t) depth 6)

get_d_in : (bs : Bindings) (x : ℕ) (v : Value) → get_or bs x none ≡ some v → (x < length bs) × Memᴰ (some v) bs
get_d_in [] x v e = absurd (none-ne-some v e)
get_d_in (b ∷ bs) zero v e = (omega arith, Memᴰ.head (sym e))
get_d_in (b ∷ bs) (suc x) v e = let r = get_d_in bs x v e in let l = r.0 in (omega arith, Memᴰ.tail r.1)

bound_legal : (bs : Bindings) → length bs ≡ variables → Each LegalOr bs → Each (λ (a : ℕ × Value). (a.0 < variables) × T (legal_value a.1)) (bound_from 0 bs)
bound_legal bs n l a m =
    let r = get_d_in bs a.0 a.1 (((bound_words bs).exactly a.0 a.1).0 m) in
    let low = r.0 in
    (omega arith, l (some a.1) r.1)

failed_chosen : (n : ℕ) → (n ≡ 12) ⊎ ((n ≡ 16) ⊎ (n ≡ 17)) → ((n ≡ 0) ⊎ (((10 ≤ n) × (n ≤ 13)) ⊎ ((16 ≤ n) × (n ≤ 18)))) × Chosen n
failed_chosen n (inl e) = (inr (inl (omega arith, omega arith)), inr (inl e))
failed_chosen n (inr (inl e)) = (inr (inr (omega arith, omega arith)), inr (inr (inl e)))
failed_chosen n (inr (inr e)) = (inr (inr (omega arith, omega arith)), inr (inr (inr e)))

done_formed : (p h c b : ℕ) (bs : Bindings) → h < hosts → (1 ≤ b) × (b ≤ most_branches) → length bs ≡ variables → Each LegalOr bs → WellFormed (record { position = p; host = h; process = c; outcome = 0; branch = b; values = bound_from 0 bs })
done_formed p h c b bs low few n l = record {
  host = omega arith;
  outcome = inl refl;
  branch = λ c. few;
  no_branch = λ n. absurd (n (inl refl));
  values = bound_legal bs n l;
  rise = (bound_words bs).rise;
  no_values = λ d. absurd (d refl);
}

failed_formed : (p h c b n : ℕ) → h < hosts → (1 ≤ b) × (b ≤ most_branches) → (n ≡ 12) ⊎ ((n ≡ 16) ⊎ (n ≡ 17)) → WellFormed (record { position = p; host = h; process = c; outcome = n; branch = b; values = [] })
unfolding pairwise
failed_formed p h c b n low few k = record {
  host = omega arith;
  outcome = (failed_chosen n k).0;
  branch = λ d. few;
  no_branch = λ d. absurd (d (failed_chosen n k).1);
  values = each_nil _;
  rise = tt;
  no_values = λ d. refl;
}

ran_branch : (ts : List Tuple) (st : Statement) (x : Executed) → T (legal_statement st) → attempt ts st ≡ some x → (1 ≤ x.branch) × (x.branch ≤ most_branches)
ran_branch ts st x legal e =
    let r = attempt_runs ts st x e in
    let n = r.number in
    let low = least_below (λ (b : Branch). Holds ts b.guard) st.branches r.index r.branch r.least in
    let few = legal_count st legal in
    (omega arith, omega arith)

-- a legal statement that ran
ran_formed : (ss : List Space) (ts : List Tuple) (p : ℕ) (st : Statement) (x : Executed) → T (legal_statement st) → Open ss (spaces_named st) → Kept ss ts → attempt ts st ≡ some x → WellFormed (ran_reply p st x)
unfolding ran_reply
ran_formed ss ts p st x legal o k e = go x.result refl (attempt_keeps ss ts st x legal o k e)
  where
    go : (r : Result) → x.result ≡ r → KeepsAll ss r → WellFormed (record { position = p; host = st.host; process = st.process; outcome = outcome_of r; branch = x.branch; values = values_of r })
    go (done bs us) q h = unfold outcome_of values_of in done_formed p st.host st.process x.branch bs (legal_host st legal) (ran_branch ts st x legal e) h.0 h.1
    go (failed n) q h = unfold outcome_of values_of in failed_formed p st.host st.process x.branch n (legal_host st legal) (ran_branch ts st x legal e) (failure_number _ _ _ n (sym (attempt_runs ts st x e).result ∙ q))

-- ---- woken statements

abbrev Formed : List Reply → Type 0
Formed rs = Each WellFormed rs

wake_formed : (s : Run) (t : Turn) → wake s ≡ some t → Fit s → Formed t.replies
unfolding woken_by
wake_formed s t e f =
    let k = wake_some s t e in
    let w = k.found.item in
    let q = f.waiting.each w (first_member (λ w. ready s.tuples w.statement) s.waiting k.found k.oldest) in
    let one : WellFormed (ran_reply w.position w.statement k.executed) = ran_formed s.spaces s.tuples w.position w.statement k.executed (parse_some (statement_bytes w.statement) w.statement q.written).legal (λ n i. (q.named n i).0) f.tuples k.attempted in
    subst (λ (u : Turn). Formed u.replies) (sym k.turned) (each-cons WellFormed _ [] one (each_nil _))

within_formed : (n : ℕ) (s : Run) → Fit s → Formed (settle_within n s).replies
unfolding settle_within continued
within_formed zero s f = each_nil _
within_formed (suc n) s f = maybe-ind (λ (t : Turn). Formed t.replies) (wake s) _ _ (λ e. each_nil _) (λ t e. each_append WellFormed t.replies _ (wake_formed s t e f) (within_formed n (laid t.run) (laid_fit t.run (wake_fit s t e f))))

-- every woken statement's reply is well-formed
pub settle_formed : (s : Run) → Fit s → Each WellFormed (settle s).replies
unfolding settle
settle_formed s f = within_formed (length s.waiting) s f

-- ---- the statement's own reply, and those that it wakes

-- past 7 and 9 the first row that is so is 10 or 11
row_plain : (s : Run) (st : Statement) (n : ℕ) → IsUp s st.host → ¬ ProcessWaits s st.process → FirstRow (rows s (guarded st)) n → Plain n
row_plain s st n up alone (inl f) = absurd (f.0 up)
row_plain s st n up alone (inr (d, inl f)) = absurd (alone f.0)
row_plain s st n up alone (inr (d, inr (e, inl f))) = inl f.1
row_plain s st n up alone (inr (d, inr (e, inr (g, inl f)))) = inr (inl f.1)
row_plain s st n up alone (inr (d, inr (e, inr (g, inr f)))) = absurd f.1

module _ (s : Run) (st : Statement) (f : Fit s) (written : parse (statement_bytes st) ≡ some st) where
  legal : T (legal_statement st)
  legal = (parse_some (statement_bytes st) st written).legal

  unmet_formed : Formed (unmet s st).replies
  unfolding unmet refused plain_reply
  unmet_formed =
      cond_ind (λ (t : Turn). Formed t.replies) (not (can_wait st)) _ _ (λ e. each-cons WellFormed _ [] (plain_formed s.last st.host st.process 18 (legal_host st legal) (inr (inr (inr refl)))) (each_nil _))
      (λ e. cond_ind (λ (t : Turn). Formed t.replies) (leb most_waiting (length s.waiting)) _ _ (λ e. each-cons WellFormed _ [] (plain_formed s.last st.host st.process 13 (legal_host st legal) (inr (inr (inl refl)))) (each_nil _))
      (λ e. each_nil _))

  -- past all its checks
  effect_formed : Open s.spaces (spaces_named st) → Fit (effect s (guarded st)).run → Formed (settled (effect s (guarded st))).replies
  unfolding effect settled continued
  effect_formed o g =
      each_append WellFormed (effect s (guarded st)).replies _
      (maybe-ind (λ (t : Turn). Formed t.replies) (attempt s.tuples st) _ _ (λ e. unmet_formed) (λ x e. unfold ran in each-cons WellFormed _ [] (ran_formed s.spaces s.tuples s.last st x legal o f.tuples e) (each_nil _)))
      (settle_formed (laid (effect s (guarded st)).run) (laid_fit (effect s (guarded st)).run g))

  module _ (above : 1 ≤ s.last) (older : Each (λ (w : Waiting). w.position < s.last) s.waiting) (up : IsUp s st.host) (alone : ¬ ProcessWaits s st.process) where
    past_all : NoRow (rows s (guarded st)) → Formed (settled (effect s (guarded st))).replies
    unfolding effect
    past_all h =
        let shut = h.1.1.0 in
        let denied = h.1.1.1.0 in
        let free : T (not (is_waiting s st.process)) = not_T (is_waiting s st.process) (λ t. alone ((waiting_iff s st.process).0 t)) in
        let o : Open s.spaces (spaces_named st) = λ n i. not_not (is_open s.spaces n) (not_T (not (is_open s.spaces n)) (λ t. shut (n, (names_iff n st).0 i, λ q. T_not (is_open s.spaces n) t ((open_iff s.spaces n).1 q)))) in
        let d : Each (λ (n : ℕ). T (not (is_denied s.spaces st.process n))) (spaces_named st) = λ n i. not_T (is_denied s.spaces st.process n) (λ t. denied (n, (names_iff n st).0 i, (denied_iff s.spaces st.process n).0 t)) in
        effect_formed o
        (maybe-ind (λ (t : Turn). Fit t.run) (attempt s.tuples st) _ _
        (λ e. unmet_fit s f st older free (λ c. record { early = above; late = le_refl s.last; written = written; host = up; named = λ n i. (o n i, d n i); waits = c }))
        (λ x e. ran_fit s f st x written o e))

    -- every reply to a statement that is of an up host and of a process that does not wait, and to those that it wakes, is well-formed
    pub statement_formed : Each WellFormed (handled s (guarded st)).replies
    statement_formed = go (check_cases s (guarded st))
      where
        go : NoRow (rows s (guarded st)) ⊎ ((n : ℕ) × FirstRow (rows s (guarded st)) n) → Formed (handled s (guarded st)).replies
        go (inl h) = subst (λ (t : Turn). Formed t.replies) (sym (all_checks s (guarded st) h)) (past_all h)
        go (inr h) =
            let e : Refused s st.host st.process h.0 (handled s (guarded st)) = unfold asking_host asking_process in first_check s (guarded st) h.0 h.1 in
            subst (λ (t : Turn). Formed t.replies) (sym e) (each-cons WellFormed _ [] (plain_formed s.last st.host st.process h.0 (legal_host st legal) (row_plain s st h.0 up alone h.1)) (each_nil _))

-- the own reply and the woken ones of a step with a statement past check 9
pub step_formed : (s : Run) (r : Record) (st : Statement) → Sound s → r.position ≡ suc s.last → r.position < positions → T (are_bytes r.body) → request_of r.mark r.body ≡ some (guarded st)
    → IsUp s st.host → ¬ ProcessWaits s st.process → Each WellFormed (step s r).replies
step_formed s r st f n four t e up alone =
    let s' : Run = with_last s r.position in
    let g = sound_fit s f in
    let fit : Fit s' = later_fit s r.position (omega arith) four g in
    subst (λ (u : Turn). Each WellFormed u.replies) (sym (step_asks s r (guarded st) e))
    (statement_formed s' st fit (request_possible r.mark r.body (guarded st) t e) (omega arith) (λ w i. omega (arith, (g.waiting.each w i).late)) up alone)

-- the replies after the own one of a crash that is done
crash_woken : (s : Run) (h : ℕ) (own : Reply) (woken : List Reply) → (settled (effect s (crash h))).replies ≡ own ∷ woken → woken ≡ (settle (laid (crashed s h))).replies
unfolding effect replied settled continued
crash_woken s h own woken e = cc

-- and so are those of the statements that a crash wakes, after its own
pub crash_formed : (s : Run) (h : ℕ) → Fit s → (own : Reply) (woken : List Reply) → (handled s (crash h)).replies ≡ own ∷ woken → Each WellFormed woken
crash_formed s h f own woken e = go (check_cases s (crash h))
  where
    go : NoRow (rows s (crash h)) ⊎ ((n : ℕ) × FirstRow (rows s (crash h)) n) → Each WellFormed woken
    go (inl k) =
        let fit : Fit (crashed s h) = crashed_fit s f h (unfold host_up in (crash_passes s h).0 k) in
        let w = crash_woken s h own woken (sym (ap (λ (u : Turn). u.replies) (all_checks s (crash h) k)) ∙ e) in
        rw w (settle_formed (laid (crashed s h)) (laid_fit (crashed s h) fit))
    go (inr k) = let t = sym (ap (λ (u : Turn). u.replies) (first_check s (crash h) k.0 k.1)) ∙ e in let w : woken ≡ [] = cc in rw w (each_nil _)
