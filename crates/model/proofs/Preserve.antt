-- A step keeps every limit: the run of a stream is always sound. Assumes nothing.
use Rattle.std.specs.Prelude.{◌≡◌, refl, ℕ, zero, suc, ◌≤◌, ◌<◌, Bool, true, false, List, [], ◌∷◌, length, replicate, leb}
use Rattle.std.proofs.Common.{sym, ap, ◌∙◌, le_refl, arith, lit<}
use Rattle.std.proofs.Math.Bool.{not}
use Rattle.std.proofs.Math.Option.{none, some, none-ne-some}
use Rattle.std.proofs.Math.Pow.{are_bytes}
use Rattle.std.proofs.Math.Dec.{T}
use Rattle.basis.specs.Choice.{first_number, maybe-ind, cond_ind}
use Rattle.basis.specs.Logic.{not_not}
use Rattle.basis.specs.ListLaws.{Each, each_nil, each-cons, none_at}
use Rattle.basis.specs.Sizes.{hosts, positions, most_monitors, most_waiting}
use Rattle.model.specs.Statement.{Statement, spaces_named}
use Rattle.model.specs.Execution.{can_wait, attempt}
use Rattle.model.specs.Run.{Space, Waiting, Run, fresh, with_last, host_up, is_open, is_denied, has_room, owes_some, laid, Turn, continued, settle}
use Rattle.model.specs.Step.{Record, Request, recover, crash, monitor, open_space, close_space, guarded, request_of, standing, access, checks, asking_host, asking_process, refused, malformed, replied, recovered, dropped, opened, closed, unmet, ran, effect, settled, handled, step}
use Rattle.model.specs.Valid.{none_ready, owes_only_full}
use Rattle.model.proofs.ValidLaws.{valid_none_ready, valid_only_full}
use Rattle.model.proofs.Sound.{OwnerFits, Sound}
use Rattle.model.proofs.Settle.{settle-searches, settle-keeps, settle_last, settle_calm}
use Rattle.model.proofs.Debts.{laid_last, crashed_beside}
use Rattle.model.proofs.Laying.{laid_full}
use Rattle.model.proofs.Fit.{Waits, Fit, sound_fit, fit_sound}
use Rattle.model.proofs.Requests.{Possible, request_possible}
use Rattle.model.proofs.Effects.{queue_in, recovered_fit, crashed_fit, monitored_fit, opened_fit, closed_fit, ran_fit, unmet_fit, wake_fit, laid_fit}
use Rattle.model.proofs.Computes.{computes}

-- "Fresh: position 0, no host up, next number 1, space 0 only" is sound
pub fresh_sound : Sound fresh
unfolding computes
fresh_sound = record {
  last = lit< tt;
  hosts = refl;
  owners = each-cons (λ (a : Space). OwnerFits a.access) _ [] tt (each_nil _);
  written = each_nil _;
  owed = record { places = refl; wide = all_wide most_monitors };
  valid = tt;
}
  where
    all_wide : (n : ℕ) → Each (λ (us : List Bool). length us ≡ hosts) (replicate n (replicate hosts false))
    all_wide zero = each_nil _
    all_wide (suc n) = each-cons (λ (us : List Bool). length us ≡ hosts) (replicate hosts false) (replicate n (replicate hosts false)) refl (all_wide n)

-- ---- the last number

unmet_last : (s : Run) (st : Statement) → (unmet s st).run.last ≡ s.last
unfolding unmet refused
unmet_last s st = cond_ind (λ (t : Turn). t.run.last ≡ s.last) (not (can_wait st)) _ _ (λ e. refl) (λ e. cond_ind (λ (t : Turn). t.run.last ≡ s.last) (leb most_waiting (length s.waiting)) _ _ (λ e. refl) (λ e. refl))

effect_last : (s : Run) (q : Request) → (effect s q).run.last ≡ s.last
unfolding effect replied recovered dropped opened closed
effect_last s (recover h) = refl
effect_last s (crash h) = ap (λ (u : Run). u.last) (crashed_beside s h)
effect_last s (monitor h p) = refl
effect_last s (open_space h p isPrivate) = refl
effect_last s (close_space h p n) = refl
effect_last s (guarded st) = maybe-ind (λ (t : Turn). t.run.last ≡ s.last) (attempt s.tuples st) _ _ (λ e. unmet_last s st) (λ x e. unfold ran in refl)

-- what holds of a refusal and of an effect after which rule 7 has run holds of every request handled
handled_ind : (P : Turn → Type 0) (s : Run) (q : Request) → ((n : ℕ) → P (refused s (asking_host q) (asking_process q) n)) → (first_number (checks s q) ≡ none → P (settled (effect s q))) → P (handled s q)
unfolding handled
handled_ind P s q r w = maybe-ind P (first_number (checks s q)) (settled (effect s q)) (refused s (asking_host q) (asking_process q)) w (λ n e. r n)

-- and with what holds of a malformed body it holds of every step
step_ind : (P : Turn → Type 0) (s : Run) (r : Record) → P (malformed (with_last s r.position)) → ((q : Request) → request_of r.mark r.body ≡ some q → P (handled (with_last s r.position) q)) → P (step s r)
unfolding step
step_ind P s r m h = maybe-ind P (request_of r.mark r.body) (malformed (with_last s r.position)) (handled (with_last s r.position)) (λ e. m) h

settled_last : (s : Run) (q : Request) → (settled (effect s q)).run.last ≡ s.last
unfolding settled continued
settled_last s q = settle_last (laid (effect s q).run) ∙ laid_last (effect s q).run ∙ effect_last s q

-- "A step sets the last number"
pub step_last : (s : Run) (r : Record) → (step s r).run.last ≡ r.position
step_last s r =
    let s' : Run = with_last s r.position in
    step_ind (λ (t : Turn). t.run.last ≡ r.position) s r (unfold malformed refused in refl)
    (λ q e. handled_ind (λ (t : Turn). t.run.last ≡ r.position) s' q (λ n. unfold refused in refl) (λ e. settled_last s' q))

-- ---- no guard that holds

settled_calm : (t : Turn) → T (none_ready (settled t).run)
unfolding settled continued
settled_calm t = settle_calm (laid t.run)

-- after a step no waiting statement has a guard that holds, where none had before
pub step_calm : (s : Run) (r : Record) → T (none_ready s) → T (none_ready (step s r).run)
step_calm s r calm =
    let s' : Run = with_last s r.position in
    let c : T (none_ready s') = unfold none_ready in calm in
    step_ind (λ (t : Turn). T (none_ready t.run)) s r (unfold malformed refused in c)
    (λ q e. handled_ind (λ (t : Turn). T (none_ready t.run)) s' q (λ n. unfold refused in c) (λ e. settled_calm (effect s' q)))

-- ---- the limits

-- no check refuses: the first does not, and no later one
passed : (b : Bool) (k : ℕ) (cs : List (Bool × ℕ)) → first_number ((b, k) ∷ cs) ≡ none → T (not b) × (first_number cs ≡ none)
unfolding first_number
passed true k cs e = absurd (none-ne-some k (sym e))
passed false k cs e = (tt, e)

-- a statement that passed the checks may wait
may_wait_lem : (s : Run) (st : Statement) → Possible (guarded st) → 1 ≤ s.last → T (host_up s st.host) → Each (λ (n : ℕ). T (is_open s.spaces n) × T (not (is_denied s.spaces st.process n))) (spaces_named st) → T (can_wait st)
    → Waits s.last s.up s.spaces (record { position = s.last; statement = st })
unfolding host_up
may_wait_lem s st p l up o c = record { early = l; late = le_refl s.last; written = p; host = up; named = o; waits = c }

module _ (s : Run) (f : Fit s) (above : 1 ≤ s.last) (older : Each (λ (w : Waiting). w.position < s.last) s.waiting) where
  guarded_fit : (st : Statement) → Possible (guarded st) → first_number (checks s (guarded st)) ≡ none → Fit (effect s (guarded st)).run
  unfolding effect checks standing access
  guarded_fit st p e =
      let c7 = passed _ _ _ e in
      let c9 = passed _ _ _ c7.1 in
      let c10 = passed _ _ _ c9.1 in
      let c11 = passed _ _ _ c10.1 in
      let o : Each (λ (n : ℕ). T (is_open s.spaces n)) (spaces_named st) = λ n i. not_not (is_open s.spaces n) (none_at (λ n. not (is_open s.spaces n)) (spaces_named st) c10.0 n i) in
      let d : Each (λ (n : ℕ). T (not (is_denied s.spaces st.process n))) (spaces_named st) = none_at (is_denied s.spaces st.process) (spaces_named st) c11.0 in
      maybe-ind (λ (t : Turn). Fit t.run) (attempt s.tuples st) _ _
      (λ u. unmet_fit s f st older c9.0 (may_wait_lem s st p above (not_not (host_up s st.host) c7.0) (λ n i. (o n i, d n i))))
      (λ x u. ran_fit s f st x p o u)

  -- an effect that no check refuses
  pub effect_fit : (q : Request) → Possible q → first_number (checks s q) ≡ none → Fit (effect s q).run
  unfolding effect checks standing access replied
  effect_fit (recover h) p e = recovered_fit s f h
  effect_fit (crash h) p e = crashed_fit s f h (not_not (host_up s h) (passed _ _ _ e).0)
  effect_fit (monitor h p) q e = monitored_fit s f (passed _ _ _ (passed _ _ _ (passed _ _ _ e).1).1).0
  effect_fit (open_space h p isPrivate) q e = opened_fit s f p isPrivate q (passed _ _ _ (passed _ _ _ (passed _ _ _ e).1).1).0
  effect_fit (close_space h p n) q e =
      let c10 = passed _ _ _ (passed _ _ _ (passed _ _ _ e).1).1 in
      closed_fit s f n (passed _ _ _ (passed _ _ _ c10.1).1).0
  effect_fit (guarded st) p e = guarded_fit st p e

settled_fit : (t : Turn) → Fit t.run → Fit (settled t).run
unfolding settled continued
settled_fit t f = settle-keeps Fit wake_fit laid_fit (laid t.run) (laid_fit t.run f)

-- rule 7 leaves something owed only beside 512 tuples, since what is owed is laid after each turn
settle_full : (s : Run) → Fit s → T (owes_only_full s) → T (owes_only_full (settle s).run)
settle_full s f full = (settle-searches (λ (u : Run). Fit u × T (owes_only_full u)) (λ u t e p. let k = wake_fit u t e p.0 in (laid_fit t.run k, laid_full t.run k)) s (f, full)).1

settled_full : (t : Turn) → Fit t.run → T (owes_only_full (settled t).run)
unfolding settled continued
settled_full t f = settle_full (laid t.run) (laid_fit t.run f) (laid_full t.run f)

-- the last number rises
pub later_fit : (s : Run) (p : ℕ) → s.last ≤ p → p < positions → Fit s → Fit (with_last s p)
later_fit s p above four f = record {
  last = four;
  hosts = f.hosts;
  monitors = f.monitors;
  spaces = f.spaces;
  tuples = f.tuples;
  owed = f.owed;
  waiting = queue_in s.last p s.up s.up s.spaces s.spaces s.waiting f.waiting
      (λ w i. let q = f.waiting.each w i in record { early = q.early; late = omega (arith, q.late); written = q.written; host = q.host; named = q.named; waits = q.waits });
}

-- a run that a step leaves: within its limits, with something owed only beside 512 tuples
abbrev Left : Run → Type 0
Left s = Fit s × T (owes_only_full s)

step_left : (s : Run) (r : Record) → Left s → r.position ≡ suc s.last → r.position < positions → T (are_bytes r.body) → Left (step s r).run
step_left s r (f, full) n four t =
    let s' : Run = with_last s r.position in
    let f' : Fit s' = later_fit s r.position (omega arith) four f in
    let l' : Left s' = (f', unfold owes_only_full owes_some has_room in full) in
    step_ind (λ (u : Turn). Left u.run) s r (unfold malformed refused in l')
    (λ q e. handled_ind (λ (u : Turn). Left u.run) s' q (λ k. unfold refused in l')
    (λ c. let k = effect_fit s' f' (omega arith) (λ w i. omega (arith, (f.waiting.each w i).late)) q (request_possible r.mark r.body q t e) c in (settled_fit (effect s' q) k, settled_full (effect s' q) k)))

-- a step keeps every limit, at the number after the last and of four bytes
pub step_sound : (s : Run) (r : Record) → Sound s → r.position ≡ suc s.last → r.position < positions → T (are_bytes r.body) → Sound (step s r).run
step_sound s r f n four t =
    let l = step_left s r (sound_fit s f, valid_only_full s f.valid) n four t in
    fit_sound (step s r).run l.0 (step_calm s r (valid_none_ready s f.valid)) l.1
