-- RV, CR, MO, MS and DS in their words: what each changes, and with which reply. Assumes nothing.
use Rattle.std.specs.Prelude.{◌≡◌, refl, ◌↔◌, ℕ, suc, Bool, true, false, not, cond, get_or, set, T, eqb}
use Rattle.std.proofs.Math.Path.{ap, subst}
use Rattle.std.proofs.Common.{inl, arith}
use mathlib.Core.List.{List, [], ◌∷◌, ◌++◌}
use Rattle.basis.specs.Lists.{keep}
use Rattle.basis.specs.IndexLaws.{Parts, keep_parts}
use Rattle.basis.specs.Numbers.{count}
use Rattle.model.specs.Value.{value, whole}
use Rattle.model.specs.Matching.{Tuple}
use Rattle.model.specs.Run.{shared, private, Space, Run, with_up, with_monitors, with_spaces, with_tuples, next_monitor, Reply}
use Rattle.model.specs.Step.{Request, recover, crash, monitor, open_space, close_space, in_variable0, plain_reply, replied, recovered, dropped, crashed, opened, closed, effect, handled, asking_host, asking_process}
use Rattle.model.proofs.RowLaws.{IsUp, rows, NoRow}
use Rattle.model.proofs.StepLaws.{answer, Refused, first_check, Then, settled_words, all_checks}
use Rattle.model.proofs.Debts.{set_below, crashed_beside}
use Rattle.model.proofs.Fit.{Fit}
use Rattle.model.proofs.CrashLaws.{HostSet, host_set, Crashed, crashed_words, equal_iff}

-- ---- CR's checks

-- 7: "host not up"
pub crash_down : (s : Run) (h : ℕ) → ¬ IsUp s h → Refused s h 0 7 (handled s (crash h))
unfolding asking_host asking_process
crash_down s h d = first_check s (crash h) 7 (inl (d, refl))

-- a crash is done exactly if the host is up: "Refusal 12 no longer occurs for a crash"
pub crash_passes : (s : Run) (h : ℕ) → NoRow (rows s (crash h)) ↔ IsUp s h
crash_passes s h = (λ f. up_of (get_or s.up h false) f.0, λ u. (λ d. d u, tt))
  where
    up_of : (b : Bool) → ¬ (¬ T b) → T b
    up_of true n = tt
    up_of false n = n (λ t. t)

-- ---- past the checks

-- what an effect leaves, with its reply, and then rule 7
then_settled : (s : Run) (q : Request) (s' : Run) (own : List Reply) → NoRow (rows s q) → effect s q ≡ record { run = s'; replies = own } → Then s' own (handled s q)
then_settled s q s' own f e = rw (all_checks s q f, e) (settled_words (record { run = s'; replies = own }))

-- CR: its own reply gives "the count of hosts now up", and rule 7 follows
pub crash_then : (s : Run) (h : ℕ) → IsUp s h → Then (crashed s h) (answer s.last h 0 0 ((0, value whole (count (crashed s h).up)) ∷ []) ∷ []) (handled s (crash h))
crash_then s h u =
    let e : (crashed s h).last ≡ s.last = unfold dropped in ap (λ (x : Run). x.last) (crashed_beside s h) in
    let own : List Reply = answer (crashed s h).last h 0 0 ((0, value whole (count (crashed s h).up)) ∷ []) ∷ [] in
    subst (λ (n : ℕ). Then (crashed s h) (answer n h 0 0 ((0, value whole (count (crashed s h).up)) ∷ []) ∷ []) (handled s (crash h))) e
    (then_settled s (crash h) (crashed s h) own ((crash_passes s h).1 u) (unfold effect replied plain_reply in_variable0 asking_host asking_process in refl))

-- CR "removes it and does rule 6"
pub crash_done : (s : Run) (h : ℕ) → Fit s → IsUp s h → (s' : Run) × Crashed s h s' × Then s' (answer s.last h 0 0 ((0, value whole (count s'.up)) ∷ []) ∷ []) (handled s (crash h))
crash_done s h f u = (crashed s h, crashed_words s h f (omega (arith, set_below s.up h u, f.hosts)), crash_then s h u)

-- "RV adds the host"; the reply gives "the count of hosts now up"
pub recover_done : (s : Run) (h : ℕ) → NoRow (rows s (recover h))
    → (up : List Bool) × HostSet h true s.up up × Then (with_up s up) (answer s.last h 0 0 ((0, value whole (count up)) ∷ []) ∷ []) (handled s (recover h))
recover_done s h e = (
  set s.up h true,
  host_set s.up h true,
  then_settled s (recover h) (with_up s (set s.up h true)) _ e (unfold effect replied recovered plain_reply in_variable0 asking_host asking_process in refl),
)

-- "MO adds one to the count"; the reply gives the number
pub monitor_done : (s : Run) (h p : ℕ) → NoRow (rows s (monitor h p))
    → Then (with_monitors s (suc s.monitors)) (answer s.last h p 0 ((0, value whole (suc s.monitors)) ∷ []) ∷ []) (handled s (monitor h p))
monitor_done s h p e = then_settled s (monitor h p) (with_monitors s (suc s.monitors)) _ e (unfold effect replied next_monitor plain_reply in_variable0 asking_host asking_process in refl)

-- "MS opens the next space number and steps it on"; the reply gives the number
pub open_done : (s : Run) (h p : ℕ) (isPrivate : Bool) → NoRow (rows s (open_space h p isPrivate))
    → Then (with_spaces s (suc s.next) (s.spaces ++ (record { number = s.next; access = cond isPrivate (private p) shared } ∷ []))) (answer s.last h p 0 ((0, value whole s.next) ∷ []) ∷ []) (handled s (open_space h p isPrivate))
open_done s h p isPrivate e =
    then_settled s (open_space h p isPrivate) (with_spaces s (suc s.next) (s.spaces ++ (record { number = s.next; access = cond isPrivate (private p) shared } ∷ []))) _ e
    (unfold effect replied opened plain_reply in_variable0 asking_host asking_process in refl)

-- DS "closes a space, with its tuples": exactly those of the number go, the others keep their order; the reply gives no value
pub record Closed (s : Run) (n : ℕ) (s' : Run) : Type 0 where
  pub gone : List Space
  pub spaces : List Space
  pub lost : List Tuple
  pub tuples : List Tuple
  pub closes : Parts (λ (a : Space). a.number ≡ n) s.spaces gone spaces
  pub loses : Parts (λ (t : Tuple). t.space ≡ n) s.tuples lost tuples
  pub turned : s' ≡ with_tuples (with_spaces s s.next spaces) tuples

-- "DS removes the space and its tuples"
pub close_done : (s : Run) (h p n : ℕ) → NoRow (rows s (close_space h p n)) → (s' : Run) × Closed s n s' × Then s' (answer s.last h p 0 [] ∷ []) (handled s (close_space h p n))
unfolding closed
close_done s h p n e = (
  closed s n,
  record {
    gone = keep (λ a. eqb a.number n) s.spaces;
    spaces = keep (λ a. not (eqb a.number n)) s.spaces;
    lost = keep (λ t. eqb t.space n) s.tuples;
    tuples = keep (λ t. not (eqb t.space n)) s.tuples;
    closes = keep_parts (λ a. eqb a.number n) (λ (a : Space). a.number ≡ n) (equal_iff (λ (a : Space). a.number) n) s.spaces;
    loses = keep_parts (λ t. eqb t.space n) (λ (t : Tuple). t.space ≡ n) (equal_iff (λ (t : Tuple). t.space) n) s.tuples;
    turned = refl;
  },
  then_settled s (close_space h p n) (closed s n) _ e (unfold effect replied closed plain_reply asking_host asking_process in refl),
)
