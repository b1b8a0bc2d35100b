-- Rule 7: what one turn of it does, and that after it no waiting statement has a guard that holds. Assumes nothing.
use Rattle.std.specs.Prelude.{◌≡◌, refl, ℕ, zero, suc, ◌≤◌, Bool, not, List, [], ◌∷◌, length, T}
use Rattle.std.proofs.Common.{sym, ap, ◌∙◌, le_refl, arith, T_not}
use Rattle.std.proofs.Math.Option.{Option, none, some, map, some-injective, none-ne-some}
use Rattle.basis.specs.Choice.{maybe, maybe-ind}
use Rattle.basis.specs.Lists.{all, Found, first}
use Rattle.basis.specs.ListLaws.{all_at, all_of, none_of, First, first_some, first_none, first_below, first_member, remove_at_length}
use Rattle.model.specs.Statement.{Branch, Statement}
use Rattle.model.specs.Matching.{Tuple}
use Rattle.model.specs.Execution.{guard_holds, ready, chosen, Executed, execute, attempt}
use Rattle.model.specs.Run.{Waiting, Run, Turn, woken_by, wake, laid, continued, settle_within, settle}
use Rattle.model.specs.Valid.{none_ready}
use Rattle.model.proofs.Debts.{laid_last, laid_waiting}

-- ---- a statement with no guard that holds

-- a statement that is not run is not ready
pub attempt_none : (ts : List Tuple) (st : Statement) → attempt ts st ≡ none → T (not (ready ts st))
unfolding attempt chosen ready
attempt_none ts st e = go (first (guard_holds ts) st.branches) refl e
  where
    go : (o : Option (Found Branch)) → first (guard_holds ts) st.branches ≡ o → map (execute ts) o ≡ none → T (not (ready ts st))
    go none q e = unfold ready in none_of (guard_holds ts) st.branches (first_none (guard_holds ts) st.branches q)
    go (some f) q e = absurd (none-ne-some _ (sym e))

-- ---- one turn

abbrev is_ready : Run → Waiting → Bool
is_ready s w = ready s.tuples w.statement

-- a turn at a run: who runs is the oldest that is ready, and what came of it
pub record Woken (s : Run) (t : Turn) : Type 0 where
  pub found : Found Waiting
  pub executed : Executed
  pub oldest : First (λ w. ready s.tuples w.statement) s.waiting found
  pub attempted : attempt s.tuples found.item.statement ≡ some executed
  pub turned : t ≡ woken_by s found executed

-- every turn is such a one
pub wake_some : (s : Run) (t : Turn) → wake s ≡ some t → Woken s t
unfolding wake
wake_some s t e = go (first (is_ready s) s.waiting) refl e
  where
    ran : (f : Found Waiting) → first (is_ready s) s.waiting ≡ some f → (o : Option Executed) → attempt s.tuples f.item.statement ≡ o → maybe o none (λ x. some (woken_by s f x)) ≡ some t → Woken s t
    ran f q none r e = absurd (none-ne-some t e)
    ran f q (some x) r e = record { found = f; executed = x; oldest = first_some (is_ready s) s.waiting f q; attempted = r; turned = sym (some-injective (woken_by s f x) t e) }

    go : (o : Option (Found Waiting)) → first (is_ready s) s.waiting ≡ o → maybe o none (λ f. maybe (attempt s.tuples f.item.statement) none (λ x. some (woken_by s f x))) ≡ some t → Woken s t
    go none q e = absurd (none-ne-some t e)
    go (some f) q e = ran f q (attempt s.tuples f.item.statement) refl e

-- no turn is taken only where no waiting statement has a guard that holds
pub wake_none : (s : Run) → wake s ≡ none → T (none_ready s)
unfolding wake none_ready
wake_none s e = go (first (is_ready s) s.waiting) refl e
  where
    ran : (f : Found Waiting) → T (is_ready s f.item) → (o : Option Executed) → attempt s.tuples f.item.statement ≡ o → maybe o none (λ x. some (woken_by s f x)) ≡ none → ⊥
    ran f h none r e = T_not (is_ready s f.item) (attempt_none s.tuples f.item.statement r) h
    ran f h (some x) r e = none-ne-some _ (sym e)

    go : (o : Option (Found Waiting)) → first (is_ready s) s.waiting ≡ o → maybe o none (λ f. maybe (attempt s.tuples f.item.statement) none (λ x. some (woken_by s f x))) ≡ none → T (all (λ w. not (is_ready s w)) s.waiting)
    go none q e = all_of (λ w. not (is_ready s w)) s.waiting (first_none (is_ready s) s.waiting q)
    go (some f) q e = absurd (ran f (first_some (is_ready s) s.waiting f q).passes (attempt s.tuples f.item.statement) refl e)

-- where none is ready no turn is taken
pub wake_calm : (s : Run) → T (none_ready s) → wake s ≡ none
unfolding wake none_ready
wake_calm s t = go (first (is_ready s) s.waiting) refl
  where
    go : (o : Option (Found Waiting)) → first (is_ready s) s.waiting ≡ o → maybe o none (λ f. maybe (attempt s.tuples f.item.statement) none (λ x. some (woken_by s f x))) ≡ none
    go none q = refl
    go (some f) q = let h = first_some (is_ready s) s.waiting f q in absurd (T_not (is_ready s f.item) (all_at (λ w. not (is_ready s w)) s.waiting t f.item (first_member (is_ready s) s.waiting f h)) h.passes)

-- a turn keeps the last number
pub wake_last : (s : Run) (t : Turn) → wake s ≡ some t → t.run.last ≡ s.last
unfolding woken_by
wake_last s t e = let w = wake_some s t e in rw w.turned

-- a turn takes one from the queue
pub wake_shorter : (s : Run) (t : Turn) → wake s ≡ some t → suc (length t.run.waiting) ≡ length s.waiting
unfolding woken_by
wake_shorter s t e =
    let w = wake_some s t e in
    rw w.turned (remove_at_length w.found.index s.waiting (first_below (λ w. ready s.tuples w.statement) s.waiting w.found w.oldest))

-- ---- all turns

within-keeps {ℓ} : (P : Run → Type ℓ) → ((s : Run) (t : Turn) → wake s ≡ some t → P s → P (laid t.run)) → (n : ℕ) (s : Run) → P s → P (settle_within n s).run
unfolding settle_within continued
within-keeps P next zero s p = p
within-keeps P next (suc n) s p = maybe-ind (λ (t : Turn). P t.run) (wake s) _ _ (λ e. p) (λ t e. within-keeps P next n (laid t.run) (next s t e p))

-- what holds at a search and then at the next one, after the turn and what is laid, holds at the last
pub settle-searches {ℓ} : (P : Run → Type ℓ) → ((s : Run) (t : Turn) → wake s ≡ some t → P s → P (laid t.run)) → (s : Run) → P s → P (settle s).run
unfolding settle
settle-searches P next s p = within-keeps P next (length s.waiting) s p

-- what each turn and each laying keeps, all of them keep
pub settle-keeps {ℓ} : (P : Run → Type ℓ) → ((s : Run) (t : Turn) → wake s ≡ some t → P s → P t.run) → ((s : Run) → P s → P (laid s)) → (s : Run) → P s → P (settle s).run
settle-keeps P turn lay s p = settle-searches P (λ u t e q. lay t.run (turn u t e q)) s p

-- rule 7 keeps the last number
pub settle_last : (s : Run) → (settle s).run.last ≡ s.last
settle_last s = settle-keeps (λ (u : Run). u.last ≡ s.last) (λ u t e p. wake_last u t e ∙ p) (λ u p. laid_last u ∙ p) s refl

none_waiting : (s : Run) → length s.waiting ≤ 0 → T (none_ready s)
unfolding none_ready all
none_waiting s h = go s.waiting h
  where
    go : (ws : List Waiting) → length ws ≤ 0 → T (all (λ w. not (is_ready s w)) ws)
    go [] h = tt
    go (w ∷ ws) h = absurd (omega arith)

-- a turn, and what is laid after it, leave a queue that is shorter by one
pub turn_shorter : (s : Run) (t : Turn) → wake s ≡ some t → suc (length (laid t.run).waiting) ≡ length s.waiting
turn_shorter s t e = ap (λ (ws : List Waiting). suc (length ws)) (laid_waiting t.run) ∙ wake_shorter s t e

within_calm : (n : ℕ) (s : Run) → length s.waiting ≤ n → T (none_ready (settle_within n s).run)
unfolding settle_within continued
within_calm zero s h = none_waiting s h
within_calm (suc n) s h = maybe-ind (λ (t : Turn). T (none_ready t.run)) (wake s) _ _ (λ e. wake_none s e) (λ t e. within_calm n (laid t.run) (omega (arith, turn_shorter s t e)))

-- "this repeats from the oldest until none holds": a search follows what was laid, so a tuple that was laid meets no guard that waits on
pub settle_calm : (s : Run) → T (none_ready (settle s).run)
unfolding settle
settle_calm s = within_calm (length s.waiting) s (le_refl (length s.waiting))

within_of_calm : (n : ℕ) (s : Run) → wake s ≡ none → settle_within n s ≡ record { run = s; replies = [] }
unfolding settle_within
within_of_calm zero s e = refl
within_of_calm (suc n) s e = rw e

-- where no guard holds rule 7 changes nothing and gives no reply
pub settle_of_calm : (s : Run) → T (none_ready s) → settle s ≡ record { run = s; replies = [] }
unfolding settle
settle_of_calm s t = within_of_calm (length s.waiting) s (wake_calm s t)

-- a turn, what is laid after it, and the rest
pub settle_turn : (s : Run) (t : Turn) → wake s ≡ some t → settle s ≡ continued settle t
unfolding settle settle_within continued
settle_turn s t e = rw (← turn_shorter s t e, e)
