-- Rules 2 to 5 in their words: which branch runs, what each operation does, in which order, and which failure decides. Assumes nothing.
use Rattle.std.proofs.Math.Path.{◌≡◌, refl, sym, ap}
use Rattle.std.proofs.Common.{◌∙◌, inl, inr, arith}
use Rattle.std.specs.Prelude.{◌⊎◌, ℕ, suc, true, false}
use Rattle.std.proofs.Math.Option.{Option, none, some, map, some-injective, none-ne-some}
use mathlib.Core.List.{List, [], ◌∷◌, ◌++◌, Memᴰ}
use Rattle.basis.specs.Lists.{Found}
use Rattle.basis.specs.ListLaws.{Each, any_at, any_of_lem}
use Rattle.basis.specs.IndexLaws.{Least, Decides, first_least, first_nowhere}
use Rattle.model.specs.Statement.{Operation, always, lookup, deposit, transfer, Branch, operations, Statement}
use Rattle.model.specs.Matching.{Tuple, Bindings, unbound, matches}
use Rattle.model.proofs.MatchingLaws.{Matches, matches_iff}
use Rattle.model.proofs.OperationLaws.{Fails, perform_fails}
use Rattle.model.specs.Execution.{Result, done, failed, perform, and_then, perform_all, holds, guard_holds, ready, chosen, Executed, execute, attempt}

-- ---- rule 2: guards and the branch

-- a guard "finds a tuple or is true"
abbrev pub Holds : List Tuple → Operation → Type 0
Holds ts always = Unit {0}
Holds ts (lookup withdraws blocks s fs) = (t : Tuple) × Memᴰ t ts × Matches unbound s fs t
Holds ts (deposit s fs) = ⊥
Holds ts (transfer withdraws from to fs) = ⊥

-- a guard holds exactly if it is true or some present tuple matches it
pub holds_iff : (ts : List Tuple) → Decides (holds ts) (Holds ts)
unfolding holds
holds_iff ts always = (λ t. tt, λ t. tt)
holds_iff ts (lookup withdraws blocks s fs) = (
  λ t. let p = any_at (matches unbound s fs) ts t in (p.item, p.member, (matches_iff unbound s fs p.item).0 p.passes),
  λ q. any_of_lem (matches unbound s fs) ts q.0 q.1 ((matches_iff unbound s fs q.0).1 q.2),
)
holds_iff ts (deposit s fs) = (λ t. t, λ t. t)
holds_iff ts (transfer withdraws from to fs) = (λ t. t, λ t. t)

-- some branch's guard holds
abbrev pub Ready : List Tuple → Statement → Type 0
Ready ts st = (b : Branch) × Memᴰ b st.branches × Holds ts b.guard

guard_holds_iff : (ts : List Tuple) → Decides (guard_holds ts) (λ (b : Branch). Holds ts b.guard)
unfolding guard_holds
guard_holds_iff ts b = holds_iff ts b.guard

-- a statement is ready exactly if some branch's guard holds
pub ready_iff : (ts : List Tuple) → Decides (ready ts) (Ready ts)
unfolding ready
ready_iff ts st = (
  λ t. let p = any_at (guard_holds ts) st.branches t in (p.item, p.member, (guard_holds_iff ts p.item).0 p.passes),
  λ q. any_of_lem (guard_holds ts) st.branches q.0 q.1 ((guard_holds_iff ts q.0).1 q.2),
)

-- "The branch search stops at the first branch whose guard finds a tuple or is true"
pub chosen_least : (ts : List Tuple) (st : Statement) (f : Found Branch) → chosen ts st ≡ some f → Least (λ (b : Branch). Holds ts b.guard) st.branches f.index f.item
unfolding chosen
chosen_least ts st f e = first_least (guard_holds ts) (λ (b : Branch). Holds ts b.guard) (guard_holds_iff ts) st.branches f e

-- and at none only where no guard holds
pub chosen_none : (ts : List Tuple) (st : Statement) → chosen ts st ≡ none → Each (λ (b : Branch). ¬ Holds ts b.guard) st.branches
unfolding chosen
chosen_none ts st e = first_nowhere (guard_holds ts) (λ (b : Branch). Holds ts b.guard) (guard_holds_iff ts) st.branches e

-- a statement that runs: the first branch whose guard holds, counted from 1; its guard, then its body, from no variable bound
pub record Runs (ts : List Tuple) (st : Statement) (e : Executed) : Type 0 where
  pub index : ℕ
  pub branch : Branch
  pub least : Least (λ (b : Branch). Holds ts b.guard) st.branches index branch
  pub number : e.branch ≡ suc index
  pub result : e.result ≡ perform_all (branch.guard ∷ branch.body) unbound ts

-- rule 2 in one: what is run is that branch
pub attempt_runs : (ts : List Tuple) (st : Statement) (e : Executed) → attempt ts st ≡ some e → Runs ts st e
unfolding attempt execute operations
attempt_runs ts st e q = go (chosen ts st) refl q
  where
    go : (o : Option (Found Branch)) → chosen ts st ≡ o → map (execute ts) o ≡ some e → Runs ts st e
    go none r q = absurd (none-ne-some e q)
    go (some f) r q =
        let w : execute ts f ≡ e = some-injective (execute ts f) e q in
        record { index = f.index; branch = f.item; least = chosen_least ts st f r; number = unfold execute in sym (ap (λ (x : Executed). x.branch) w); result = unfold execute operations in sym (ap (λ (x : Executed). x.result) w) }

-- a statement that does not run has no guard that holds
pub attempt_unmet : (ts : List Tuple) (st : Statement) → attempt ts st ≡ none → Each (λ (b : Branch). ¬ Holds ts b.guard) st.branches
unfolding attempt
attempt_unmet ts st q = go (chosen ts st) refl q
  where
    go : (o : Option (Found Branch)) → chosen ts st ≡ o → map (execute ts) o ≡ none → Each (λ (b : Branch). ¬ Holds ts b.guard) st.branches
    go none r q = chosen_none ts st r
    go (some f) r q = absurd (none-ne-some (execute ts f) (sym q))

-- ---- rule 3: the body, in order

-- "The body runs in order": what is done by operations is done by the first, and then by the others
pub performed_in_order : (o : Operation) (os : List Operation) (bs : Bindings) (ts : List Tuple) (bs'' : Bindings) (ts'' : List Tuple) → perform_all (o ∷ os) bs ts ≡ done bs'' ts''
    → (bs' : Bindings) × (ts' : List Tuple) × (perform o bs ts ≡ done bs' ts') × (perform_all os bs' ts' ≡ done bs'' ts'')
unfolding perform_all and_then
performed_in_order o os bs ts bs'' ts'' e = go (perform o bs ts) refl e
  where
    go : (r : Result) → perform o bs ts ≡ r → and_then r (perform_all os) ≡ done bs'' ts'' → (bs' : Bindings) × (ts' : List Tuple) × (perform o bs ts ≡ done bs' ts') × (perform_all os bs' ts' ≡ done bs'' ts'')
    go (done bs' ts') q e = unfold and_then in (bs', ts', q, e)
    go (failed n) q e = unfold and_then in let z : ◌≡◌ {A = ℕ} 0 1 = cc e in absurd (omega arith)

-- operations after others run on what those left, unless one of those failed
pub perform_all_append : (os ps : List Operation) (bs : Bindings) (ts : List Tuple) → perform_all (os ++ ps) bs ts ≡ and_then (perform_all os bs ts) (perform_all ps)
unfolding perform_all and_then
perform_all_append [] ps bs ts = refl
perform_all_append (o ∷ os) ps bs ts = go (perform o bs ts) (λ bs ts. perform_all_append os ps bs ts)
  where
    go : (r : Result) → ((bs : Bindings) (ts : List Tuple) → perform_all (os ++ ps) bs ts ≡ and_then (perform_all os bs ts) (perform_all ps)) → and_then r (perform_all (os ++ ps)) ≡ and_then (and_then r (perform_all os)) (perform_all ps)
    go (done bs ts) h = unfold and_then in h bs ts
    go (failed n) h = unfold and_then in refl

-- the operation that decides: those before it are done, and it fails on what they left
pub record Decided (os : List Operation) (bs : Bindings) (ts : List Tuple) (n : ℕ) : Type 0 where
  pub front : List Operation
  pub decides : Operation
  pub back : List Operation
  pub split : os ≡ front ++ (decides ∷ back)
  pub bindings : Bindings
  pub tuples : List Tuple
  pub before : perform_all front bs ts ≡ done bindings tuples
  pub fails : Fails bindings tuples decides n

-- "the first operation to fail decides"
pub first_to_fail : (os : List Operation) (bs : Bindings) (ts : List Tuple) (n : ℕ) → perform_all os bs ts ≡ failed n → Decided os bs ts n
unfolding perform_all and_then
first_to_fail [] bs ts n e = let z : ◌≡◌ {A = ℕ} 0 1 = cc in absurd (omega arith)
first_to_fail (o ∷ os) bs ts n e = go (perform o bs ts) refl e (λ bs ts. first_to_fail os bs ts n)
  where
    go : (r : Result) → perform o bs ts ≡ r → and_then r (perform_all os) ≡ failed n → ((bs : Bindings) (ts : List Tuple) → perform_all os bs ts ≡ failed n → Decided os bs ts n) → Decided (o ∷ os) bs ts n
    go (done bs' ts') q e later =
        let h = later bs' ts' (unfold and_then in e) in
        record { front = o ∷ h.front; decides = h.decides; back = h.back; split = ap (λ (k : List Operation). o ∷ k) h.split; bindings = h.bindings; tuples = h.tuples; before = unfold perform_all and_then in rw q h.before; fails = h.fails }
    go (failed m) q e later = record { front = []; decides = o; back = os; split = refl; bindings = bs; tuples = ts; before = unfold perform_all in refl; fails = perform_fails o bs ts n (q ∙ (unfold and_then in e)) }

fail_number : (o : Operation) (bs : Bindings) (ts : List Tuple) (n : ℕ) → Fails bs ts o n → (n ≡ 12) ⊎ ((n ≡ 16) ⊎ (n ≡ 17))
fail_number always bs ts n f = absurd f
fail_number (lookup withdraws blocks s fs) bs ts n f = inr (inl f.0)
fail_number (deposit s fs) bs ts n (inl f) = inr (inr f.0)
fail_number (deposit s fs) bs ts n (inr f) = inl f.0
fail_number (transfer true from to fs) bs ts n f = absurd f
fail_number (transfer false from to fs) bs ts n f = inl f.0

-- "and is answered 12, 16 or 17"
pub failure_number : (os : List Operation) (bs : Bindings) (ts : List Tuple) (n : ℕ) → perform_all os bs ts ≡ failed n → (n ≡ 12) ⊎ ((n ≡ 16) ⊎ (n ≡ 17))
failure_number os bs ts n e = let h = first_to_fail os bs ts n e in fail_number h.decides h.bindings h.tuples n h.fails
