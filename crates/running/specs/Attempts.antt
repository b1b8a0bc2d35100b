-- A statement's attempt on the tuples of a stored run. Assumes nothing.
use Rattle.std.specs.Prelude.{◌≡◌, refl, List, length, T}
use Rattle.std.proofs.Common.{◌∙◌, arith, take_all, ne_eqb}
use Rattle.std.proofs.Math.Path.{ap}
use Prim.Native.Nat.{ℕ, zero, suc}
use Rattle.std.proofs.Math.Option.{Option, none, some, some-injective, none-ne-some}
use Rattle.std.proofs.Math.Pow.{are_bytes}
use Rattle.basis.specs.Choice.{maybe}
use Rattle.basis.specs.Sizes.{variables}
use Rattle.model.specs.Matching.{Tuple}
use Rattle.model.specs.Execution.{Executed, attempt, tuples_after}
use Rattle.model.specs.Run.{Run, with_tuples, bound_from, outcome_of, values_of}
use Rattle.model.specs.Step.{ran}
use Rattle.model.proofs.Fit.{Fit}
use Rattle.model.proofs.Effects.{ran_fit}
use Rattle.model.proofs.ReadBack.{parse_again}
use Rattle.layout.specs.States.{decode}
use Rattle.layout.specs.Stored.{IsStored, statement_of, legal_parse}
use Rattle.header.specs.Rows.{tuple_count_part, tuples_part, with_row, with_part, tuples_lent}
use Rattle.tuples.specs.Section.{tuples_of}
use Rattle.replies.specs.Written.{bound_to, ran_values}
use Rattle.replies.specs.WrittenLaws.{ran_failed, bound_from_lem}
use Rattle.state.specs.Changes.{tuples_changed}
use Rattle.bindings.specs.declared.Vars.{Vars}
use Rattle.bindings.specs.Variables.{bindings_of, bindings_length}
use Rattle.operations.specs.Performing.{result_is}
use Rattle.engine.specs.Attempting.{ran_is, Attempted}
use Rattle.running.specs.Executed.{MayRun, Left}
use Rattle.state.specs.Lent.{tuples_read}

-- ---- the answer

-- the values of the variables as the run has them
bound_is_lem : (v : Vars) → length v.values ≡ variables → bound_to variables v.values ≡ bound_from 0 (bindings_of v)
bound_is_lem v n =
    bound_from_lem v.values variables (omega arith) ∙ ap (bound_from 0) (take_all variables (bindings_of v) (omega (arith, bindings_length v.values)))

values_are : (outcome : ℕ) (v : Vars) (ts : List Tuple) → length v.values ≡ variables → ran_values outcome v.values ≡ values_of (result_is outcome (bindings_of v) ts)
unfolding ran_values result_is values_of
values_are zero v ts n = bound_is_lem v n
values_are (suc k) v ts n = ran_failed (suc k) v.values (ne_eqb (suc k) 0 (λ e. absurd (omega arith)))

outcome_is : (outcome : ℕ) (v : Vars) (ts : List Tuple) → outcome ≡ outcome_of (result_is outcome (bindings_of v) ts)
unfolding result_is outcome_of
outcome_is zero v ts = refl
outcome_is (suc k) v ts = refl

module _ (o : Option Executed) (outcome : ℕ) (v : Vars) (after : List Tuple) where
  branch_is : (number : ℕ) → ran_is number outcome (bindings_of v) after ≡ o → number ≡ maybe o 0 (λ e. e.branch)
  unfolding ran_is
  branch_is zero q = rw (← q)
  branch_is (suc k) q = rw (← q)

  answer_is : (number : ℕ) → ran_is number outcome (bindings_of v) after ≡ o → length v.values ≡ variables → (e : Executed) → o ≡ some e
      → (outcome ≡ outcome_of e.result) × (ran_values outcome v.values ≡ values_of e.result)
  unfolding ran_is
  answer_is zero q n e r = absurd (none-ne-some e (q ∙ r))
  answer_is (suc k) q n e r =
      let x : Executed = record { branch = suc k; result = result_is outcome (bindings_of v) after } in
      let same : x ≡ e = some-injective x e (q ∙ r) in
      (outcome_is outcome v after ∙ ap (λ (y : Executed). outcome_of y.result) same, values_are outcome v after n ∙ ap (λ (y : Executed). values_of y.result) same)

-- ---- the state

module _ (b : List ℕ) (n : ℕ) (h : IsStored b) (e : n ≡ length (decode b).tuples) where
  -- the run after an attempt is within its limits
  after_fit : (body : List ℕ) → MayRun (decode b) body → T (are_bytes body) → (o : Option Executed) → attempt (decode b).tuples (statement_of body) ≡ o
      → Fit (with_tuples (decode b) (maybe o (decode b).tuples (λ x. tuples_after (decode b).tuples x.result)))
  unfolding ran
  after_fit body m t none q = h.fit
  after_fit body m t (some x) q = ran_fit (decode b) h.fit (statement_of body) x (parse_again body (statement_of body) t (legal_parse body m.legal)) m.opened q

  -- what stands after it
  pub left : (body p out : List ℕ) (m branch outcome : ℕ) (v : Vars) → MayRun (decode b) body → T (are_bytes body) → length v.values ≡ variables
      → Attempted (attempt (tuples_of (tuples_lent b) n) (statement_of body)) (tuples_of (tuples_lent b) n) branch outcome m v p → out ≡ with_row tuple_count_part m (with_part tuples_part b p)
      → Left (decode b) (attempt (decode b).tuples (statement_of body)) out branch outcome (ran_values outcome v.values)
  left body p out m branch outcome v may t sixteen did put =
      let s : Run = decode b in
      let o : Option Executed = attempt s.tuples (statement_of body) in
      let a : Attempted o s.tuples branch outcome m v p = rw (tuples_read b n h e) at did in
      record {
        stored = tuples_changed h a.holds (after_fit body may t o refl) put;
        runs = branch_is o outcome v (tuples_of p m) branch a.is;
        answers = answer_is o outcome v (tuples_of p m) branch a.is sixteen;
      }
