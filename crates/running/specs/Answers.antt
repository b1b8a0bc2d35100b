-- The reply to a statement that ran, and none to one that did not. Assumes nothing.
use Rattle.std.specs.Prelude as code
use Rattle.std.specs.Prelude.{None}
use Rattle.std.specs.Prelude.{◌≡◌, ℕ, zero, suc, ◌≤◌, Bool, true, false, cond, length, get_or, eqb}
use Rattle.std.proofs.Math.Path.{refl}
use Rattle.std.proofs.Common.{sym, ap, subst, ◌∙◌, arith, length-append}
use Rattle.std.proofs.Math.Option.{Option, none, some, map, none-ne-some}
use mathlib.Core.List.{List, [], ◌∷◌, ◌++◌, flat_map, append-nil}
use Rattle.basis.specs.Choice.{maybe}
use Rattle.basis.specs.Sizes.{variables, most_reply}
use Rattle.model.specs.Value.{Value}
use Rattle.values.specs.declared.Scalar.{Scalar}
use Rattle.values.specs.Meaning.{scalar_given}
use Rattle.model.specs.Statement.{Statement}
use Rattle.model.specs.Execution.{chosen, Executed, execute, attempt, tuples_after}
use Rattle.walk.specs.declared.Choice.{Choice}
use Rattle.model.specs.Run.{Run, with_tuples, Reply, outcome_of, values_of, ran_reply}
use Rattle.layout.specs.Replies.{replies_bytes}
use Rattle.layout.specs.ReplyLaws.{reply_length}
use Rattle.layout.specs.Stored.{Stored, Turned, statement_of}
use Rattle.replies.specs.Written.{bound_to, reply, ran_values, Wrote}
use Rattle.replies.specs.TurnLaws.{turned_one}
use Rattle.running.specs.Executed.{Picked, still, executed, Left}

-- ---- no reply

pub turned_still : (s : Run) (state out : List ℕ) → Stored state s → Turned (still s) out state out 0
unfolding still replies_bytes flat_map
turned_still s state out h = record { stored = h; bytes = refl; number = refl }

-- ---- no longer than a reply with all variables

bound_few : (n : ℕ) (ss : List (code.Option Scalar)) → length (bound_to n ss) ≤ n
unfolding bound_to
bound_few zero ss = omega arith
bound_few (suc x) ss = go (scalar_given (get_or ss x None)) (bound_few x ss)
  where
    go : (o : Option Value) → length (bound_to x ss) ≤ x → length (bound_to x ss ++ maybe {B = List (ℕ × Value)} o [] (λ v. (x, v) ∷ [])) ≤ suc x
    go (some v) h = omega (arith, length-append (bound_to x ss) ((x, v) ∷ []))
    go none h = omega (arith, ap length (append-nil (bound_to x ss)))

values_few : (outcome : ℕ) (ss : List (code.Option Scalar)) → length (ran_values outcome ss) ≤ variables
unfolding ran_values
values_few outcome ss = go (eqb outcome 0)
  where
    go : (b : Bool) → length (cond b (bound_to variables ss) []) ≤ variables
    go true = bound_few variables ss
    go false = omega arith

pub ran_short : (p h q outcome branch : ℕ) (ss : List (code.Option Scalar)) (buffer out : List ℕ) (n : ℕ) → Wrote (reply p h q outcome branch (ran_values outcome ss)) buffer out n → n ≤ most_reply
ran_short p h q outcome branch ss buffer out n w =
    omega (arith, w.number, reply_length (reply p h q outcome branch (ran_values outcome ss)), values_few outcome ss)

-- ---- what came of the attempt

reply_is : (p h q outcome branch : ℕ) (vs : List (ℕ × Value)) (st : Statement) (e : Executed) → h ≡ st.host → q ≡ st.process → outcome ≡ outcome_of e.result → branch ≡ e.branch → vs ≡ values_of e.result
    → reply p h q outcome branch vs ≡ ran_reply p st e
unfolding ran_reply
reply_is p h q outcome branch vs st e eh eq eo eb ev = λ i. record { position = p; host = eh i; process = eq i; outcome = eo i; branch = eb i; values = ev i }

-- a branch was chosen, so one runs
pub picked_runs : (s : Run) (body : List ℕ) (c : Choice) → Picked s body c → attempt s.tuples (statement_of body) ≡ none → ⊥
unfolding attempt
picked_runs s body c k e = none-ne-some (execute s.tuples (record { index = k.index; item = k.item })) (sym e ∙ ap (map (execute s.tuples)) k.is)

-- no guard holds
pub run_none : (s : Run) (p : ℕ) (st : Statement) (state out : List ℕ) → Stored state s → chosen s.tuples st ≡ none → Turned (executed s p st) out state out 0
unfolding executed attempt
run_none s p st state out h e = rw e (turned_still s state out h)

module _ (s : Run) (p : ℕ) (st : Statement) (state : List ℕ) (branch outcome : ℕ) (vs : List (ℕ × Value)) where
  -- it ran, and is answered
  pub run_some : (h q : ℕ) (buffer out : List ℕ) (n : ℕ) → Left s (attempt s.tuples st) state branch outcome vs → (attempt s.tuples st ≡ none → ⊥) → h ≡ st.host → q ≡ st.process
      → Wrote (reply p h q outcome branch vs) buffer out n → Turned (executed s p st) buffer state out n
  unfolding executed
  run_some h q buffer out n l z eh eq w = go (attempt s.tuples st) refl l
    where
      go : (o : Option Executed) → attempt s.tuples st ≡ o → Left s o state branch outcome vs
          → Turned (maybe o (still s) (λ e. record { run = with_tuples s (tuples_after s.tuples e.result); replies = ran_reply p st e ∷ [] })) buffer state out n
      go none d l = absurd (z d)
      go (some e) d l =
          let a = l.answers e refl in
          let r = reply_is p h q outcome branch vs st e eh eq a.0 l.runs a.1 in
          turned_one (with_tuples s (tuples_after s.tuples e.result)) (ran_reply p st e) state buffer out n l.stored (subst (λ (y : Reply). Wrote y buffer out n) r w)
