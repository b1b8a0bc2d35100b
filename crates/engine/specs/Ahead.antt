-- A branch of a body, operation by operation: what stands from a position on, and what is left to perform. Assumes nothing.
use Rattle.std.specs.Prelude.{◌≡◌, T, Some}
use Rattle.std.proofs.Math.Path.{refl, sym, ap, subst}
use Rattle.std.proofs.Common.{◌∙◌}
use Prim.Native.Nat.{ℕ, zero, suc, ◌-◌}
use native.Mathlib.Omega.{arith}
use mathlib.Core.List.{List, [], ◌∷◌}
use Rattle.basis.specs.Logic.{and_l, and_r}
use Rattle.basis.specs.ListLaws.{Each}
use Rattle.model.specs.Statement as Model
use Rattle.model.specs.Reading.{operation}
use Rattle.model.specs.Legal.{Kinds, bind_kinds, fields_of, legal_operation, legal_operations}
use Rattle.model.specs.Matching.{Tuple, Bindings}
use Rattle.model.specs.Execution.{Result, done, failed, perform, and_then, perform_all}
use Rattle.model.proofs.BoundKinds.{Agree}
use Rattle.statements.specs.declared.Operation.{Operation}
use Rattle.statements.specs.Flat.{operation_is, Reads, operation_at}
use Rattle.tuples.specs.Section as Section
use Rattle.tuples.specs.Section.{tuples_of}
use Rattle.bindings.specs.declared.Vars.{Vars}
use Rattle.bindings.specs.Variables.{bindings_of}
use Rattle.walk.specs.Standing.{no_items}
use Rattle.walk.specs.Walk.{Operations, operations_at, Next, read_next}
use Rattle.operations.specs.Performing.{result_is, Leaves, leaves_done, leaves_failed}
use Rattle.operations.specs.Codes.{CanPerform}
use Rattle.engine.specs.Legality.{can_perform, AgreeAfter, perform_agrees}

-- so many operations stand from a position on, and are legal for these variables
pub record Ahead (b : List ℕ) (at count : ℕ) (bs : Bindings) : Type 0 where
  pub stands : Operations b at count
  pub kinds : Kinds
  pub legal : T (legal_operations kinds (operations_at b at count))
  pub agree : Agree kinds bs

-- ---- an operation, then others

-- an operation is due, legal for these variables, and after it those that stand from a position on
pub record Due (b : List ℕ) (o : Model.Operation) (at count : ℕ) (bs : Bindings) : Type 0 where
  pub stands : Operations b at count
  pub kinds : Kinds
  pub legal : T (legal_operation kinds o)
  pub later : T (legal_operations (bind_kinds kinds (fields_of o)) (operations_at b at count))
  pub agree : Agree kinds bs

pub due : (b : List ℕ) (o : Model.Operation) (at count : ℕ) (bs : Bindings) (ks : Kinds) → Operations b at count → T (legal_operations ks (o ∷ operations_at b at count)) → Agree ks bs → Due b o at count bs
unfolding legal_operations
due b o at count bs ks h t a = record {
  stands = h;
  kinds = ks;
  legal = and_l (legal_operation ks o) (legal_operations (bind_kinds ks (fields_of o)) (operations_at b at count)) t;
  later = and_r (legal_operation ks o) (legal_operations (bind_kinds ks (fields_of o)) (operations_at b at count)) t;
  agree = a;
}

module _ (b : List ℕ) (o : Model.Operation) (at count : ℕ) (bs : Bindings) (h : Due b o at count bs) where
  pub can_due : CanPerform bs o
  can_due = can_perform h.kinds bs o h.legal h.agree

  module _ (ts : List Tuple) (n : ℕ) (w : Vars) (q : List ℕ) (outcome : ℕ) (x : Leaves (perform o bs ts) outcome n w q) where
    -- it is done: the others stand ahead, and all is what they do from here on
    pub due_done : outcome ≡ 0 → Each Section.Legal ts → (Ahead b at count (bindings_of w)) × (perform_all (o ∷ operations_at b at count) bs ts ≡ perform_all (operations_at b at count) (bindings_of w) (tuples_of q n))
    unfolding perform_all and_then result_is
    due_done z l =
        let d : perform o bs ts ≡ done (bindings_of w) (tuples_of q n) = sym x.is ∙ ap (λ (k : ℕ). result_is k (bindings_of w) (tuples_of q n)) z in
        let ks : Kinds = bind_kinds h.kinds (fields_of o) in
        let a : Agree ks (bindings_of w) = subst (AgreeAfter ks) d (perform_agrees o h.kinds bs ts h.legal l h.agree) in
        (record { stands = h.stands; kinds = ks; legal = h.later; agree = a }, rw d)

    -- it failed, and so have all
    pub due_failed : (outcome ≡ 0 → ⊥) → Leaves (perform_all (o ∷ operations_at b at count) bs ts) outcome n w q
    unfolding perform_all and_then result_is
    due_failed z = go outcome refl
      where
        go : (k : ℕ) → outcome ≡ k → Leaves (perform_all (o ∷ operations_at b at count) bs ts) outcome n w q
        go zero d = absurd (z d)
        go (suc k) d =
            let f : perform o bs ts ≡ failed (suc k) = sym x.is ∙ ap (λ (k : ℕ). result_is k (bindings_of w) (tuples_of q n)) d in
            rw (f, d) (leaves_failed k n w q x.section)

-- ---- as the code goes through them: the section, what stands ahead, and that all is what this does from here on
pub record Running (b : List ℕ) (x : Result) (p : List ℕ) (n : ℕ) (w : Vars) (at count : ℕ) : Type 0 where
  pub section : Section.Section p n
  pub ahead : Ahead b at count (bindings_of w)
  pub same : x ≡ perform_all (operations_at b at count) (bindings_of w) (tuples_of p n)

pub running_start : (b p : List ℕ) (n : ℕ) (w : Vars) (at count : ℕ) → Section.Section p n → Ahead b at count (bindings_of w) → Running b (perform_all (operations_at b at count) (bindings_of w) (tuples_of p n)) p n w at (count - 0)
running_start b p n w at count s a = let e : count - 0 ≡ count = omega arith in rw e (record { section = s; ahead = a; same = refl })

module _ (b : List ℕ) (x : Result) (p : List ℕ) (n : ℕ) (w : Vars) (at count : ℕ) (h : Running b x p n w at count) where
  -- none is left
  pub running_end : count ≡ 0 → Leaves x 0 n w p
  unfolding perform_all
  running_end z =
      let none : operations_at b at count ≡ [] = ap (operations_at b at) z ∙ no_items operation b at in
      subst (λ (y : Result). Leaves y 0 n w p) (sym (h.same ∙ ap (λ (os : List Model.Operation). perform_all os (bindings_of w) (tuples_of p n)) none)) (leaves_done (bindings_of w) (tuples_of p n) n w p refl h.section)

  module _ (m : ℕ) (s : count ≡ suc m) where
    pub running_stands : Operations b at (suc m)
    running_stands = subst (Operations b at) s h.ahead.stands

    module _ (r : Operation × ℕ) (e : Reads (Some r) (operation_at b at)) where
      abbrev o : Model.Operation
      o = operation_is r.0

      next : Next b at m o r.1
      next = read_next b at m running_stands r e

      items : operations_at b at count ≡ o ∷ operations_at b r.1 m
      items = ap (operations_at b at) s ∙ next.items

      is_due : Due b o r.1 m (bindings_of w)
      is_due = due b o r.1 m (bindings_of w) h.ahead.kinds next.later (subst (λ (os : List Model.Operation). T (legal_operations h.ahead.kinds os)) items h.ahead.legal) h.ahead.agree

      same_as : x ≡ perform_all (o ∷ operations_at b r.1 m) (bindings_of w) (tuples_of p n)
      same_as = h.same ∙ ap (λ (os : List Model.Operation). perform_all os (bindings_of w) (tuples_of p n)) items

      pub running_can : CanPerform (bindings_of w) (operation_is r.0)
      running_can = can_due b o r.1 m (bindings_of w) is_due

      module _ (outcome n' : ℕ) (w' : Vars) (q : List ℕ) (d : Leaves (perform (operation_is r.0) (bindings_of w) (tuples_of p n)) outcome n' w' q) where
        pub running_fails : (outcome ≡ 0 → ⊥) → Leaves x outcome n' w' q
        running_fails z = subst (λ (y : Result). Leaves y outcome n' w' q) (sym same_as) (due_failed b o r.1 m (bindings_of w) is_due (tuples_of p n) n' w' q outcome d z)

        pub running_turn : outcome ≡ 0 → Running b x q n' w' r.1 m
        running_turn z =
            let y = due_done b o r.1 m (bindings_of w) is_due (tuples_of p n) n' w' q outcome d z h.section.lawful in
            record { section = d.section; ahead = y.0; same = same_as ∙ y.1 }
