-- Rule 5: a branch as a whole, guard and body, and a statement with it. Assumes nothing.
use Rattle.std.specs.Prelude.{Some}
use Rattle.std.specs.Prelude.{◌≡◌, refl, List, [], ◌∷◌, length, drop, get_or, T}
use Rattle.std.proofs.Common.{sym, ◌∙◌, add-one, arith}
use Rattle.std.proofs.Math.Path.{ap, subst}
use Prim.Native.Nat.{ℕ, zero, suc, ◌+◌, ◌*◌, ◌≤◌, ◌<◌}
use Rattle.std.proofs.Math.Option.{Option, none, some, map, some-injective}
use Rattle.basis.specs.Choice.{maybe, is_some}
use Rattle.basis.specs.Logic.{and_r, both}
use Rattle.basis.specs.Lists.{all, Found}
use Rattle.basis.specs.Sizes.{count_width, most_fields, most_body, tuple_size}
use Rattle.model.specs.Statement as Model
use Rattle.model.specs.Statement.{Branch, operations, Statement}
use Rattle.model.specs.Reading.{◌>>=◌, give, several, branch}
use Rattle.model.specs.Legal.{no_kinds, legal_operations, legal_branch}
use Rattle.model.specs.Matching.{Tuple, Bindings, unbound}
use Rattle.model.specs.Execution.{Result, perform_all, chosen, Executed, execute, attempt, tuples_after}
use Rattle.model.proofs.BoundKinds.{agree_unbound}
use Rattle.statements.specs.declared.Operation.{Operation}
use Rattle.statements.specs.Flat.{operation_is, Reads, operation_at}
use Rattle.words.specs.Over.{over}
use Rattle.sections.specs.FirstRows.{over_section}
use Rattle.tuples.specs.Section.{tuple_shape, tuples_of, Holds}
use Rattle.bindings.specs.declared.Vars.{Vars}
use Rattle.bindings.specs.Variables.{bindings_of}
use Rattle.walk.specs.Standing.{stand_as}
use Rattle.walk.specs.Walk.{Branches, operations_at, NextBranch, branch_there, read_branch}
use Rattle.walk.specs.Choosing.{Chosen, Finds, Picks}
use Rattle.walk.specs.declared.Choice.{Choice}
use Rattle.operations.specs.Performing.{result_is, Leaves}
use Rattle.engine.specs.Ahead.{Due, due}

-- ---- a branch

-- the body of the branch of which this guard was read, and the whole branch
abbrev pub body_of : List ℕ → Operation × ℕ → List Model.Operation
body_of b r = operations_at b (r.1 + count_width) (get_or b r.1 0)

abbrev pub branch_of : List ℕ → Operation × ℕ → List Model.Operation
branch_of b r = operation_is r.0 ∷ body_of b r

-- it is legal, with no variable bound before its guard
pub record GuardRead (b : List ℕ) (r : Operation × ℕ) : Type 0 where
  pub few : r.0.count ≤ most_fields
  pub long : r.1 < length b
  pub short : length b ≤ most_body
  pub due : Due b (operation_is r.0) (r.1 + count_width) (get_or b r.1 0) unbound

branch_legal : (br : Branch) → T (legal_branch br) → T (legal_operations no_kinds (operations br))
unfolding legal_branch
branch_legal br t = search (and_r, t) depth 4

-- the branch stands there alone
alone : (b : List ℕ) (at : ℕ) (br : Branch) → Chosen b at br → Branches b at 1
unfolding several ◌>>=◌ give all
alone b at br c =
    let reads : several branch 1 (drop at b) ≡ some (br ∷ [], c.rest) = rw c.reads in
    (stand_as branch legal_branch b at 1 (br ∷ []) c.rest reads (both (legal_branch br) _ c.legal tt)).stands

-- the guard of a branch that stands at a position
guard_read : (b : List ℕ) (at : ℕ) (br : Branch) → Chosen b at br → length b ≤ most_body → (r : Operation × ℕ) → Reads (Some r) (operation_at b at) → GuardRead b r × (operations br ≡ branch_of b r)
unfolding operations
guard_read b at br c short r e =
    let h : Branches b at 1 = alone b at br c in
    let g = read_branch b at 0 h r e in
    let n : NextBranch b at 0 r.1 = g.0 in
    let same : n.first ≡ br = ap (λ (x : Branch × List ℕ). x.0) (some-injective (n.first, drop n.stop b) (br, c.rest) (sym n.reads ∙ c.reads)) in
    let is : operations n.first ≡ branch_of b r = λ i. sym g.1 i ∷ sym n.is_body i in
    let legal : T (legal_operations no_kinds (branch_of b r)) = subst (λ (os : List Model.Operation). T (legal_operations no_kinds os)) is (branch_legal n.first n.legal) in (
      record { few = e.parts.count; long = n.long; short = short; due = due b (operation_is r.0) (r.1 + count_width) (get_or b r.1 0) unbound no_kinds n.body legal agree_unbound },
      ap operations (sym same) ∙ is,
    )

-- ---- whole or not at all

-- "If an operation fails, the whole statement, guard included, changes nothing": the answer is this result, and the section holds the tuples after it
pub record Whole (x : Result) (ts : List Tuple) (outcome n : ℕ) (v : Vars) (p : List ℕ) : Type 0 where
  pub is : result_is outcome (bindings_of v) (tuples_of p n) ≡ x
  pub holds : Holds p n (tuples_after ts x)

module _ (x : Result) (ts : List Tuple) (outcome m : ℕ) (w : Vars) (q : List ℕ) (h : Leaves x outcome m w q) where
  -- the branch is done: its tuples are left
  pub whole_done : outcome ≡ 0 → Whole x ts outcome m w q
  unfolding result_is tuples_after
  whole_done z =
      let same : tuples_of q m ≡ tuples_after ts x = ap (λ (k : ℕ). tuples_after ts (result_is k (bindings_of w) (tuples_of q m))) (sym z) ∙ ap (tuples_after ts) h.is in
      record { is = h.is; holds = subst (Holds q m) same h.section }

  -- the branch failed: the tuples are those before it
  failed_whole : (outcome ≡ 0 → ⊥) → (p : List ℕ) (n : ℕ) → Holds p n ts → Whole x ts outcome n w p
  failed_whole z p n s = go outcome z h.is
    where
      go : (k : ℕ) → (k ≡ 0 → ⊥) → result_is k (bindings_of w) (tuples_of q m) ≡ x → Whole x ts k n w p
      go zero z e = absurd (z refl)
      go (suc k) z e = unfold result_is tuples_after in record { is = e; holds = subst (λ (y : Result). Holds p n (tuples_after ts y)) e s }

  -- the saved rows were put back, as many as there were before it or are after it
  pub whole_failed : (outcome ≡ 0 → ⊥) → (p saved p' : List ℕ) (n j : ℕ) → Holds p n ts → saved ≡ p → n ≤ j → m ≤ j → p' ≡ over q 0 saved (j * tuple_size) → Whole x ts outcome n w p'
  whole_failed z p saved p' n j s e a b put =
      let back : p' ≡ p = put ∙ ap (λ (l : List ℕ). over q 0 l (j * tuple_size)) e ∙ over_section tuple_shape q p m n j (tuples_of q m) ts h.section s b a in
      failed_whole z p' n (subst (λ (l : List ℕ). Holds l n ts) (sym back) s)

-- ---- a statement

-- the branch that ran and its result, as the code tells them; number 0: none
unfoldable pub ran_is : (number outcome : ℕ) → Bindings → List Tuple → Option Executed
ran_is zero outcome bs ts = none
ran_is (suc k) outcome bs ts = some (record { branch = suc k; result = result_is outcome bs ts })

-- the answer is this, and the section holds the tuples after it
pub record Attempted (o : Option Executed) (ts : List Tuple) (number outcome n : ℕ) (v : Vars) (p : List ℕ) : Type 0 where
  pub is : ran_is number outcome (bindings_of v) (tuples_of p n) ≡ o
  pub holds : Holds p n (maybe o ts (λ x. tuples_after ts x.result))

-- the branch that was chosen, of which the guard was read
pub record ChosenRead (b : List ℕ) (ts : List Tuple) (o : Option (Found Branch)) (number tuple : ℕ) (r : Operation × ℕ) : Type 0 where
  pub guard : GuardRead b r
  pub finds : Finds ts (operation_is r.0) tuple
  pub is : map (execute ts) o ≡ some (record { branch = number; result = perform_all (branch_of b r) unbound ts })
  pub some : number ≡ 0 → ⊥

module _ (b : List ℕ) (ts : List Tuple) (o : Option (Found Branch)) (c : Choice) (h : Picks b ts o c) where
  pub chosen_stands : T (is_some (operation_at b c.at))
  chosen_stands = branch_there b c.at 0 (alone b c.at h.item h.stands)

  pub chosen_read : length b ≤ most_body → (r : Operation × ℕ) → Reads (Some r) (operation_at b c.at) → ChosenRead b ts o c.branch c.tuple r
  unfolding execute operations
  chosen_read short r q =
      let g = guard_read b c.at h.item h.stands short r q in
      let guard : h.item.guard ≡ operation_is r.0 = let e = g.1 in cc in
      record {
        guard = g.0;
        finds = subst (λ (o : Model.Operation). Finds ts o c.tuple) guard h.guard;
        is = ap (map (execute ts)) h.is ∙ (λ k. some (record { branch = (sym (add-one h.index) ∙ sym h.number) k; result = perform_all (g.1 k) unbound ts }));
        some = λ z. omega (arith, h.number);
      }

-- the branch ran, whole or not at all
pub attempted : (b : List ℕ) (ts : List Tuple) (st : Statement) (number tuple : ℕ) (r : Operation × ℕ) → ChosenRead b ts (chosen ts st) number tuple r
    → (outcome n : ℕ) (v : Vars) (p : List ℕ) → Whole (perform_all (branch_of b r) unbound ts) ts outcome n v p → Attempted (attempt ts st) ts number outcome n v p
unfolding attempt
attempted b ts st number tuple r c outcome n v p h = rw c.is (go number c.some)
  where
    go : (k : ℕ) → (k ≡ 0 → ⊥) → Attempted (some (record { branch = k; result = perform_all (branch_of b r) unbound ts })) ts k outcome n v p
    go zero z = absurd (z refl)
    go (suc k) z = unfold ran_is in record { is = ap (λ (y : Result). some (record { branch = suc k; result = y })) h.is; holds = h.holds }
