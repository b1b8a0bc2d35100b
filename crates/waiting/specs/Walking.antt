-- The walk of a waiting body, branch by branch: spaces, in or rd, and no guard that holds. Assumes nothing.
use Rattle.std.specs.Prelude.{None, Some}
use Rattle.std.specs.Prelude.{◌≡◌, Bool, true, false, not, ◌&&◌, ◌||◌, List, [], get_or, eqb}
use Rattle.std.proofs.Math.Path.{sym, ap, subst}
use Rattle.std.proofs.Common.{◌∙◌}
use Prim.Native.Nat.{ℕ, suc, ◌-◌}
use native.Mathlib.Omega.{arith}
use Rattle.std.proofs.Math.Bool.{and-true, and-false, or-false, or_assoc}
use Rattle.std.proofs.Math.Dec.{T}
use Rattle.basis.specs.Logic.{and_l, and_r}
use Rattle.basis.specs.Lists.{any}
use Rattle.basis.specs.Sizes.{branch_count_at, branches_at}
use Rattle.model.specs.Statement as model
use Rattle.model.specs.Statement.{Branch}
use Rattle.model.specs.Reading.{branch}
use Rattle.model.specs.Legal.{is_guard, legal_branch, legal_body}
use Rattle.model.specs.Matching.{Tuple}
use Rattle.model.specs.Execution.{holds, guard_holds, ready, is_blocking, can_wait}
use Rattle.model.specs.Run.{Space}
use Rattle.layout.specs.Stored.{statement_of}
use Rattle.statements.specs.Codes.{blocking_of}
use Rattle.statements.specs.Flat.{operation_of, operation_is, Reads, operation_at}
use Rattle.statements.specs.Front.{bare, bare_of_lem}
use Rattle.statements.specs.declared.Bare.{Bare}
use Rattle.statements.specs.declared.Operation.{Operation}
use Rattle.walk.specs.Standing.{no_items}
use Rattle.walk.specs.Walk.{Branches, branches_from, ReadBranch, PassedBranch, read_branch, body_is, body_branches}
use Rattle.names.specs.Asks.{asks}
use Rattle.names.specs.Named.{names_some, PastBranch, branch_hit, branch_miss, branch_stop, names_branches}
use Rattle.names.specs.declared.SpaceTest.TheVariants.{Shut}
use Rattle.waiting.specs.Waits.{waits}

-- ---- the walk

-- an operation without its fields
abbrev pub bare_of : Operation → Bare
bare_of o = record { code = o.code; from = o.from; to = o.to }

module _ (ss : List Space) (ts : List Tuple) (p : ℕ) where
  -- of some branches, where one before blocks or none does
  abbrev among : Bool → List Branch → Bool
  among t l = not (any (names_some (asks ss (Shut p))) l) && ((t || any (λ br. is_blocking br.guard) l) && not (any (guard_holds ts) l))

  -- so many branches are left, from a position on, and they decide
  pub record Walking (x : Bool) (b : List ℕ) (at left : ℕ) (blocks : Bool) : Type 0 where
    pub ahead : Branches b at left
    pub same : x ≡ among blocks (branches_from b at left)

  pub walking_start : (b : List ℕ) → T (legal_body b) → Walking (waits ss ts p (statement_of b)) b branches_at (get_or b branch_count_at 0 - 0) false
  unfolding waits can_wait ready
  walking_start b t =
      let y = body_branches b (statement_of b) (body_is b t) in
      let z : get_or b branch_count_at 0 - 0 ≡ get_or b branch_count_at 0 = omega arith in
      rw z (record { ahead = y.stands; same = rw (names_branches (asks ss (Shut p)) b t, ← y.items) })

  module _ (x : Bool) (b : List ℕ) (at left : ℕ) (blocks : Bool) (h : Walking x b at left blocks) where
    pub walking_end : left ≡ 0 → blocks ≡ x
    unfolding any
    walking_end z = sym (h.same ∙ rw (z, no_items branch b at, or-false blocks, and-true blocks))

    module _ (m : ℕ) (s : left ≡ suc m) where
      pub walking_ahead : Branches b at (suc m)
      walking_ahead = subst (Branches b at) s h.ahead

      -- the guard of the next one was read
      module _ (r : Operation × ℕ) (e : Reads (Some r) (operation_at b at)) where
        pub reading : ReadBranch b at m r
        reading = read_branch b at m walking_ahead r e

        pub walking_guard : T (is_guard (operation_is r.0))
        unfolding legal_branch
        walking_guard = let t = reading.0.legal in subst (λ (o : model.Operation). T (is_guard o)) (sym reading.1) (search (and_l, and_r, t) depth 6)

        bare_guard : operation_of r.0.code r.0.from r.0.to [] ≡ bare reading.0.first.guard
        unfolding operation_is
        bare_guard = sym (bare_of_lem r.0.code r.0.from r.0.to _) ∙ ap bare reading.1

        abbrev passed : PassedBranch b at m (bare_of r.0, r.1)
        passed = (reading.0, bare_guard)

        abbrev shut : Branch → Bool
        shut = names_some (asks ss (Shut p))

        whole : x ≡ (not (shut reading.0.first || any shut (branches_from b reading.0.stop m))
            && ((blocks || (is_blocking (operation_is r.0) || any (λ br. is_blocking br.guard) (branches_from b reading.0.stop m))) && not (holds ts (operation_is r.0) || any (guard_holds ts) (branches_from b reading.0.stop m))))
        unfolding any guard_holds
        whole = h.same ∙ ap (λ (k : ℕ). among blocks (branches_from b at k)) s ∙ rw (reading.0.items, reading.1)

        -- and its spaces were looked at
        pub walking_shut : PastBranch (asks ss (Shut p)) b (bare_of r.0) r.1 None → false ≡ x
        walking_shut q = sym (whole ∙ rw (branch_hit (asks ss (Shut p)) b at m (bare_of r.0, r.1) passed q))

        module _ (next : ℕ) (q : PastBranch (asks ss (Shut p)) b (bare_of r.0) r.1 (Some next)) (t : Bool) (et : t ≡ holds ts (operation_is r.0)) where
          pub walking_holds : t ≡ true → false ≡ x
          walking_holds z = sym (whole ∙ rw (sym et ∙ z, and-false, and-false))

          blocking_is : is_blocking (operation_is r.0) ≡ (eqb r.0.code 1 || eqb r.0.code 3)
          unfolding operation_is
          blocking_is = blocking_of r.0.code r.0.from r.0.to _

          pub walking_turn : t ≡ false → (u : Bool) → u ≡ (blocks || (eqb r.0.code 1 || eqb r.0.code 3)) → Walking x b next m u
          walking_turn z u eu =
              rw (branch_stop (asks ss (Shut p)) b at m (bare_of r.0, r.1) passed next q, eu, ← blocking_is)
              (record {
                ahead = reading.0.later;
                same = whole
                    ∙ rw (branch_miss (asks ss (Shut p)) b at m (bare_of r.0, r.1) passed next q, sym et ∙ z, ← or_assoc blocks (is_blocking (operation_is r.0)) (any (λ br. is_blocking br.guard) (branches_from b reading.0.stop m)));
              })
