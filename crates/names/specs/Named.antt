-- Which operations and branches of a body name a space that passes a test, found from position to position. Assumes nothing.
use Rattle.std.specs.Prelude as code
use Rattle.std.specs.Prelude.{None, Some}
use Rattle.std.specs.Prelude.{◌≡◌, Bool, true, false, not, ◌&&◌, ◌||◌, length, drop, get_or, T, leb, eqb}
use Rattle.std.proofs.Math.Path.{refl, sym, ap}
use Rattle.std.proofs.Common.{subst, ◌∙◌}
use Prim.Native.Nat.{ℕ, zero, suc, ◌+◌, ◌-◌, ◌≤◌, ◌<◌}
use native.Mathlib.Omega.{arith}
use Rattle.std.proofs.Math.Bool.{or-false}
use mathlib.Core.List.{List, [], flat_map}
use borrow.Author.Tests.{ne_eqb, le-leb, lt-leb}
use Rattle.basis.specs.Lists.{any}
use Rattle.basis.specs.ListLaws.{any_flat_map}
use Rattle.basis.specs.Sizes.{count_width, branch_count_at, branches_at}
use Rattle.model.specs.Reading.{operation, branch}
use Rattle.model.specs.Statement.{Operation, Branch, operations, spaces_of, spaces_named}
use Rattle.model.specs.Legal.{legal_body}
use Rattle.layout.specs.Stored.{statement_of}
use Rattle.statements.specs.Flat.{operation_of, operation_at}
use Rattle.statements.specs.Front.{bare, bare_at, bare_is, spaces_bare}
use Rattle.statements.specs.declared.Bare.{Bare}
use Rattle.walk.specs.Standing.{none_left, no_items}
use Rattle.walk.specs.Walk.{Operations, operations_at, after_operations, Branches, branches_from, PassedNext, pass_next, PassedBranch, pass_branch, stop_is, body_is, body_branches}

-- ---- an operation, by its code

-- true names no space, move and copy name two, the others one
module _ (f : ℕ → Bool) (from to : ℕ) where
  abbrev Asked : ℕ → Type 0
  Asked code = any f (spaces_of (operation_of code from to [])) ≡ (not (eqb code 0) && (f from || (leb 6 code && f to)))

  asked : (code : ℕ) → Asked code
  unfolding operation_of spaces_of any
  asked zero = refl
  asked (suc zero) = refl
  asked (suc (suc zero)) = refl
  asked (suc (suc (suc zero))) = refl
  asked (suc (suc (suc (suc zero)))) = refl
  asked (suc (suc (suc (suc (suc zero))))) = refl
  asked (suc (suc (suc (suc (suc (suc zero)))))) = ap (λ (t : Bool). f from || t) (or-false (f to))
  asked (suc (suc (suc (suc (suc (suc (suc n))))))) =
      let code : ℕ = suc (suc (suc (suc (suc (suc (suc n)))))) in
      rw (ne_eqb code 0 (λ z. omega arith), le-leb 6 code (omega arith)) (ap (λ (t : Bool). f from || t) (or-false (f to)))

  module _ (code : ℕ) where
    pub names_none : code ≡ 0 → false ≡ any f (spaces_of (operation_of code from to []))
    names_none e = sym (asked code ∙ rw e)

    module _ (n : code ≡ 0 → ⊥) where
      pub names_first : f from ≡ true → true ≡ any f (spaces_of (operation_of code from to []))
      names_first e = sym (asked code ∙ rw (ne_eqb code 0 n, e))

      pub names_one_lem : f from ≡ false → code < 6 → false ≡ any f (spaces_of (operation_of code from to []))
      names_one_lem e l = sym (asked code ∙ rw (ne_eqb code 0 n, e, lt-leb 6 code l))

      pub names_two : f from ≡ false → 6 ≤ code → f to ≡ any f (spaces_of (operation_of code from to []))
      names_two e l = sym (asked code ∙ rw (ne_eqb code 0 n, e, le-leb 6 code l))

-- ---- operations passed over

-- an operation names a space that f finds; one of a branch does; one without its fields does
abbrev pub names_one : (ℕ → Bool) → Operation → Bool
names_one f o = any f (spaces_of o)

abbrev pub names_some : (ℕ → Bool) → Branch → Bool
names_some f br = any (names_one f) (operations br)

abbrev pub names_bare : (ℕ → Bool) → Bare → Bool
names_bare f r = any f (spaces_of (operation_of r.code r.from r.to []))

same_names : (f : ℕ → Bool) (r : Bare) (o : Operation) → operation_of r.code r.from r.to [] ≡ bare o → names_bare f r ≡ names_one f o
same_names f r o e = ap (any f) (ap spaces_of e ∙ spaces_bare o)

-- a position where some bytes stand
pub record Reached (b rest : List ℕ) (r : ℕ) : Type 0 where
  pub goes : drop r b ≡ rest
  pub within : r ≤ length b

-- what stands before some bytes was passed over: nothing where it is a hit, else the position of those bytes
abbrev pub Past : List ℕ → Bool → List ℕ → code.Option ℕ → Type 0
Past b hit rest None = hit ≡ true
Past b hit rest (Some r) = (hit ≡ false) × Reached b rest r

-- so many operations; a guard that ends at a position, and the operations after it
abbrev pub PastOperations : (ℕ → Bool) → List ℕ → (at count : ℕ) → code.Option ℕ → Type 0
PastOperations f b at count r = Past b (any (names_one f) (operations_at b at count)) (after_operations b at count) r

abbrev pub PastBranch : (ℕ → Bool) → List ℕ → Bare → (end : ℕ) → code.Option ℕ → Type 0
PastBranch f b g end r = Past b (names_bare f g || any (names_one f) (operations_at b (end + count_width) (get_or b end 0))) (after_operations b (end + count_width) (get_or b end 0)) r

-- so many operations are left before those bytes, from position end on, and they decide
pub record Passing (f : ℕ → Bool) (b : List ℕ) (hit : Bool) (rest : List ℕ) (end left : ℕ) : Type 0 where
  pub ahead : Operations b end left
  pub same : hit ≡ any (names_one f) (operations_at b end left)
  pub before : rest ≡ after_operations b end left
  pub within : end ≤ length b

pub passing_start : (f : ℕ → Bool) (b : List ℕ) (at count : ℕ) → Operations b at count → at ≤ length b → Passing f b (any (names_one f) (operations_at b at count)) (after_operations b at count) at (count - 0)
passing_start f b at count h l = let e : count - 0 ≡ count = omega arith in rw e (record { ahead = h; same = refl; before = refl; within = l })

module _ (f : ℕ → Bool) (b : List ℕ) (hit : Bool) (rest : List ℕ) (end left : ℕ) (h : Passing f b hit rest end left) where
  pub passing_end : left ≡ 0 → Past b hit rest (Some end)
  unfolding any
  passing_end z = (h.same ∙ rw (z, no_items operation b end), record { goes = sym (h.before ∙ rw (z, none_left operation b end)); within = h.within })

  module _ (m : ℕ) (s : left ≡ suc m) where
    pub passing_ahead : Operations b end (suc m)
    passing_ahead = subst (Operations b end) s h.ahead

    module _ (r : Bare × ℕ) (e : bare_is (Some r) ≡ bare_at (operation_at b end)) where
      abbrev next : PassedNext b end m r
      next = pass_next b end m passing_ahead r e

      whole : hit ≡ (names_bare f r.0 || any (names_one f) (operations_at b r.1 m))
      unfolding any
      whole = h.same ∙ ap (λ (k : ℕ). any (names_one f) (operations_at b end k)) s ∙ rw (next.next.items, same_names f r.0 next.item next.is)

      module _ (t : Bool) (q : t ≡ names_bare f r.0) where
        pub passing_hit : t ≡ true → Past b hit rest None
        passing_hit z = whole ∙ rw (sym q ∙ z)

        pub passing_turn : t ≡ false → Passing f b hit rest r.1 m
        passing_turn z = record { ahead = next.next.later; same = whole ∙ rw (sym q ∙ z); before = h.before ∙ ap (after_operations b end) s ∙ next.next.left; within = next.next.within }

-- ---- a branch

module _ (f : ℕ → Bool) (b : List ℕ) (g : Bare) (end : ℕ) (t : Bool) (e : t ≡ names_bare f g) where
  pub guard_hit : t ≡ true → PastBranch f b g end None
  guard_hit z = rw (sym e ∙ z)

  pub guard_on : t ≡ false → (n : ℕ) (r : code.Option ℕ) → n ≡ get_or b end 0 → PastOperations f b (end + count_width) n r → PastBranch f b g end r
  guard_on z n r q p = rw (← q, sym e ∙ z) p

-- of the branch that stands there
module _ (f : ℕ → Bool) (b : List ℕ) (at others : ℕ) (g : Bare × ℕ) (h : PassedBranch b at others g) where
  names_first_lem : (names_bare f g.0 || any (names_one f) (operations_at b (g.1 + count_width) (get_or b g.1 0))) ≡ names_some f h.0.first
  unfolding operations any
  names_first_lem = rw (same_names f g.0 h.0.first.guard h.1, h.0.is_body)

  pub branch_hit : PastBranch f b g.0 g.1 None → names_some f h.0.first ≡ true
  branch_hit p = sym names_first_lem ∙ p

  module _ (r : ℕ) (p : PastBranch f b g.0 g.1 (Some r)) where
    pub branch_miss : names_some f h.0.first ≡ false
    branch_miss = sym names_first_lem ∙ p.0

    pub branch_stop : r ≡ h.0.stop
    branch_stop = stop_is b at others g.1 r h.0 p.1.within p.1.goes

-- ---- a body

pub names_branches : (f : ℕ → Bool) (b : List ℕ) (t : T (legal_body b)) → any f (spaces_named (statement_of b)) ≡ any (names_some f) (branches_from b branches_at (get_or b branch_count_at 0))
unfolding spaces_named
names_branches f b t =
    any_flat_map f (λ br. flat_map spaces_of (operations br)) (statement_of b).branches ∙ (λ i. any (λ br. any_flat_map f spaces_of (operations br) i) (statement_of b).branches)
    ∙ ap (any (names_some f)) (sym (body_branches b (statement_of b) (body_is b t)).items)

-- so many branches are left, from a position on, and x is whether one of them names such a space
pub record Naming (f : ℕ → Bool) (x : Bool) (b : List ℕ) (at left : ℕ) : Type 0 where
  pub ahead : Branches b at left
  pub same : x ≡ any (names_some f) (branches_from b at left)

pub naming_start : (f : ℕ → Bool) (b : List ℕ) → T (legal_body b) → Naming f (any f (spaces_named (statement_of b))) b branches_at (get_or b branch_count_at 0 - 0)
naming_start f b t =
    let e : get_or b branch_count_at 0 - 0 ≡ get_or b branch_count_at 0 = omega arith in
    rw e (record { ahead = (body_branches b (statement_of b) (body_is b t)).stands; same = names_branches f b t })

module _ (f : ℕ → Bool) (x : Bool) (b : List ℕ) (at left : ℕ) (h : Naming f x b at left) where
  pub naming_end : left ≡ 0 → false ≡ x
  unfolding any
  naming_end z = sym (h.same ∙ rw (z, no_items branch b at))

  module _ (m : ℕ) (s : left ≡ suc m) where
    pub naming_ahead : Branches b at (suc m)
    naming_ahead = subst (Branches b at) s h.ahead

    module _ (g : Bare × ℕ) (e : bare_is (Some g) ≡ bare_at (operation_at b at)) where
      pub naming_branch : PassedBranch b at m g
      naming_branch = pass_branch b at m naming_ahead g e

      all_left : x ≡ (names_some f naming_branch.0.first || any (names_some f) (branches_from b naming_branch.0.stop m))
      unfolding any
      all_left = h.same ∙ ap (λ (k : ℕ). any (names_some f) (branches_from b at k)) s ∙ rw naming_branch.0.items

      pub naming_hit : PastBranch f b g.0 g.1 None → true ≡ x
      naming_hit p = sym (all_left ∙ rw (branch_hit f b at m g naming_branch p))

      pub naming_turn : (r : ℕ) → PastBranch f b g.0 g.1 (Some r) → Naming f x b r m
      naming_turn r p = rw (branch_stop f b at m g naming_branch r p) (record { ahead = naming_branch.0.later; same = all_left ∙ rw (branch_miss f b at m g naming_branch r p) })
