-- A legal branch: its guard, then its body after the kinds that the guard bound. Assumes nothing.
use Rattle.std.specs.Prelude.{◌≡◌, ℕ, Bool, true, ◌&&◌, List, [], length, leb}
use Rattle.std.proofs.Math.Path.{refl, sym}
use Rattle.std.proofs.Common.{◌∙◌}
use Rattle.std.proofs.Math.Bool.{false}
use Rattle.std.proofs.Math.Option.{Option, none, some}
use Rattle.basis.specs.Choice.{maybe}
use Rattle.basis.specs.Lists.{all}
use Rattle.basis.specs.Sizes.{most_operations}
use Rattle.model.specs.Statement.{Operation, operations}
use Rattle.model.specs.Legal.{Kinds, no_kinds, bind_kinds, fields_of, legal_operation, legal_operations, is_guard, is_body_operation, legal_branch}
use Rattle.model.specs.Reading.{operation, branch}
use Rattle.statements.specs.Ends.{end_at, Passes, Stops}
use Rattle.walk.specs.Branches.{counted_end, branch_ends}
use Rattle.legality.specs.Steps.{place_ok, step_at, body_legal, step_later, body_turn, step_within}

-- at most eight operations
abbrev pub few_operations : ℕ → Bool
few_operations n = leb n most_operations

-- the operations of a body after the kinds that its guard bound, with their count before them
abbrev body_end : List ℕ → Kinds → ℕ → Option ℕ
body_end b ks at = counted_end few_operations (body_legal ks) b at

-- the test of a branch: of its guard, of its operation count, and of its operations
legal_parts_lem : (g : Operation) (os : List Operation) → legal_branch (record { guard = g; body = os }) ≡ ((is_guard g && legal_operation no_kinds g) && (few_operations (length os) && body_legal (bind_kinds no_kinds (fields_of g)) os))
unfolding legal_branch operations legal_operations body_legal
legal_parts_lem g os = tests (is_guard g) (leb (length os) most_operations) (all is_body_operation os) (legal_operation no_kinds g) (legal_operations (bind_kinds no_kinds (fields_of g)) os)
  where
    tests : (a n c d e : Bool) → (a && n && c && (d && e)) ≡ ((a && d) && (n && (c && e)))
    tests true true true d e = refl
    tests true true false true e = refl
    tests true true false false e = refl
    tests true false c true e = refl
    tests true false c false e = refl
    tests false n c d e = refl

-- a branch: its guard, then its body
branch_end : (b : List ℕ) (at : ℕ) → end_at branch legal_branch b at ≡ maybe (step_at true no_kinds b at) none (λ r. body_end b r.0 r.1)
unfolding place_ok
branch_end b at = branch_ends legal_branch (λ g. is_guard g && legal_operation no_kinds g) few_operations (λ g. body_legal (bind_kinds no_kinds (fields_of g))) legal_parts_lem b at ∙ sym (step_later true no_kinds b at (body_end b))

-- ---- in code

-- the guard of a branch
module _ (b : List ℕ) (at : ℕ) where
  pub no_guard : none ≡ step_at true no_kinds b at → none ≡ end_at branch legal_branch b at
  no_guard h = sym (branch_end b at ∙ rw (← h))

  pub guard_legal : (ks : Kinds) (end : ℕ) → some (ks, end) ≡ step_at true no_kinds b at → body_end b ks end ≡ end_at branch legal_branch b at
  guard_legal ks end h = sym (branch_end b at ∙ rw (← h))

-- the operations of its body
pub body_none : (ks : Kinds) → body_legal ks [] ≡ true
unfolding body_legal all legal_operations
body_none ks = refl

module _ (ks : Kinds) (b : List ℕ) (at : ℕ) where
  -- one more is legal
  pub step_passes : (after : Kinds) (end : ℕ) → some (after, end) ≡ step_at false ks b at → Passes operation (body_legal ks) (body_legal after) b at end
  step_passes after end h = record { within = step_within false ks after b at end (sym h); rest = λ m. body_turn ks m b at ∙ rw (← h) }

  -- it is not legal
  pub step_stops : none ≡ step_at false ks b at → Stops operation (body_legal ks) b at
  step_stops h m = body_turn ks m b at ∙ rw (← h)
