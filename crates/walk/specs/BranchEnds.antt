-- Where a branch ends, whether it is legal or not. Assumes nothing.
use Rattle.std.specs.Prelude as code
use Rattle.std.specs.Prelude.{◌≡◌, refl, ℕ, Bool, true, List, [], None, Some}
use Rattle.std.proofs.Common.{sym, ap, ◌∙◌}
use Rattle.std.proofs.Math.Option.{Option, none, some, some-injective, none-ne-some}
use Rattle.basis.specs.Choice.{maybe, given}
use Rattle.basis.specs.Lists.{all}
use Rattle.model.specs.Statement.{Operation, Branch, operations}
use Rattle.model.specs.Reading.{operation, branch}
use Rattle.statements.specs.At.{ended}
use Rattle.statements.specs.Flat.{operation_of, few_fields, operation_at}
use Rattle.statements.specs.Front.{bare, bare_at, bare_is}
use Rattle.statements.specs.declared.Bare.{Bare}
use Rattle.statements.specs.Ends.{end_at, end_then}
use Rattle.walk.specs.Branches.{counted_end, branch_ends}

-- no operation of a branch has more fields than a tuple has values
unfoldable pub few_in : Branch → Bool
few_in br = all few_fields (operations br)

-- any count, and operations with few fields
abbrev pub body_end : List ℕ → ℕ → Option ℕ
body_end b at = counted_end (λ n. true) (all few_fields) b at

-- a branch ends where its body does, after its guard
few_end : (b : List ℕ) (at : ℕ) → end_at branch few_in b at ≡ maybe (end_at operation few_fields b at) none (body_end b)
unfolding few_in operations all
few_end b at = branch_ends few_in few_fields (λ n. true) (λ g. all few_fields) (λ g os. refl) b at ∙ sym (end_then operation few_fields b at (body_end b))

-- ---- in code

-- where an operation ends is where it is read to
operation_end : (b : List ℕ) (at : ℕ) → end_at operation few_fields b at ≡ ended (operation_at b at)
unfolding end_at operation_at
operation_end b at = refl

-- an operation that was passed over
pub bare_end : (b : List ℕ) (at : ℕ) (r : code.Option (Bare × ℕ)) → bare_is r ≡ bare_at (operation_at b at) → maybe {B = Option ℕ} (given r) none (λ x. some x.1) ≡ end_at operation few_fields b at
unfolding bare_at ended
bare_end b at r h = go r (operation_at b at) h ∙ sym (operation_end b at)
  where
    go : (r : code.Option (Bare × ℕ)) (o : Option (Operation × ℕ)) → bare_is r ≡ bare_at o → maybe {B = Option ℕ} (given r) none (λ x. some x.1) ≡ ended o
    go None none e = refl
    go None (some x) e = absurd (none-ne-some (bare x.0, x.1) e)
    go (Some r) none e = absurd (none-ne-some (operation_of r.0.code r.0.from r.0.to [], r.1) (sym e))
    go (Some r) (some x) e = ap (λ (y : Operation × ℕ). some y.1) (some-injective (operation_of r.0.code r.0.from r.0.to [], r.1) (bare x.0, x.1) e)

module _ (b : List ℕ) (at : ℕ) where
  pub no_guard : none ≡ end_at operation few_fields b at → none ≡ end_at branch few_in b at
  no_guard h = sym (few_end b at ∙ rw (← h))

  pub guard_passed : (end : ℕ) → some end ≡ end_at operation few_fields b at → body_end b end ≡ end_at branch few_in b at
  guard_passed end h = sym (few_end b at ∙ rw (← h))
