-- The walk to the operation count of a legal body's last branch. Assumes nothing.
use Rattle.std.specs.Prelude.{◌≡◌, refl, List, [], ◌∷◌, ℕ, suc, ◌+◌, ◌-◌, ◌≤◌, ◌<◌, length, drop, get_or, T, Some}
use Rattle.std.proofs.Common.{sym, ap, ◌∙◌, arith, length-append, length-drop, leb→le}
use Rattle.std.proofs.Math.Option.{some, some-injective}
use Rattle.std.proofs.Math.Pow.{are_bytes}
use Rattle.basis.specs.Choice.{is_some}
use Rattle.basis.specs.Logic.{and_l, and_r}
use Rattle.basis.specs.NumberLaws.{bytes_drop}
use Rattle.basis.specs.Sizes.{most_operations, branch_count_at, branches_at}
use Rattle.model.specs.Statement.{Branch, Statement}
use Rattle.model.specs.Legal.{legal_branch, parse, legal_body}
use Rattle.model.specs.Reading.{Reader, operation, branch}
use Rattle.model.specs.Writing.{operation_bytes, branch_bytes}
use Rattle.model.proofs.ReadBack.{Writes, writes_operation, writes_branch}
use Rattle.statements.specs.Flat.{operation_at}
use Rattle.statements.specs.Front.{bare_at, bare_is}
use Rattle.layout.specs.Stored.{statement_of, statement_of_lem}
use Rattle.statements.specs.Ends.{end_at}
use Rattle.walk.specs.BranchEnds.{few_in}
use Rattle.statements.specs.declared.Bare.{Bare}
use Rattle.walk.specs.Branches.{suffix_branch}
use Rattle.walk.specs.LegalEnds.{legal_end}
use Rattle.walk.specs.Standing.{first_of, no_items}
use Rattle.walk.specs.Walk.{Branches, branches_from, body_is, body_branches, body_count, branch_there, pass_branch}
use Rattle.walk.specs.Counts.{before_count, before_more, count_at}

-- the index of that count, and how far it can be raised
pub record LastCount (b : List ℕ) (at : ℕ) : Type 0 where
  pub within : at < length b
  pub few : get_or b at 0 ≤ most_operations
  pub is : (st : Statement) → parse b ≡ some st → at ≡ count_at st

-- what is read ends after its bytes
ends_after : {A : Type 0} (p : Reader A) (write : A → List ℕ) → Writes [] p write → (b : List ℕ) (at end : ℕ) (a : A) → T (are_bytes b) → at ≤ length b → end ≤ length b
    → p (drop at b) ≡ some (a, drop end b) → end ≡ at + length (write a)
ends_after p write w b at end a t h k e =
    let l : length (drop at b) ≡ length (write a) + length (drop end b) = ap length (w (drop at b) (drop end b) a (bytes_drop at b t) e) ∙ length-append (write a) (drop end b) in
    omega (arith, l, length-drop at b, length-drop end b)

-- the branches before the last that were passed, and those that stand from an index on
pub record Reached (b : List ℕ) (count at i : ℕ) : Type 0 where
  pub few : i ≤ count
  pub within : at ≤ length b
  pub ahead : Branches b at (suc (count - i))
  pub is : at + before_count (branches_from b at (suc (count - i))) ≡ count_at (statement_of b)

pub reached_start : (b : List ℕ) (count : ℕ) → T (legal_body b) → count ≡ get_or b branch_count_at 0 → Reached b count branches_at 1
unfolding count_at
reached_start b count t q =
    let p = body_is b t in
    let y = body_branches b (statement_of b) p in
    let m : suc (count - 1) ≡ get_or b branch_count_at 0 = omega (arith, body_count b t) in
    record { few = omega (arith, body_count b t); within = p.long; ahead = rw m y.stands; is = rw (m, y.items) }

-- a branch that is not the last stands, so its end is found
pub reached_stands : (b : List ℕ) (count at i : ℕ) → i < count → Reached b count at i → T (is_some (end_at branch few_in b at))
unfolding is_some
reached_stands b count at i h r =
    let x = first_of branch suffix_branch legal_branch b at (count - i) r.ahead in
    rw (legal_end b at x.end x.item x.reads x.within x.passes) tt

-- and the last
pub reached_there : (b : List ℕ) (count at i : ℕ) → Reached b count at i → T (is_some (operation_at b at))
reached_there b count at i r = branch_there b at (count - i) r.ahead

-- a branch is passed that is not the last
pub reached_turn : (b : List ℕ) (count at i end : ℕ) → T (are_bytes b) → i < count → Reached b count at i → some end ≡ end_at branch few_in b at → Reached b count end (i + 1)
reached_turn b count at i end t h r e =
    let x = first_of branch suffix_branch legal_branch b at (count - i) r.ahead in
    let stop : end ≡ x.end = some-injective end x.end (e ∙ legal_end b at x.end x.item x.reads x.within x.passes) in
    let size : x.end ≡ at + length (branch_bytes x.item) = ends_after branch branch_bytes writes_branch b at x.end x.item t r.within x.within x.reads in
    let m : suc (count - (i + 1)) ≡ count - i = omega arith in
    let later : Branches b x.end (suc (count - (i + 1))) = rw m x.later in
    let y = first_of branch suffix_branch legal_branch b x.end (count - (i + 1)) later in
    let all : branches_from b at (suc (count - i)) ≡ x.item ∷ branches_from b x.end (suc (count - (i + 1))) = rw m x.items in
    let before : before_count (branches_from b at (suc (count - i))) ≡ length (branch_bytes x.item) + before_count (branches_from b x.end (suc (count - (i + 1)))) =
    rw (all, y.items) (before_more x.item y.item (branches_from b y.end (count - (i + 1)))) in
    rw stop (record { few = omega arith; within = x.within; ahead = later; is = omega (arith, r.is, size, before) })

few_body : (x : Branch) → T (legal_branch x) → length x.body ≤ most_operations
unfolding legal_branch
few_body x t = leb→le (length x.body) most_operations (search (and_l, and_r, t) depth 16)

before_last : (x : Branch) → before_count (x ∷ []) ≡ length (operation_bytes x.guard)
unfolding before_count
before_last x = refl

-- the last branch is reached: its guard ends where its count stands
pub reached_last : (b : List ℕ) (count at i : ℕ) (r : Bare × ℕ) → T (are_bytes b) → T (legal_body b) → count ≤ i → Reached b count at i → bare_is (Some r) ≡ bare_at (operation_at b at) → LastCount b r.1
reached_last b count at i r t l h k e =
    let x = (pass_branch b at (count - i) k.ahead r e).0 in
    let m : count - i ≡ 0 = omega arith in
    let only : branches_from b at (suc (count - i)) ≡ x.first ∷ [] = x.items ∙ ap (λ (n : ℕ). x.first ∷ branches_from b x.stop n) m ∙ ap (λ (l : List Branch). x.first ∷ l) (no_items branch b x.stop) in
    let size : r.1 ≡ at + length (operation_bytes x.first.guard) = ends_after operation operation_bytes writes_operation b at r.1 x.first.guard t k.within (omega (arith, x.long)) x.guard in
    let here : r.1 ≡ count_at (statement_of b) = size ∙ ap (λ (n : ℕ). at + n) (sym (ap before_count only ∙ before_last x.first)) ∙ k.is in
    record { within = x.long; few = omega (arith, x.count, few_body x.first x.legal); is = λ st q. here ∙ ap count_at (statement_of_lem b st q) }
