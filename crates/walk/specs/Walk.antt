-- The walk of a legal body: its branches, of each the guard, the count and the operations, from position to position. Assumes nothing.
use Rattle.std.specs.Prelude.{◌≡◌, refl, ℕ, suc, ◌+◌, ◌-◌, ◌≤◌, ◌<◌, List, [], ◌∷◌, length, drop, get_or, T, Some}
use Rattle.std.proofs.Common.{sym, ap, subst, ◌∙◌, arith, length-drop, ltb→lt}
use Rattle.std.proofs.Math.Option.{some, some-injective}
use Rattle.basis.specs.Choice.{is_some, provided}
use Rattle.basis.specs.Logic.{and_l, and_r, is_true}
use Rattle.basis.specs.Lists.{all}
use Rattle.basis.specs.Sizes.{hosts, host_at, count_width, branch_count_at, branches_at}
use Rattle.model.specs.Statement.{Operation, Branch, Statement}
use Rattle.model.specs.Legal.{legal_branch, legal_statement, legal_body}
use Rattle.model.specs.Reading.{several, operation, branch}
use Rattle.model.proofs.ReadBack.{several_length}
use Rattle.layout.specs.Stored.{statement_of, legal_parse}
use Rattle.statements.specs.At.{passed, some_read_at, suffix_at, suffix_several}
use Rattle.statements.specs.Ends.{end_at, end_of_lem}
use Rattle.statements.specs.BranchAt.{BranchAt, branch_at_lem}
use Rattle.statements.specs.Operations.{suffix_operation}
use Rattle.statements.specs.Flat.{operation_of, operation_is, Reads, few_fields, operation_at}
use Rattle.statements.specs.Front.{bare, bare_at, bare_is}
use Rattle.statements.specs.declared.Bare.{Bare}
use Rattle.statements.specs.declared.Operation as flat
use Rattle.walk.specs.BodyParts.{BodyParts, body_parts}
use Rattle.walk.specs.Branches.{suffix_branch}
use Rattle.walk.specs.LegalEnds.{legal_some, legal_branches, few_parts}
use Rattle.walk.specs.Standing.{items_at, left_at, Stands, StandAs, stand_as, First, first_of}

-- ---- what stands ahead

-- operations, each with at most as many fields as a tuple has values
abbrev pub Operations : List ℕ → (at count : ℕ) → Type 0
Operations b at count = Stands operation few_fields b at count

abbrev pub operations_at : List ℕ → (at count : ℕ) → List Operation
operations_at b at count = items_at operation b at count

-- the bytes after them
abbrev pub after_operations : List ℕ → (at count : ℕ) → List ℕ
after_operations b at count = left_at operation b at count

-- legal branches
abbrev pub Branches : List ℕ → (at count : ℕ) → Type 0
Branches b at count = Stands branch legal_branch b at count

abbrev pub branches_from : List ℕ → (at count : ℕ) → List Branch
branches_from b at count = items_at branch b at count

-- ---- what the code answers at a position where an operation stands

abbrev There : List ℕ → ℕ → Operation → ℕ → Type 0
There b at o end = operation_at b at ≡ some (o, end)

there : (b : List ℕ) (at end : ℕ) (o : Operation) → operation (drop at b) ≡ some (o, drop end b) → end ≤ length b → T (few_fields o) → There b at o end
unfolding operation_at passed provided
there b at end o e h t = rw (some_read_at operation b at o end e h, is_true (few_fields o) t)

-- what is there is found
is_there : (b : List ℕ) (at : ℕ) (o : Operation) (end : ℕ) → There b at o end → T (is_some (operation_at b at))
unfolding is_some
is_there b at o end h = rw h tt

module _ (b : List ℕ) (at : ℕ) (o : Operation) (end : ℕ) (h : There b at o end) where
  read_is_lem : (r : flat.Operation × ℕ) → Reads (Some r) (operation_at b at) → (operation_is r.0 ≡ o) × (r.1 ≡ end)
  read_is_lem r e = let q = some-injective (operation_is r.0, r.1) (o, end) (e.is ∙ h) in (ap (λ (y : Operation × ℕ). y.0) q, ap (λ (y : Operation × ℕ). y.1) q)

  bare_is_lem : (r : Bare × ℕ) → bare_is (Some r) ≡ bare_at (operation_at b at) → (operation_of r.0.code r.0.from r.0.to [] ≡ bare o) × (r.1 ≡ end)
  unfolding bare_at
  bare_is_lem r e =
      let q = some-injective (operation_of r.0.code r.0.from r.0.to [], r.1) (bare o, end) (e ∙ rw h) in
      (ap (λ (y : Operation × ℕ). y.0) q, ap (λ (y : Operation × ℕ). y.1) q)

-- ---- one operation, then those after it

pub record Next (b : List ℕ) (at count : ℕ) (o : Operation) (end : ℕ) : Type 0 where
  pub within : end ≤ length b
  pub few : T (few_fields o)
  pub items : operations_at b at (suc count) ≡ o ∷ operations_at b end count
  pub left : after_operations b at (suc count) ≡ after_operations b end count
  pub later : Operations b end count

-- an operation that was passed over
pub record PassedNext (b : List ℕ) (at count : ℕ) (r : Bare × ℕ) : Type 0 where
  pub item : Operation
  pub is : operation_of r.0.code r.0.from r.0.to [] ≡ bare item
  pub next : Next b at count item r.1

module _ (b : List ℕ) (at count : ℕ) (h : Operations b at (suc count)) where
  abbrev one : First operation few_fields b at count
  one = first_of operation suffix_operation few_fields b at count h

  one_there : There b at one.item one.end
  one_there = there b at one.end one.item one.reads one.within one.passes

  next_one : Next b at count one.item one.end
  next_one = record { within = one.within; few = one.passes; items = one.items; left = one.left; later = one.later }

  -- the next operation is there
  pub next_there : T (is_some (operation_at b at))
  next_there = is_there b at one.item one.end one_there

  pub read_next : (r : flat.Operation × ℕ) → Reads (Some r) (operation_at b at) → Next b at count (operation_is r.0) r.1
  read_next r e = let q = read_is_lem b at one.item one.end one_there r e in rw (q.0, q.1) next_one

  pub pass_next : (r : Bare × ℕ) → bare_is (Some r) ≡ bare_at (operation_at b at) → PassedNext b at count r
  pass_next r e =
      let q = bare_is_lem b at one.item one.end one_there r e in
      record { item = one.item; is = q.0; next = rw q.1 next_one }

-- where operations end, found by going from end to end
module _ (b : List ℕ) (at count : ℕ) (h : Operations b at count) where
  operations_stop : end_at (several operation count) (all few_fields) b at ≡ some (length b - length (after_operations b at count))
  unfolding provided
  operations_stop = end_of_lem (several operation count) (all few_fields) b at ∙ rw (h.reads, is_true (all few_fields (operations_at b at count)) h.pass)

  -- it is found
  pub operations_there : T (is_some (end_at (several operation count) (all few_fields) b at))
  unfolding is_some
  operations_there = rw operations_stop tt

  pub operations_past : (end : ℕ) → some end ≡ end_at (several operation count) (all few_fields) b at → (drop end b ≡ after_operations b at count) × (end ≤ length b)
  operations_past end e =
      let left : List ℕ = after_operations b at count in
      let same : end ≡ length b - length left = some-injective end (length b - length left) (e ∙ operations_stop) in
      let last : drop (length b - length left) b ≡ left = suffix_at (several operation count) (suffix_several operation suffix_operation count) b at (operations_at b at count) left h.reads in
      (ap (λ (n : ℕ). drop n b) same ∙ last, omega (arith, same))

-- ---- one branch, then those after it

-- the branch at a position whose guard ends at another: its operations stand after its count, and the others after these
pub record NextBranch (b : List ℕ) (at others end : ℕ) : Type 0 where
  pub first : Branch
  pub stop : ℕ
  pub within : stop ≤ length b
  pub reads : branch (drop at b) ≡ some (first, drop stop b)
  pub legal : T (legal_branch first)
  pub items : branches_from b at (suc others) ≡ first ∷ branches_from b stop others
  pub left : left_at branch b at (suc others) ≡ left_at branch b stop others
  pub later : Branches b stop others
  pub guard : operation (drop at b) ≡ some (first.guard, drop end b)
  pub long : end < length b
  pub count : get_or b end 0 ≡ length first.body
  pub body : Operations b (end + count_width) (get_or b end 0)
  pub is_body : operations_at b (end + count_width) (get_or b end 0) ≡ first.body
  pub after : after_operations b (end + count_width) (get_or b end 0) ≡ drop stop b

-- the guard of it was read, or passed over
abbrev pub ReadBranch : List ℕ → (at count : ℕ) → flat.Operation × ℕ → Type 0
ReadBranch b at count r = (h : NextBranch b at count r.1) × (operation_is r.0 ≡ h.first.guard)

abbrev pub PassedBranch : List ℕ → (at count : ℕ) → Bare × ℕ → Type 0
PassedBranch b at count r = (h : NextBranch b at count r.1) × (operation_of r.0.code r.0.from r.0.to [] ≡ bare h.first.guard)

module _ (b : List ℕ) (at count : ℕ) (h : Branches b at (suc count)) where
  abbrev one_branch : First branch legal_branch b at count
  one_branch = first_of branch suffix_branch legal_branch b at count h

  abbrev parts : BranchAt b at one_branch.item (drop one_branch.end b)
  parts = branch_at_lem b at one_branch.item (drop one_branch.end b) one_branch.reads

  guard_there : There b at one_branch.item.guard parts.end
  guard_there = there b at parts.end one_branch.item.guard parts.guard (omega (arith, parts.within)) (few_parts one_branch.item one_branch.passes).0

  next_branch : (h : NextBranch b at count parts.end) × (h.first.guard ≡ one_branch.item.guard)
  next_branch =
      let br : Branch = one_branch.item in
      let body : several operation (get_or b parts.end 0) (drop (parts.end + count_width) b) ≡ some (br.body, drop one_branch.end b) = rw parts.count parts.body in
      let y = stand_as operation few_fields b (parts.end + count_width) (get_or b parts.end 0) br.body (drop one_branch.end b) body (few_parts br one_branch.passes).1 in
      let h : NextBranch b at count parts.end = record {
        first = br;
        stop = one_branch.end;
        within = one_branch.within;
        reads = one_branch.reads;
        legal = one_branch.passes;
        items = one_branch.items;
        left = one_branch.left;
        later = one_branch.later;
        guard = parts.guard;
        long = parts.within;
        count = parts.count;
        body = y.stands;
        is_body = y.items;
        after = y.left;
      } in
      (h, refl)

  -- the guard is there
  pub branch_there : T (is_some (operation_at b at))
  branch_there = is_there b at one_branch.item.guard parts.end guard_there

  pub read_branch : (r : flat.Operation × ℕ) → Reads (Some r) (operation_at b at) → ReadBranch b at count r
  read_branch r e =
      let q = read_is_lem b at one_branch.item.guard parts.end guard_there r e in
      subst (λ (n : ℕ). (h : NextBranch b at count n) × (operation_is r.0 ≡ h.first.guard)) (sym q.1) (next_branch.0, q.0 ∙ sym next_branch.1)

  pub pass_branch : (r : Bare × ℕ) → bare_is (Some r) ≡ bare_at (operation_at b at) → PassedBranch b at count r
  pass_branch r e =
      let q = bare_is_lem b at one_branch.item.guard parts.end guard_there r e in
      subst (λ (n : ℕ). (h : NextBranch b at count n) × (operation_of r.0.code r.0.from r.0.to [] ≡ bare h.first.guard)) (sym q.1) (next_branch.0, q.0 ∙ ap bare (sym next_branch.1))

-- the position after a branch's operations is where the others stand
pub stop_is : (b : List ℕ) (at count end next : ℕ) (h : NextBranch b at count end) → next ≤ length b → drop next b ≡ after_operations b (end + count_width) (get_or b end 0) → next ≡ h.stop
stop_is b at count end next h l e = omega (arith, ap length (e ∙ h.after), length-drop next b, length-drop h.stop b, h.within)

-- ---- a body

-- a legal body's parts, and its branches after their count
pub body_is : (b : List ℕ) → T (legal_body b) → BodyParts b (statement_of b)
body_is b t = body_parts b (statement_of b) (legal_parse b t)

pub body_branches : (b : List ℕ) (st : Statement) → BodyParts b st → StandAs branch legal_branch b branches_at (get_or b branch_count_at 0) st.branches []
body_branches b st h = stand_as branch legal_branch b branches_at (get_or b branch_count_at 0) st.branches [] h.branches (legal_branches st h.legal)

-- there is one at least
pub body_count : (b : List ℕ) → T (legal_body b) → 1 ≤ get_or b branch_count_at 0
body_count b t =
    let h = body_is b t in
    omega (arith, legal_some (statement_of b) h.legal, several_length branch (get_or b branch_count_at 0) (drop branches_at b) [] (statement_of b).branches h.branches)

pub body_host_small : (b : List ℕ) → T (legal_body b) → get_or b host_at 0 < hosts
unfolding legal_statement
body_host_small b t =
    let h = body_is b t in
    let l : T (legal_statement (statement_of b)) = h.legal in
    omega (arith, h.host, ltb→lt (statement_of b).host hosts (search (and_l, and_r, l) depth 16))
