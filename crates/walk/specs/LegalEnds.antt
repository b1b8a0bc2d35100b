-- What a legal statement, its branches and their operations keep to, and where a legal branch ends. Assumes nothing.
use Rattle.std.specs.Prelude.{◌≡◌, ℕ, ◌-◌, ◌≤◌, List, [], ◌∷◌, length, drop, T}
use Rattle.std.proofs.Common.{◌∙◌, arith, length-drop, leb→le}
use Rattle.std.proofs.Math.Option.{some}
use Rattle.basis.specs.Choice.{provided}
use Rattle.basis.specs.Logic.{and_l, and_r, both, is_true}
use Rattle.basis.specs.Lists.{all}
use Rattle.model.specs.Statement.{Operation, always, lookup, deposit, transfer, Branch, operations, Statement}
use Rattle.model.specs.Legal.{Kinds, no_kinds, bind_kinds, fields_of, field_count, legal_operation, legal_operations, legal_branch, legal_statement}
use Rattle.model.specs.Reading.{branch}
use Rattle.statements.specs.Flat.{few_fields}
use Rattle.statements.specs.Ends.{end_at, end_of_lem}
use Rattle.walk.specs.BranchEnds.{few_in}

-- a legal statement has a branch, and each is legal
pub legal_some : (st : Statement) → T (legal_statement st) → 1 ≤ length st.branches
unfolding legal_statement
legal_some st t = leb→le 1 (length st.branches) (search (and_l, and_r, t) depth 16)

pub legal_branches : (st : Statement) → T (legal_statement st) → T (all legal_branch st.branches)
unfolding legal_statement
legal_branches st t = search (and_l, and_r, t) depth 16

-- a legal operation has few fields
pub legal_few : (ks : Kinds) (o : Operation) → T (legal_operation ks o) → T (few_fields o)
unfolding legal_operation few_fields fields_of field_count
legal_few ks always t = tt
legal_few ks (lookup withdraws blocks s fs) t = search (and_l, and_r, t) depth 6
legal_few ks (deposit s fs) t = search (and_l, and_r, t) depth 6
legal_few ks (transfer withdraws from to fs) t = search (and_l, and_r, t) depth 6

-- a legal branch has few fields in every operation
legal_each : (ks : Kinds) (os : List Operation) → T (legal_operations ks os) → T (all few_fields os)
unfolding legal_operations all
legal_each ks [] t = tt
legal_each ks (o ∷ os) t =
    let later : Kinds = bind_kinds ks (fields_of o) in
    both (few_fields o) (all few_fields os) (legal_few ks o (and_l (legal_operation ks o) (legal_operations later os) t)) (legal_each later os (and_r (legal_operation ks o) (legal_operations later os) t))

pub legal_few_in : (br : Branch) → T (legal_branch br) → T (few_in br)
unfolding legal_branch few_in
legal_few_in br t = legal_each no_kinds (operations br) (search (and_l, and_r, t) depth 16)

-- in its guard, and in its body
pub few_parts : (br : Branch) → T (legal_branch br) → T (few_fields br.guard) × T (all few_fields br.body)
unfolding few_in operations all
few_parts br t = let few = legal_few_in br t in (and_l (few_fields br.guard) (all few_fields br.body) few, and_r (few_fields br.guard) (all few_fields br.body) few)

-- so the position after it is where its reader stops
pub legal_end : (b : List ℕ) (at end : ℕ) (br : Branch) → branch (drop at b) ≡ some (br, drop end b) → end ≤ length b → T (legal_branch br) → end_at branch few_in b at ≡ some end
unfolding provided
legal_end b at end br e h t =
    let n : length b - length (drop end b) ≡ end = omega (arith, length-drop end b) in
    end_of_lem branch few_in b at ∙ rw (e, is_true (few_in br) (legal_few_in br t), n)
