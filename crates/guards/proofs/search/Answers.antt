-- `guards::search` meets its contract. Assumes nothing.
use mathlib.Core.Path.{◌≡◌, refl, sym, subst, ◌∙◌}
use Prim.Native.Nat.{ℕ, suc, ◌+◌, ◌-◌}
use native.Mathlib.Omega.{arith}
use lib.ListN.{get_or}
use lib.Dec.{T}
use Rattle.std.specs.Prelude.{Some}
use Rattle.basis.specs.Sizes.{branch_count_at}
use Rattle.model.specs.Legal.{is_guard}
use Rattle.model.specs.Matching.{Bindings, template, is_match}
use Rattle.model.specs.Matching.{unbound}
use Rattle.statements.specs.declared.Operation.{Operation}
use Rattle.statements.specs.Flat.{operation_is, Reads, operation_at}
use Rattle.tuples.specs.Section.{tuples_of}
use Rattle.matching.specs.Meaning.{template_is}
use Rattle.matching.specs.SearchLaws.{search_all, search_miss}
use Rattle.bindings.specs.Fields.{fields_in}
use Rattle.walk.specs.Walk.{ReadBranch, branch_there, read_branch, body_is}
use Rattle.guards.specs.Searching.{true_finds, guard_finds, guard_fails, read_guard, ahead_stand, body_past, body_there, seek_first, seek_end, seek_found, seek_next}
use Rattle.guards.proofs.search.Goals as goal
use Rattle.guards.proofs.search.Goals.{In-branches, After-template_of-template}

-- a branch is left
module _ (c : In-branches) where
  abbrev others : ℕ
  others = get_or c.args.body.now branch_count_at 0 - (c.branches.i + 1)

  one_more : get_or c.args.body.now branch_count_at 0 - c.branches.i ≡ suc others
  one_more = omega (arith, c.branches-test.true)

  -- its guard is read
  here : (r : Operation × ℕ) → Reads (Some r) (operation_at c.args.body.now c.branches.at) → ReadBranch c.args.body.now c.branches.at others r
  here r e = read_branch c.args.body.now c.branches.at others (ahead_stand _ _ c.args.body.now c.branches.at _ c.branches.invariant.1 others one_more) r e

-- it has a template
module _ (c : After-template_of-template) where
  abbrev guard : Operation
  guard = c.standing_operation-end.result.0

  found : ReadBranch c.args.body.now c.branches.at (others (goal.at.tuples-init c).In-branches) c.standing_operation-end.result
  found = here (goal.at.tuples-init c).In-branches c.standing_operation-end.result c.standing_operation-end.ensures

  is-guard : T (is_guard (operation_is guard))
  is-guard = read_guard _ _ _ _ found

  its-template : template_is c.template_of-template.result ≡ template unbound guard.from (fields_in guard)
  its-template = subst (λ (bs : Bindings). template_is c.template_of-template.result ≡ template bs guard.from (fields_in guard)) c.no_vars.ensures c.template_of-template.ensures.0

pub bounds-body-3 : goal.bounds-body-3
bounds-body-3 c = (body_is c.args.body.now c.requires.2).long

pub branches-init : goal.branches-init
branches-init c = (refl, seek_first _ _ c.requires.2)

pub standing_operation-end-requires : goal.standing_operation-end-requires
standing_operation-end-requires c = branch_there c.args.body.now c.branches.at _ (ahead_stand _ _ c.args.body.now c.branches.at _ c.branches.invariant.1 _ (one_more c))

pub tuples-init : goal.tuples-init
tuples-init c = (c.branches.invariant.0, search_all (is_match (template_is c.template_of-template.result)) c.args.tuples.now c.args.n)

pub is_match-requires : goal.is_match-requires
is_match-requires c = let pre = c.requires in (omega (arith, pre.0, pre.1, c.tuples-test.true), c.template_of-template.ensures.1)

pub tuples-preserved : goal.tuples-preserved
tuples-preserved c =
    let a = c.args in
    (c.tuples.invariant.0, c.tuples.invariant.1 ∙ search_miss (is_match (template_is c.template_of-template.result)) a.tuples.now a.n c.tuples.tuple c.tuples-test.true (sym c.is_match.ensures ∙ c.if-is_match.false))

pub overflow_add-end : goal.overflow_add-end
overflow_add-end c = record { fits = omega (arith, (found (goal.at.overflow_add-end c).After-template_of-template).0.long, (body_is c.args.body.now c.requires.2).size) }

pub bounds-body-end : goal.bounds-body-end
bounds-body-end c = (found (goal.at.bounds-body-end c).After-template_of-template).0.long

pub standing_end-at-requires : goal.standing_end-at-requires
standing_end-at-requires c =
    let n = (found (goal.at.standing_end-at-requires c).After-template_of-template).0 in
    (omega (arith, n.long), body_there c.args.body.now c.branches.at _ _ n _ c.size.ensures.0)

pub branches-preserved : goal.branches-preserved
branches-preserved c =
    let a = c.args in
    let t = (goal.at.branches-preserved c).After-template_of-template in
    let n = found t in
    let fails = guard_fails (guard t) a.tuples.now a.n c.template_of-template.result (is-guard t) c.if-op-eq-TRUE.false (its-template t) c.tuples.tuple c.tuples.invariant.1 c.tuples-test.false in
    let next = body_past a.body.now c.branches.at _ _ n.0 _ c.standing_end-at.result c.size.ensures.0 c.standing_end-at.ensures in
    (c.tuples.invariant.0, seek_next a.body.now (tuples_of a.tuples.now a.n) c.branches.i c.branches.at _ c.branches.invariant.1 _ (one_more (goal.at.branches-preserved c).In-branches) c.standing_operation-end.result n fails c.standing_end-at.result next)

pub returns-after-branches : goal.returns-after-branches
returns-after-branches c = let l = c.branches in seek_end _ _ l.i l.at _ l.invariant.1 (omega (arith, c.branches-test.false)) l.choice-1 l.invariant.0

pub returns-then-op-eq-TRUE : goal.returns-then-op-eq-TRUE
returns-then-op-eq-TRUE c =
    let a = c.args in
    let r = c.standing_operation-end in
    let b = (goal.at.returns-then-op-eq-TRUE c).In-branches in
    seek_found a.body.now (tuples_of a.tuples.now a.n) c.branches.i c.branches.at _ c.branches.invariant.1 _ (one_more b) r.result (here b r.result r.ensures) 0 (true_finds r.result.0 (tuples_of a.tuples.now a.n) 0 c.if-op-eq-TRUE.true)

pub returns-then-is_match : goal.returns-then-is_match
returns-then-is_match c =
    let a = c.args in
    let t = (goal.at.returns-then-is_match c).After-template_of-template in
    seek_found a.body.now (tuples_of a.tuples.now a.n) c.branches.i c.branches.at _ c.branches.invariant.1 _ (one_more (goal.at.returns-then-is_match c).In-branches) c.standing_operation-end.result (found t) c.tuples.tuple
    (guard_finds (guard t) a.tuples.now a.n c.template_of-template.result (is-guard t) c.if-op-eq-TRUE.false (its-template t) c.tuples.tuple c.tuples.invariant.1 c.tuples-test.true (sym c.is_match.ensures ∙ c.if-is_match.true))
