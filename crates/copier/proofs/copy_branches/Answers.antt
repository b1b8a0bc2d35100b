-- `copier::copy_branches` meets its contract. Assumes nothing.
use Rattle.std.proofs.Common.{◌≡◌, sym, ℕ, suc, ◌+◌, ◌-◌, ◌<◌, List, subst, arith}
use borrow.Author.Rules.{rules}
use Rattle.basis.specs.Sizes.{count_width}
use Rattle.rewriter.specs.Copying.{Underway, fills_at, fills_ok, guard_there, guard_within, branch_turn, all_in}
use Rattle.copier.proofs.copy_branches.Goals as goal

-- a branch is left: it and the others
one_more : (b buffer : List ℕ) (at i n fill : ℕ) (out : List ℕ) → i < n → Underway b buffer at 0 (n - i) fill out → Underway b buffer at 0 (suc (n - (i + 1))) fill out
one_more b buffer at i n fill out h u =
    let e : n - i ≡ suc (n - (i + 1)) = omega arith in
    subst (λ (m : ℕ). Underway b buffer at 0 m fill out) e u

pub standing_operation-end-requires : goal.standing_operation-end-requires
standing_operation-end-requires c = guard_there _ _ _ _ _ _ (one_more _ _ _ _ _ _ _ c.loop-test.true c.loop.invariant)

pub loop-init : goal.loop-init
loop-init c =
    let a = c.args in
    let all : a.branches ≡ a.branches - 0 = omega arith in
    subst (λ (n : ℕ). Underway a.body.now a.out.now a.at 0 n a.fill a.out.now) all c.requires

pub unwrap-begun-requires : goal.unwrap-begun-requires
unwrap-begun-requires c =
    fills_ok (branch_turn _ _ _ _ _ _ (one_more _ _ _ _ _ _ _ c.loop-test.true c.loop.invariant) c.standing_operation-end.result c.standing_operation-end.ensures c.branch_at.result c.branch_at.new.buffer c.branch_at.ensures)

pub overflow_add-end : goal.overflow_add-end
overflow_add-end c =
    let h = guard_within _ _ _ _ _ _ (one_more _ _ _ _ _ _ _ c.loop-test.true c.loop.invariant) c.standing_operation-end.result c.standing_operation-end.ensures in
    search rules

pub bounds-body-end : goal.bounds-body-end
bounds-body-end c = guard_within _ _ _ _ _ _ (one_more _ _ _ _ _ _ _ c.loop-test.true c.loop.invariant) c.standing_operation-end.result c.standing_operation-end.ensures

pub copy_operations-c-requires : goal.copy_operations-c-requires
copy_operations-c-requires c =
    let a = c.args in
    let later = a.branches - (c.loop.counter + 1) in
    let turn = branch_turn _ _ _ _ _ _ (one_more _ _ _ _ _ _ _ c.loop-test.true c.loop.invariant) c.standing_operation-end.result c.standing_operation-end.ensures c.branch_at.result c.branch_at.new.buffer c.branch_at.ensures in
    (a.out.now, later, subst (λ (m : ℕ). Underway a.body.now a.out.now (c.standing_operation-end.result.1 + count_width) m later c.unwrap-begun.result c.branch_at.new.buffer) (sym c.size.ensures.0) (fills_at turn c.unwrap-begun.result c.unwrap-begun.ensures))

pub loop-preserved : goal.loop-preserved
loop-preserved c =
    let a = c.args in
    let later = a.branches - (c.loop.counter + 1) in
    let turn = branch_turn _ _ _ _ _ _ (one_more _ _ _ _ _ _ _ c.loop-test.true c.loop.invariant) c.standing_operation-end.result c.standing_operation-end.ensures c.branch_at.result c.branch_at.new.buffer c.branch_at.ensures in
    c.copy_operations-c.ensures a.out.now later
    (subst (λ (m : ℕ). Underway a.body.now a.out.now (c.standing_operation-end.result.1 + count_width) m later c.unwrap-begun.result c.branch_at.new.buffer) (sym c.size.ensures.0) (fills_at turn c.unwrap-begun.result c.unwrap-begun.ensures))

pub returns : goal.returns
returns c =
    let a = c.args in
    let end : a.branches - c.loop.counter ≡ 0 = omega (arith, c.loop-test.false) in
    all_in a.body.now a.out.now c.loop.next c.loop.filled c.loop.out (subst (λ (n : ℕ). Underway a.body.now a.out.now c.loop.next 0 n c.loop.filled c.loop.out) end c.loop.invariant)
