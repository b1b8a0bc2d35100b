-- `copier::copy_body` meets its contract. Assumes nothing.
use mathlib.Core.Path.{◌≡◌, refl, sym, ap, subst, ◌∙◌}
use mathlib.Core.List.{List, ◌++◌}
use Prim.Native.Nat.{ℕ, ◌+◌, ◌≤◌, ◌<◌, ◌-◌}
use native.Mathlib.Omega.{arith}
use lib.ListN.{length, get_or}
use mathlib.Core.Bool.{true}
use Rattle.basis.specs.Sizes.{branch_count_at, branches_at, count_width}
use Rattle.basis.specs.Logic.{true_is}
use Rattle.model.specs.Legal.{legal_body}
use Rattle.walk.specs.Walk.{body_is, body_count}
use Rattle.rewriter.specs.Copying.{Underway, fills_at, fills_ok, first_there, first_within, begin_turn, past_body, on_its_own}
use borrow.Author.Rules.{rules}
use Rattle.copier.proofs.copy_body.Goals as goal

-- a legal body has its head, and a branch at least
long : (b : List ℕ) → legal_body b ≡ true → branches_at ≤ length b
long b h = (body_is b (true_is (legal_body b) h)).long

count : (b : List ℕ) → legal_body b ≡ true → 1 ≤ get_or b branch_count_at 0
count b h = body_count b (true_is (legal_body b) h)

pub standing_operation-end-requires : goal.standing_operation-end-requires
standing_operation-end-requires c = first_there c.args.body.now (true_is (legal_body c.args.body.now) c.requires.0)

pub word2-process-requires : goal.word2-process-requires
word2-process-requires c = omega (arith, long c.args.body.now c.requires.0)

pub bounds-body-0 : goal.bounds-body-0
bounds-body-0 c = let h : 0 < length c.args.body.now = omega (arith, long c.args.body.now c.requires.0) in h

pub overflow_add-end : goal.overflow_add-end
overflow_add-end c =
    let h = first_within c.args.body.now (true_is (legal_body c.args.body.now) c.requires.0) c.standing_operation-end.result c.standing_operation-end.ensures in
    search rules

pub bounds-body-end : goal.bounds-body-end
bounds-body-end c = first_within c.args.body.now (true_is (legal_body c.args.body.now) c.requires.0) c.standing_operation-end.result c.standing_operation-end.ensures

pub bounds-body-3 : goal.bounds-body-3
bounds-body-3 c = long c.args.body.now c.requires.0

pub overflow_sub-size : goal.overflow_sub-size
overflow_sub-size c = omega (arith, c.size-2.ensures.0, count c.args.body.now c.requires.0)

pub unwrap-begun-requires : goal.unwrap-begun-requires
unwrap-begun-requires c =
    let b = c.args.body.now in
    fills_ok (begin_turn b (true_is (legal_body b) c.requires.0) c.standing_operation-end.result c.standing_operation-end.ensures c.args.out.now (λ k. (c.type_inv.body k).fits) c.requires.1
    _ _ refl c.word2-process.ensures c.begin_at.result c.begin_at.new.buffer c.begin_at.ensures)

pub copy_operations-c-requires : goal.copy_operations-c-requires
copy_operations-c-requires c =
    let b = c.args.body.now in
    let buffer = c.args.out.now in
    let others = get_or b branch_count_at 0 - 1 in
    let turn = begin_turn b (true_is (legal_body b) c.requires.0) c.standing_operation-end.result c.standing_operation-end.ensures buffer (λ k. (c.type_inv.body k).fits) c.requires.1
    _ _ refl c.word2-process.ensures c.begin_at.result c.begin_at.new.buffer c.begin_at.ensures in
    let begun : Underway b buffer (c.standing_operation-end.result.1 + count_width) c.size.result others c.unwrap-begun.result c.begin_at.new.buffer =
    subst (λ (m : ℕ). Underway b buffer (c.standing_operation-end.result.1 + count_width) m others c.unwrap-begun.result c.begin_at.new.buffer) (sym c.size.ensures.0) (fills_at turn c.unwrap-begun.result c.unwrap-begun.ensures) in
    (buffer, others, begun)

pub copy_branches-requires : goal.copy_branches-requires
copy_branches-requires c =
    let b = c.args.body.now in
    let buffer = c.args.out.now in
    let others = get_or b branch_count_at 0 - 1 in
    let turn = begin_turn b (true_is (legal_body b) c.requires.0) c.standing_operation-end.result c.standing_operation-end.ensures buffer (λ k. (c.type_inv.body k).fits) c.requires.1
    _ _ refl c.word2-process.ensures c.begin_at.result c.begin_at.new.buffer c.begin_at.ensures in
    let begun : Underway b buffer (c.standing_operation-end.result.1 + count_width) c.size.result others c.unwrap-begun.result c.begin_at.new.buffer =
    subst (λ (m : ℕ). Underway b buffer (c.standing_operation-end.result.1 + count_width) m others c.unwrap-begun.result c.begin_at.new.buffer) (sym c.size.ensures.0) (fills_at turn c.unwrap-begun.result c.unwrap-begun.ensures) in
    let first = c.copy_operations-c.ensures buffer others begun in
    let here = on_its_own b buffer _ _ _ _ _ first (c.copy_operations-c.auto.out ∙ c.begin_at.auto.buffer) in
    subst (λ (m : ℕ). Underway b c.copy_operations-c.new.out c.copy_operations-c.result.at 0 (m - 1) c.copy_operations-c.result.fill c.copy_operations-c.new.out) (sym c.size-2.ensures.0) here

pub returns : goal.returns
returns c =
    let b = c.args.body.now in
    let buffer = c.args.out.now in
    let others = get_or b branch_count_at 0 - 1 in
    let turn = begin_turn b (true_is (legal_body b) c.requires.0) c.standing_operation-end.result c.standing_operation-end.ensures buffer (λ k. (c.type_inv.body k).fits) c.requires.1
    _ _ refl c.word2-process.ensures c.begin_at.result c.begin_at.new.buffer c.begin_at.ensures in
    let begun : Underway b buffer (c.standing_operation-end.result.1 + count_width) c.size.result others c.unwrap-begun.result c.begin_at.new.buffer =
    subst (λ (m : ℕ). Underway b buffer (c.standing_operation-end.result.1 + count_width) m others c.unwrap-begun.result c.begin_at.new.buffer) (sym c.size.ensures.0) (fills_at turn c.unwrap-begun.result c.unwrap-begun.ensures) in
    let first = c.copy_operations-c.ensures buffer others begun in
    (c.copy_branches.ensures.0, c.copy_branches.ensures.1 ∙ ap (λ (l : List ℕ). b ++ l) (past_body b buffer _ _ _ _ _ first))
