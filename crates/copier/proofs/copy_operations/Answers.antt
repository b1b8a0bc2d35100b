-- `copier::copy_operations` meets its contract. Assumes nothing.
use Rattle.std.proofs.Common.{◌≡◌, ℕ, suc, ◌+◌, ◌-◌, ◌<◌, List, subst, arith}
use Rattle.walk.specs.Walk.{next_there}
use Rattle.rewriter.specs.Copying.{Underway, fills_at, fills_ok, operation_turn}
use Rattle.copier.proofs.copy_operations.Goals as goal

-- an operation is left: it and the others
one_more : (b buffer : List ℕ) (at i n later fill : ℕ) (out : List ℕ) → i < n → Underway b buffer at (n - i) later fill out → Underway b buffer at (suc (n - (i + 1))) later fill out
one_more b buffer at i n later fill out h u =
    let e : n - i ≡ suc (n - (i + 1)) = omega arith in
    subst (λ (m : ℕ). Underway b buffer at m later fill out) e u

pub standing_operation-end-requires : goal.standing_operation-end-requires
standing_operation-end-requires c =
    let h = c.requires in
    next_there _ _ _ (one_more _ _ _ _ _ _ _ _ c.loop-test.true (c.loop.invariant h.0 h.1 h.2)).ahead.operations

pub loop-init : goal.loop-init
loop-init c buffer later u =
    let all : c.args.count ≡ c.args.count - 0 = omega arith in
    subst (λ (n : ℕ). Underway c.args.body.now buffer c.args.at n later c.args.fill c.args.out.now) all u

pub unwrap-filled-requires : goal.unwrap-filled-requires
unwrap-filled-requires c =
    let h = c.requires in
    fills_ok (operation_turn c.args.body.now h.0 c.loop.next (c.args.count - (c.loop.counter + 1)) h.1 c.loop.filled c.loop.out
    (one_more _ _ _ _ _ _ _ _ c.loop-test.true (c.loop.invariant h.0 h.1 h.2)) c.standing_operation-end.result c.standing_operation-end.ensures c.operation_at.result c.operation_at.new.buffer c.operation_at.ensures)

pub loop-preserved : goal.loop-preserved
loop-preserved c buffer later u =
    fills_at (operation_turn c.args.body.now buffer c.loop.next (c.args.count - (c.loop.counter + 1)) later c.loop.filled c.loop.out
    (one_more _ _ _ _ _ _ _ _ c.loop-test.true (c.loop.invariant buffer later u)) c.standing_operation-end.result c.standing_operation-end.ensures c.operation_at.result c.operation_at.new.buffer c.operation_at.ensures)
    c.unwrap-filled.result c.unwrap-filled.ensures

pub returns : goal.returns
returns c buffer later u =
    let end : c.args.count - c.loop.counter ≡ 0 = omega (arith, c.loop-test.false) in
    subst (λ (n : ℕ). Underway c.args.body.now buffer c.loop.next n later c.loop.filled c.loop.out) end (c.loop.invariant buffer later u)
