-- `spans::zero_run` meets its contract. Assumes nothing.
use Rattle.std.proofs.Common.{◌≡◌, ℕ, ◌+◌, ◌-◌, ◌&&◌, List, take, drop, sym, ap, ◌∙◌, arith}
use Rattle.std.proofs.lemmas.List.{drop_all}
use Rattle.basis.specs.Lists.{all}
use Rattle.words.specs.Over.{zeros_at}
use Rattle.spans.proofs.Zeros.{are_zero, zero_pieces, zero_next}
use Rattle.spans.proofs.zero_run.Goals as goal

pub loop-piece-init : goal.loop-piece-init
unfolding zeros_at
loop-piece-init c =
    let a = c.args in
    let e : a.n ≡ a.at + a.n - a.at = omega arith in
    let part = take (a.at + a.n - a.at) (drop a.at a.s.now) in
    rw (c.as_chunks.ensures.front, c.as_chunks.ensures.back) (ap (λ (k : ℕ). are_zero (take k (drop a.at a.s.now))) e ∙ sym (zero_pieces 256 _ part))

pub returns-then-not-is_zero : goal.returns-then-not-is_zero
returns-then-not-is_zero c = sym (c.loop-piece.invariant ∙ zero_next _ _ _ _ _ c.loop-piece-test.true c.is_zero.ensures c.if-not-is_zero.true)

pub loop-piece-preserved : goal.loop-piece-preserved
loop-piece-preserved c = c.loop-piece.invariant ∙ zero_next _ _ _ _ _ c.loop-piece-test.true c.is_zero.ensures c.if-not-is_zero.false

pub returns : goal.returns
unfolding all
returns c =
    let pieces = c.as_chunks.result.0.now in
    c.is_zero-2.ensures ∙ sym (c.loop-piece.invariant ∙ ap (λ (l : List (List ℕ)). all are_zero l && are_zero c.as_chunks.result.1.now) (drop_all c.loop-piece.piece-index pieces (omega arith)))
