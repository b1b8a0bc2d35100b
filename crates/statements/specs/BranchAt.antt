-- A branch at a position: its guard, the count of its body, and the body. Assumes nothing.
use Rattle.std.specs.Prelude.{◌≡◌, ℕ, ◌+◌, ◌-◌, ◌≤◌, ◌<◌, ◌⊎◌, List, length, drop, get_or}
use Rattle.std.proofs.Common.{sym, ap, ◌∙◌, arith, inl, inr}
use Rattle.std.proofs.Math.Option.{some, some-injective, none-ne-some}
use Rattle.basis.specs.Sizes.{count_width}
use Rattle.model.specs.Statement.{Operation, Branch}
use Rattle.model.specs.Reading.{◌>>=◌, give, byte, several, counted, operation, branch}
use Rattle.model.proofs.ReadBack.{then_some, several_length}
use Rattle.statements.specs.At.{which, suffix_at}
use Rattle.statements.specs.Fixed.{fixed_byte}
use Rattle.statements.specs.Operations.{suffix_operation}

pub record BranchAt (b : List ℕ) (at : ℕ) (br : Branch) (rest : List ℕ) : Type 0 where
  pub end : ℕ
  pub within : end < length b
  pub guard : operation (drop at b) ≡ some (br.guard, drop end b)
  pub count : get_or b end 0 ≡ length br.body
  pub body : several operation (length br.body) (drop (end + count_width) b) ≡ some (br.body, rest)

pub branch_at_lem : (b : List ℕ) (at : ℕ) (br : Branch) (rest : List ℕ) → branch (drop at b) ≡ some (br, rest) → BranchAt b at br rest
unfolding branch give counted
branch_at_lem b at br rest e =
    let r = then_some operation (λ g. counted operation >>= λ os. give (record { guard = g; body = os })) (drop at b) (br, rest) e in
    let q = then_some (counted operation) (λ os. give (record { guard = r.item; body = os })) r.left (br, rest) r.later in
    let t = then_some byte (several operation) r.left (q.item, q.left) q.first in
    let same = some-injective (record { guard = r.item; body = q.item }, q.left) (br, rest) q.later in
    let g : r.item ≡ br.guard = ap (λ (x : Branch × List ℕ). x.0.guard) same in
    let os : q.item ≡ br.body = ap (λ (x : Branch × List ℕ). x.0.body) same in
    let left : q.left ≡ rest = ap (λ (x : Branch × List ℕ). x.1) same in
    let stop : drop (length b - length r.left) b ≡ r.left = suffix_at operation suffix_operation b at r.item r.left r.first in
    let first : operation (drop at b) ≡ some (br.guard, drop (length b - length r.left) b) = r.first ∙ ap (λ (o : Operation). some (o, r.left)) g ∙ ap (λ (s : List ℕ). some (br.guard, s)) (sym stop) in
    let read : byte (drop (length b - length r.left) b) ≡ some (t.item, t.left) = ap byte stop ∙ t.first in
    let n : length br.body ≡ t.item = ap length (sym os) ∙ several_length operation t.item t.left q.left q.item t.later in
    let all : several operation t.item t.left ≡ some (br.body, rest) = t.later ∙ (λ i. some (os i, left i)) in
    counted_at (length b - length r.left) first t.item t.left read n all (which (length b - length r.left + count_width) (length b))
  where
    counted_at : (end : ℕ) → operation (drop at b) ≡ some (br.guard, drop end b) → (n : ℕ) (s : List ℕ) → byte (drop end b) ≡ some (n, s) → length br.body ≡ n
        → several operation n s ≡ some (br.body, rest) → (end + count_width ≤ length b) ⊎ (length b < end + count_width) → BranchAt b at br rest
    counted_at end f n s e l a (inl h) =
        let same = some-injective (get_or b end 0, drop (end + count_width) b) (n, s) (sym (fixed_byte.enough b end h) ∙ e) in
        let x : get_or b end 0 ≡ n = ap (λ (z : ℕ × List ℕ). z.0) same in
        let y : drop (end + count_width) b ≡ s = ap (λ (z : ℕ × List ℕ). z.1) same in
        record { end = end; within = omega arith; guard = f; count = x ∙ sym l; body = rw (l, y) a }
    counted_at end f n s e l a (inr h) = absurd (none-ne-some (n, s) (sym (fixed_byte.short b end h) ∙ e))
