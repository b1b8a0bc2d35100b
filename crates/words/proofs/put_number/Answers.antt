-- `words::put_number` meets its contract. Assumes nothing.
use Rattle.std.proofs.Common.{◌≡◌, ◌∙◌, ℕ, ◌+◌, ◌-◌, sym, ap, arith, length, length-set}
use Rattle.basis.specs.Numbers.{big_endian}
use Rattle.words.specs.Over.{over}
use Rattle.words.specs.Widths.{writing_more, writing_end}
use Rattle.words.proofs.put_number.Goals as goal

pub loop-i-preserved : goal.loop-i-preserved
loop-i-preserved c =
    let h = c.loop-i in
    let a = c.args in
    let e : h.i - 1 + 1 ≡ h.i = omega arith in
    let l : length h.d ≡ length a.d.now = h.invariant.0 in
    (simp length-set l, writing_more h.d a.at (h.i - 1) h.left (omega arith) ∙ (ap (λ (k : ℕ). over h.d a.at (big_endian k h.left) k) e ∙ h.invariant.1))

pub returns : goal.returns
returns c =
    let h = c.loop-i in
    let at = c.args.at in
    let e : h.i ≡ 0 = omega arith in
    sym (writing_end h.d at h.left) ∙ (ap (λ (k : ℕ). over h.d at (big_endian k h.left) k) (sym e) ∙ h.invariant.1)
