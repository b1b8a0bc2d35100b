-- `matching::may_match` meets its contract. Assumes nothing.
use mathlib.Core.Path.{sym}
use mathlib.Core.Bool.{true≢false}
use native.Mathlib.Omega.{arith}
use Rattle.tuples.specs.Entry.{value_in}
use Rattle.tuples.specs.Section.{tuple_at}
use Rattle.matching.specs.SearchLaws.{value_other, value_differs, match_space}
use Rattle.matching.proofs.may_match.Goals as goal

pub returns-then-space-template : goal.returns-then-space-template
returns-then-space-template c = λ z.
    sym (match_space c.args.template (tuple_at c.args.tuples.now c.args.i) _ c.space-space.ensures c.if-space-template.true)

pub returns-then-bits-lowest : goal.returns-then-bits-lowest
returns-then-bits-lowest c = λ z.
    let a = c.args in
    value_differs a.template a.tuples.now a.i c.values.e c.requires.1 (omega (arith, c.values.invariant, c.if-e-template.false))
    (value_other a.template c.values.e (value_in a.tuples.now a.i c.values.e) _ c.bits.ensures c.if-template-e.true c.if-lowest-template.true c.if-bits-lowest.true)

pub values-preserved : goal.values-preserved
values-preserved c = omega (arith, c.values.invariant, c.if-e-template.false)

pub returns-after-values : goal.returns-after-values
returns-after-values c = λ z. absurd (true≢false z)

pub returns-then-e-template : goal.returns-then-e-template
returns-then-e-template c = λ z. absurd (true≢false z)
