-- `replies::ran_reply` meets its contract. Assumes nothing.
use mathlib.Core.List.{[]}
use native.Mathlib.Omega.{arith}
use borrow.Author.Tests.{eq-eqb, ne_eqb}
use Rattle.basis.specs.Sizes.{variables}
use Rattle.replies.specs.Written.{bound_to}
use Rattle.replies.specs.WrittenLaws.{wrote, put_none, ran_failed, ran_done}
use borrow.Author.Rules.{rules}
use Rattle.replies.proofs.ran_reply.Goals as goal

pub returns-then-outcome-ne0 : goal.returns-then-outcome-ne0
returns-then-outcome-ne0 c =
    let a = c.args in
    rw (ran_failed a.outcome a.values.now (ne_eqb a.outcome 0 c.if-outcome-ne0.true))
    (wrote a.position a.host a.process a.outcome a.branch [] a.out.now a.out.now c.put_head.new.out 0 (search rules) (put_none a.out.now) c.put_head.ensures)

pub returns : goal.returns
returns c =
    let a = c.args in
    let p = c.put_values-count.ensures in
    rw (ran_done a.outcome a.values.now (eq-eqb a.outcome 0 c.if-outcome-ne0.false))
    (wrote a.position a.host a.process a.outcome a.branch (bound_to variables a.values.now) a.out.now c.put_values-count.new.out c.put_head-2.new.out c.put_values-count.result
    (omega (arith, p.few, c.requires)) p c.put_head-2.ensures)
