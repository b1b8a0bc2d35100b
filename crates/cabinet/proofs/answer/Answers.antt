-- `cabinet::answer` meets its contract. Assumes nothing.
use Rattle.std.specs.Prelude.{take, T}
use Rattle.std.proofs.Common.{sym, ◌∙◌}
use Rattle.std.proofs.Math.Pow.{are_bytes}
use borrow.Author.Tests.{eqb-true, eqb-false}
use Rattle.basis.specs.NumberLaws.{bytes_of_lem}
use Rattle.calls.specs.Calls.{lent}
use Rattle.cabinet.specs.PrintedLaws.{answered_none, answered_call}
use Rattle.cabinet.proofs.answer.Goals as goal

pub returns-then-is_empty-clause-is_answered : goal.returns-then-is_empty-clause-is_answered
returns-then-is_empty-clause-is_answered c = answered_none (lent c.args.state.now c.args.«record».now c.args.reply.now) (eqb-true _ _ (sym c.is_empty.ensures ∙ c.if-is_empty.true))

pub returns-clause-is_answered : goal.returns-clause-is_answered
returns-clause-is_answered c =
    let r = c.replica_take-returned in
    let p = c.put_answer-end in
    let l = lent c.args.state.now c.args.«record».now c.args.reply.now in
    let bytes : T (are_bytes c.args.«record».now) = bytes_of_lem c.args.«record».now (λ i. (c.type_inv.«record» i).fits) in
    answered_call l r.result r.new.state r.new.reply (take p.result p.new.text) (eqb-false _ _ (sym c.is_empty.ensures ∙ c.if-is_empty.false)) r.ensures (λ returned reply. p.ensures.text_is l bytes returned reply c.requires)
