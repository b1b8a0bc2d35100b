-- `framing::refusal_at` meets its contract. Assumes nothing.
use native.Mathlib.Omega.{arith}
use Rattle.framing.specs.FrameLaws.{some_long, at_2, at_3, at_turn}
use Rattle.framing.proofs.refusal_at.Goals as goal

pub returns-then-reply-lt-REPLY : goal.returns-then-reply-lt-REPLY
returns-then-reply-lt-REPLY c = let a = c.args in at_2 a.last a.input.now a.reply.now (omega (arith, c.if-reply-lt-REPLY.true))

pub returns-then-not-is_record : goal.returns-then-not-is_record
returns-then-not-is_record c =
    let a = c.args in
    let i = c.is_record in
    at_3 a.last a.input.now a.reply.now i.result (omega (arith, c.if-reply-lt-REPLY.false)) i.ensures c.if-not-is_record.true

pub number-position-requires : goal.number-position-requires
number-position-requires c =
    let i = c.is_record in
    omega (arith, some_long c.args.input.now i.result i.ensures c.if-not-is_record.false)

pub returns : goal.returns
returns c =
    let a = c.args in
    let i = c.is_record in
    let p = c.number-position in
    at_turn a.last a.input.now a.reply.now i.result p.result _ (omega (arith, c.if-reply-lt-REPLY.false)) i.ensures c.if-not-is_record.false p.ensures.0 c.out_of_turn.ensures
