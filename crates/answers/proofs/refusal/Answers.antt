-- `answers::refusal` meets its contract. Assumes nothing.
use mathlib.Core.Path.{sym, ◌∙◌}
use lib.ListN.{length}
use Rattle.model.specs.Legal.{legal_body}
use Rattle.answers.specs.Settled.{refusal_legal, refusal_room, refusal_none}
use Rattle.answers.proofs.refusal.Goals as goal

pub returns-then-not-body_ok : goal.returns-then-not-body_ok
returns-then-not-body_ok c =
    let b = c.args.body.now in
    refusal_legal (legal_body b) (length b) c.args.room (sym c.body_ok.ensures ∙ c.if-not-body_ok.true)

pub returns-then-room-body : goal.returns-then-room-body
returns-then-room-body c =
    let b = c.args.body.now in
    refusal_room (legal_body b) (length b) c.args.room (sym c.body_ok.ensures ∙ c.if-not-body_ok.false) c.if-room-body.true

pub returns : goal.returns
returns c =
    let b = c.args.body.now in
    refusal_none (legal_body b) (length b) c.args.room (sym c.body_ok.ensures ∙ c.if-not-body_ok.false) c.if-room-body.false
