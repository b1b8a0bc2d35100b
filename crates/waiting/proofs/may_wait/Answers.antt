-- `waiting::may_wait` meets its contract. Assumes nothing.
use mathlib.Core.Path.{◌∙◌}
use borrow.Author.Tests.{not-true}
use Rattle.model.specs.Run.{Waiting}
use Rattle.queue.specs.PlaceLaws.{waiting_nth}
use Rattle.queue.specs.Bodies.{row_within, body_within, body_legal_lem, body_statement}
use Rattle.waiting.specs.WaitLaws.{no_host, then_waits}
use Rattle.waiting.proofs.may_wait.Goals as goal
use Rattle.waiting.proofs.may_wait.Goals.{After-has_host}

-- its host was looked at
module _ (c : After-has_host) where
  abbrev entry : Waiting
  entry = waiting_nth c.args.waiting.now c.args.n c.args.i

pub returns-then-not-has_host : goal.returns-then-not-has_host
returns-then-not-has_host c =
    no_host _ _ _ _ (entry (goal.at.returns-then-not-has_host c).After-has_host) _ c.host.ensures.0 c.has_host.ensures (not-true c.has_host.result c.if-not-has_host.true-raw)

pub body_length-len-requires : goal.body_length-len-requires
body_length-len-requires c = row_within _ _ _ c.requires.0 c.requires.1

pub slice_bounds-waits-end : goal.slice_bounds-waits-end
slice_bounds-waits-end c = body_within _ _ _ c.requires.0 c.requires.1 _ _ c.body_length-len.ensures.0 c.body_at-at.ensures

pub waits-requires : goal.waits-requires
waits-requires c =
    (body_legal_lem _ _ _ c.requires.0 c.requires.1 _ _ c.body_length-len.ensures.0 c.body_at-at.ensures, c.requires.2, c.requires.3, c.requires.4, c.requires.5)

pub returns : goal.returns
returns c =
    c.waits.ensures
    ∙ then_waits _ _ _ _ (entry (goal.at.returns c).After-has_host) _ c.host.ensures.0 c.has_host.ensures c.if-not-has_host.false _ _ c.process-process.ensures
    (body_statement c.args.waiting.now c.args.n c.args.i c.requires.0 c.requires.1 _ _ c.body_length-len.ensures.0 c.body_at-at.ensures)
