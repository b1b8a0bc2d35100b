-- `additions::begin_at` meets its contract. Assumes nothing.
use Rattle.std.proofs.Common.{sym, ◌∙◌}
use Rattle.answers.specs.Settled.{refused_is}
use Rattle.additions.specs.AdditionLaws.{begin_no, begin_done}
use Rattle.additions.proofs.begin_at.Goals as goal

pub returns-then-not-is_handed : goal.returns-then-not-is_handed
returns-then-not-is_handed c =
    let a = c.args in
    refused_is 6 a.buffer.now 0 ∙ begin_no a.buffer.now a.host a.process a.guard (sym c.is_handed.ensures ∙ c.if-not-is_handed.true)

pub returns : goal.returns
returns c =
    let a = c.args in
    begin_done a.buffer.now a.host a.process a.guard _ _ (sym c.is_handed.ensures ∙ c.if-not-is_handed.false) c.compose_begun-n.ensures.1 c.settle.ensures
