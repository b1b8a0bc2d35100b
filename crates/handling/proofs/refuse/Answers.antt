-- `handling::refuse` meets its contract. Assumes nothing.
use Rattle.handling.specs.AnswerLaws.{refused_turned}
use Rattle.handling.proofs.refuse.Goals as goal

pub returns : goal.returns
returns c =
    let a = c.args in
    refused_turned a.state.now a.out.now c.plain_reply.new.out c.last.result a.host a.process a.outcome c.plain_reply.result c.requires.0 c.last.ensures.0 c.plain_reply.ensures
