-- `replies::number_reply` meets its contract. Assumes nothing.
use Rattle.model.specs.Value.{value}
use Rattle.model.specs.Step.{in_variable0}
use Rattle.replies.specs.WrittenLaws.{wrote, put_one}
use borrow.Author.Rules.{rules}
use Rattle.replies.proofs.number_reply.Goals as goal

pub returns : goal.returns
unfolding in_variable0
returns c = let a = c.args in
    wrote a.position a.host a.process 0 0 (in_variable0 a.n) a.out.now c.put_value.new.out c.put_head.new.out 1 (search rules) (put_one a.out.now c.put_value.new.out (0, value 0 a.n) c.put_value.ensures) c.put_head.ensures
