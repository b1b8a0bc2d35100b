-- `replies::plain_reply` meets its contract. Assumes nothing.
use mathlib.Core.List.{[]}
use Rattle.replies.specs.WrittenLaws.{wrote, put_none}
use borrow.Author.Rules.{rules}
use Rattle.replies.proofs.plain_reply.Goals as goal

pub returns : goal.returns
returns c = let a = c.args in wrote a.position a.host a.process a.outcome 0 [] a.out.now a.out.now c.put_head.new.out 0 (search rules) (put_none a.out.now) c.put_head.ensures
