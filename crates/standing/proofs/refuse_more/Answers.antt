-- `standing::refuse_more` meets its contract. Assumes nothing.
use Rattle.layout.specs.States.{decode}
use Rattle.order.specs.RefusalLaws.{spaces_used, numbers_used, numbers_left}
use Rattle.standing.proofs.refuse_more.Goals as goal

pub returns-then-space_count-ge-MOST_SPACES : goal.returns-then-space_count-ge-MOST_SPACES
returns-then-space_count-ge-MOST_SPACES c =
    spaces_used (decode c.args.state.now) _ c.space_count.ensures.0 c.if-space_count-ge-MOST_SPACES.true

pub returns-then-next-ge-SPACE_NUMBERS : goal.returns-then-next-ge-SPACE_NUMBERS
returns-then-next-ge-SPACE_NUMBERS c =
    numbers_used (decode c.args.state.now) _ c.space_count.ensures.0 _ c.next.ensures.0 c.if-space_count-ge-MOST_SPACES.false c.if-next-ge-SPACE_NUMBERS.true

pub returns : goal.returns
returns c =
    numbers_left (decode c.args.state.now) _ c.space_count.ensures.0 _ c.next.ensures.0 c.if-space_count-ge-MOST_SPACES.false c.if-next-ge-SPACE_NUMBERS.false
