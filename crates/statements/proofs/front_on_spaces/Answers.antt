-- `statements::front_on_spaces` meets its contract. Assumes nothing.
use mathlib.Core.Path.{refl}
use native.Mathlib.Omega.{arith}
use Rattle.statements.specs.Front.{front_short, front_many, front_there}
use Rattle.statements.proofs.front_on_spaces.Goals as goal

pub returns-then-b-at : goal.returns-then-b-at
returns-then-b-at c =
    front_short c.args.b.now c.args.at c.args.code c.requires.0 c.requires.2 c.spaces_width-width.result c.spaces_width-width.ensures.0 (omega (arith, c.requires.1, c.if-b-at.true))

pub returns-then-count-gt-MOST_FIELDS : goal.returns-then-count-gt-MOST_FIELDS
returns-then-count-gt-MOST_FIELDS c =
    front_many c.args.b.now c.args.at c.args.code c.requires.0 c.requires.2 c.spaces_width-width.result c.spaces_width-width.ensures.0 (omega (arith, c.requires.1, c.if-b-at.false)) (omega (arith, c.size-count.ensures.0, c.if-count-gt-MOST_FIELDS.true))

pub returns : goal.returns
returns c = front_there c.args.b.now c.args.at c.args.code c.requires.0 c.requires.2 c.spaces_width-width.result c.spaces_width-width.ensures.0 _
    (omega (arith, c.requires.1, c.if-b-at.false)) refl refl c.space_number-first.ensures c.second_space-second.ensures c.size-count.ensures.0 c.if-count-gt-MOST_FIELDS.false
