-- `framing::out_of_turn` meets its contract. Assumes nothing.
use native.Mathlib.Omega.{arith}
use Rattle.framing.specs.FrameLaws.{turn_4, turn_5, turn_next}
use Rattle.framing.proofs.out_of_turn.Goals as goal

pub returns-then-position-last : goal.returns-then-position-last
returns-then-position-last c = turn_4 c.args.last c.args.position (omega (arith, c.if-position-last.true))

pub overflow_sub-position : goal.overflow_sub-position
overflow_sub-position c = omega (arith, c.if-position-last.false)

pub returns-then-position-last-gt1 : goal.returns-then-position-last-gt1
returns-then-position-last-gt1 c = turn_5 c.args.last c.args.position (omega (arith, c.if-position-last.false)) (omega (arith, c.if-position-last-gt1.true))

pub returns : goal.returns
returns c = turn_next c.args.last c.args.position (omega (arith, c.if-position-last.false)) (omega (arith, c.if-position-last-gt1.false))
