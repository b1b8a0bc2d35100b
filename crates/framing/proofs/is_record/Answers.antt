-- `framing::is_record` meets its contract. Assumes nothing.
use native.Mathlib.Omega.{arith}
use Rattle.framing.specs.FrameLaws.{record_short, record_unmarked, record_sized}
use Rattle.framing.proofs.is_record.Goals as goal

pub returns-then-input-lt-BODY_AT : goal.returns-then-input-lt-BODY_AT
returns-then-input-lt-BODY_AT c = record_short c.args.input.now c.if-input-lt-BODY_AT.true

pub mark_of-requires : goal.mark_of-requires
mark_of-requires c = omega (arith, c.if-input-lt-BODY_AT.false)

pub returns-then-is_none : goal.returns-then-is_none
returns-then-is_none c = record_unmarked c.args.input.now c.mark_of.result c.mark_of.ensures c.if-is_none.ensures

pub number-requires : goal.number-requires
number-requires c = omega (arith, c.if-input-lt-BODY_AT.false)

pub returns : goal.returns
returns c = record_sized c.args.input.now c.mark_of.result c.number.result c.mark_of.ensures c.if-is_none.ensures c.number.ensures.0
