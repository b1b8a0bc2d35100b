-- `values::rank_of` meets its contract. Assumes nothing.
use Rattle.values.specs.Ranks.{rank_other, rank_metres, rank_negative}
use Rattle.values.proofs.rank_of.Goals as goal

pub returns-then-bits-lt-SIGN : goal.returns-then-bits-lt-SIGN
returns-then-bits-lt-SIGN c = let a = c.args in rank_other a.kind a.bits c.if-bits-lt-SIGN.true

pub returns-then-kind-eq-METRES : goal.returns-then-kind-eq-METRES
returns-then-kind-eq-METRES c = let a = c.args in rank_metres a.kind a.bits c.if-bits-lt-SIGN.false c.if-kind-eq-METRES.true

pub returns-else-kind-eq-METRES : goal.returns-else-kind-eq-METRES
returns-else-kind-eq-METRES c = let a = c.args in rank_negative a.kind a.bits c.if-bits-lt-SIGN.false c.if-kind-eq-METRES.false
