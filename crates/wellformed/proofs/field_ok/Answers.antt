-- `wellformed::field_ok` meets its contract. Assumes nothing.
use borrow.Author.Tests.{eq-eqb, ne_eqb}
use Rattle.std.proofs.Common.{◌∙◌}
use Rattle.wellformed.specs.FieldLaws.{value_small, field_whole, field_used, field_zero, field_kind}
use Rattle.wellformed.proofs.field_ok.Goals as goal

pub returns-then-kind-eq-WHOLE : goal.returns-then-kind-eq-WHOLE
returns-then-kind-eq-WHOLE c =
    let a = c.args in
    eq-eqb _ _ c.if-kind-eq-WHOLE.true ∙ field_whole _ _ _ c.kind-kind.ensures (value_small a.tuples.now a.i a.f (λ k. (c.type_inv.tuples k).fits)) c.if-used.true c.if-kind-eq-WHOLE.true

pub returns-else-kind-eq-WHOLE : goal.returns-else-kind-eq-WHOLE
returns-else-kind-eq-WHOLE c = field_used _ _ _ c.kind-kind.ensures _ c.bits.ensures _ c.if-used.true c.legal_value.ensures

pub returns-then-kind-eq0 : goal.returns-then-kind-eq0
returns-then-kind-eq0 c = field_zero _ _ _ c.kind-kind.ensures _ c.bits-then-kind-eq0.ensures c.if-used.false c.if-kind-eq0.true

pub returns-else-kind-eq0 : goal.returns-else-kind-eq0
returns-else-kind-eq0 c = ne_eqb _ _ c.if-kind-eq0.false ∙ field_kind _ _ _ c.kind-kind.ensures c.if-used.false c.if-kind-eq0.false
