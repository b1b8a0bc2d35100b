-- `bindings::asked` meets its contract. Assumes nothing.
use Rattle.bindings.specs.Variables.{bindings_of}
use Rattle.bindings.specs.Templates.{asks_actual, asks_reference, asks_last}
use Rattle.bindings.proofs.asked.Goals as goal

pub returns-then-f-eq0 : goal.returns-then-f-eq0
returns-then-f-eq0 c = asks_actual (bindings_of c.args.v.now) c.args.f c.if-f-eq0.true

pub returns-then-f-eq2 : goal.returns-then-f-eq2
returns-then-f-eq2 c =
    asks_reference (bindings_of c.args.v.now) c.args.f c.if-f-eq2.true c.held-h.result.kind c.held-h.result.bits c.held-h.ensures

pub returns : goal.returns
returns c =
    asks_last (bindings_of c.args.v.now) c.args.f c.if-f-eq0.false c.if-f-eq2.false
