-- `statements::read_front` meets its contract. Assumes nothing.
use mathlib.Core.Path.{refl, sym, ◌∙◌}
use native.Mathlib.Omega.{arith}
use Rattle.std.proofs.Common.{ltb-false}
use Rattle.statements.specs.Front.{fronts_as, front_always}
use Rattle.statements.specs.Operations.{operation_past, operation_after, operation_none}
use Rattle.statements.proofs.read_front.Goals as goal

pub returns-in_err-code : goal.returns-in_err-code
returns-in_err-code c = let h = c.in_err-code.ensures in rw c.from_residual.ensures (sym (operation_past c.args.b.now c.args.at (ltb-false _ _ (sym h.lookup.0))))

pub returns-in-0 : goal.returns-in-0
returns-in-0 c = let h = c.in_ok-code.ensures.lookup.3 in front_always _ c.args.b.now c.args.at h.0 (sym (h.1 0) ∙ c.in-0.is) refl c.in-0.is refl

pub returns-in-0-to-7 : goal.returns-in-0-to-7
returns-in-0-to-7 c = let h = c.in_ok-code.ensures.lookup.3 in
    fronts_as c.front_on_spaces.result c.args.b.now _ _ c.front_on_spaces.ensures (rw (h.1 0) (sym (operation_after c.args.b.now c.args.at h.0)))

pub returns-in_default : goal.returns-in_default
returns-in_default c = let h = c.in_ok-code.ensures.lookup.3 in
    sym (operation_none c.args.b.now c.args.at h.0 (omega (arith, h.1 0)))
