-- `statements::field_end` meets its contract. Assumes nothing.
use mathlib.Core.Path.{sym, ap, ◌∙◌}
use native.Mathlib.Omega.{arith}
use Rattle.std.proofs.Common.{ltb-false}
use Rattle.statements.specs.Fields.{width_of, end_past, end_no_form, end_short, end_there}
use Rattle.statements.proofs.field_end.Goals as goal

pub returns-in_err-get : goal.returns-in_err-get
returns-in_err-get c = let h = c.in_err-get.ensures in rw c.from_residual.ensures (sym (end_past _ _ (ltb-false _ _ (sym h.lookup.0))))

pub returns-in_err-width : goal.returns-in_err-width
returns-in_err-width c = let h = c.in_ok-get.ensures.lookup.3 in
    let w = c.in_err-width.ensures in
    rw c.from_residual-in_err-width.ensures (sym (end_no_form _ _ h.0 (ap width_of (sym (h.1 0)) ∙ sym w)))

pub returns-then-b-at : goal.returns-then-b-at
returns-then-b-at c = let h = c.in_ok-get.ensures.lookup.3 in
    let w = c.in_ok-width.ensures in
    sym (end_short _ _ c.in_ok-width.width h.0 (ap width_of (sym (h.1 0)) ∙ sym w) (omega (arith, h.0, c.if-b-at.true)))

pub returns : goal.returns
returns c = let h = c.in_ok-get.ensures.lookup.3 in
    let w = c.in_ok-width.ensures in
    sym (end_there _ _ (record { width = c.in_ok-width.width; is = ap width_of (sym (h.1 0)) ∙ sym w; fits = omega (arith, h.0, c.if-b-at.false) }))
