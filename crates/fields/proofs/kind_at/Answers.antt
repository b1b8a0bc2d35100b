-- `fields::kind_at` meets its contract. Assumes nothing.
use Rattle.std.proofs.Common.{sym, arith, ltb-false}
use Rattle.std.proofs.lemmas.Grind.{common_steps}
use Rattle.fields.specs.Kinds.{kind_in_lem, kind_past}
use Rattle.fields.proofs.kind_at.Goals as goal

pub returns-in_err-get : goal.returns-in_err-get
returns-in_err-get c = let h = c.in_err-get.ensures in rw c.from_residual.ensures (sym (kind_past c.args.kinds.now c.args.variable (omega (arith, c.size.ensures.0, ltb-false _ _ (sym c.in_err-get.ensures.lookup.0)))))

pub returns : goal.returns
returns c = grind (arith, common_steps, kind_in_lem)
