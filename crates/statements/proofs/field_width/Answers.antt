-- `statements::field_width` meets its contract. Assumes nothing.
use mathlib.Core.Path.{sym, ap}
use native.Mathlib.Omega.{arith}
use Rattle.statements.specs.Fields.{width_of, width_sum, width_past}
use Rattle.statements.proofs.field_width.Goals as goal

pub returns-in-0 : goal.returns-in-0
unfolding width_of
returns-in-0 c = sym (ap width_of c.in-0.is)

pub returns-in-1 : goal.returns-in-1
unfolding width_of
returns-in-1 c = sym (ap width_of c.in-1.is)

pub returns-in-2 : goal.returns-in-2
unfolding width_of
returns-in-2 c = sym (ap width_of c.in-2.is)

pub returns-in-5 : goal.returns-in-5
unfolding width_of
returns-in-5 c = sym (ap width_of c.in-5.is)

pub returns-in-6 : goal.returns-in-6
unfolding width_of
returns-in-6 c = sym (ap width_of c.in-6.is)

pub returns-in-3 : goal.returns-in-3
returns-in-3 c = sym (width_sum c.args.form (omega arith) (omega arith))

pub returns-in_default : goal.returns-in_default
returns-in_default c = sym (width_past c.args.form (omega arith))
