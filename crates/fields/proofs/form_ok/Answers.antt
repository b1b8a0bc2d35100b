-- `fields::form_ok` meets its contract. Assumes nothing.
use native.Mathlib.Omega.{arith}
use Rattle.fields.specs.Forms.{allows_given, allows_formal, allows_reference, allows_sum, allows_anonymous, allows_range}
use Rattle.fields.proofs.form_ok.Goals as goal

pub returns-in-0 : goal.returns-in-0
returns-in-0 c = allows_given c.args.code c.args.form c.in-0.is

pub returns-in-1 : goal.returns-in-1
returns-in-1 c = allows_formal c.args.code c.args.form c.in-1.is

pub returns-in-2 : goal.returns-in-2
returns-in-2 c = allows_reference c.args.code c.args.form c.in-2.is

pub returns-in-5 : goal.returns-in-5
returns-in-5 c = allows_anonymous c.args.code c.args.form c.in-5.is

pub returns-in-3 : goal.returns-in-3
returns-in-3 c = allows_sum c.args.code c.args.form (omega arith) (omega arith)

pub returns-in_default : goal.returns-in_default
returns-in_default c = allows_range c.args.code c.args.form (omega arith)
