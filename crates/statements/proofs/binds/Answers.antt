-- `statements::binds` meets its contract. Assumes nothing.
use Rattle.std.proofs.Common.{eq-eqb}
use Rattle.statements.specs.Binds.{formal_binds, last_binds}
use Rattle.statements.proofs.binds.Goals as goal

pub returns-then-f-eq1 : goal.returns-then-f-eq1
returns-then-f-eq1 c = rw (eq-eqb c.args.f.form 1 c.if-f-eq1.true) (formal_binds c.args.f c.if-f-eq1.true)

pub returns-else-f-eq1 : goal.returns-else-f-eq1
returns-else-f-eq1 c = last_binds c.args.f c.if-f-eq1.false
