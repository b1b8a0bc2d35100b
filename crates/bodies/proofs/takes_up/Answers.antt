-- `bodies::takes_up` meets its contract. Assumes nothing.
use Rattle.std.proofs.Common.{sym, ap, ℕ}
use Rattle.std.specs.Prelude as code
use Rattle.basis.specs.Choice.{given}
use Rattle.bodies.specs.BodyLaws.{ends_at}
use Rattle.bodies.proofs.takes_up.Goals as goal

pub returns-in-Some : goal.returns-in-Some
unfolding ends_at
returns-in-Some c = sym (ap (λ (r : code.Option ℕ). ends_at (given r) c.args.n) c.in-Some.is)

pub returns-in-None : goal.returns-in-None
unfolding ends_at
returns-in-None c = sym (ap (λ (r : code.Option ℕ). ends_at (given r) c.args.n) c.in-None.is)
