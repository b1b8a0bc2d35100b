-- `fields::sum_ok` meets its contract. Assumes nothing.
use Rattle.std.proofs.Common.{arith, ne_eqb, eq-eqb}
use Rattle.std.proofs.lemmas.Grind.{common_steps}
use Rattle.model.specs.Legal.{summable}
use Rattle.fields.proofs.sum_ok.Goals as goal

pub returns-then-kind-ne-NAME : goal.returns-then-kind-ne-NAME
unfolding summable
returns-then-kind-ne-NAME c = grind (arith, common_steps, ne_eqb, eq-eqb)

pub returns-else-kind-ne-NAME : goal.returns-else-kind-ne-NAME
unfolding summable
returns-else-kind-ne-NAME c = grind (arith, common_steps, ne_eqb, eq-eqb)
