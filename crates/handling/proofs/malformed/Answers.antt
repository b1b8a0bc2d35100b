-- `handling::malformed` meets its contract. Assumes nothing.
use Rattle.model.specs.Step.{malformed}
use Rattle.handling.proofs.malformed.Goals as goal

pub returns : goal.returns
unfolding malformed
returns c = rw c.number.ensures at c.refuse.ensures
