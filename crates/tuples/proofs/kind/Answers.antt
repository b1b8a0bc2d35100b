-- `tuples::kind` meets its contract. Assumes nothing.
use mathlib.Core.Path.{refl}
use Rattle.tuples.specs.Entry.{value_at}
use Rattle.tuples.proofs.kind.Goals as goal

pub returns : goal.returns
unfolding value_at
returns c = refl
