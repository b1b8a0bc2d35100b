-- `tuples::begin_entry` meets its contract. Assumes nothing.
use mathlib.Core.Path.{refl}
use Rattle.basis.specs.Lists.{zeros}
use Rattle.tuples.specs.EntryLaws.{begun_none}
use Rattle.tuples.proofs.begin_entry.Goals as goal

pub returns : goal.returns
unfolding zeros
returns c = begun_none _ _ _ _ refl c.put_space_number.ensures
