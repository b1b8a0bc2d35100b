-- `spaces::row` meets its contract. Assumes nothing.
use mathlib.Core.Path.{refl}
use Rattle.basis.specs.Lists.{zeros}
use Rattle.spaces.specs.SpaceLaws.{row_private, row_shared}
use Rattle.spaces.proofs.row.Goals as goal

pub returns-then-owned : goal.returns-then-owned
unfolding zeros
returns-then-owned c =
    row_private _ _ _ _ _ refl c.put_space_number.ensures _ _ c.put_number.ensures c.put2.ensures c.if-owned.true

pub returns-else-owned : goal.returns-else-owned
unfolding zeros
returns-else-owned c =
    row_shared _ _ _ _ _ refl c.put_space_number.ensures c.if-owned.false
