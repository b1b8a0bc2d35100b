-- `moves::keep_other` meets its contract. Assumes nothing.
use native.Mathlib.Omega.{arith}
use Rattle.moves.specs.Moves.{most_held}
use Rattle.moves.specs.MoveLaws.{keeps_in_place, keeps_held, keeps_put_in}
use Rattle.moves.proofs.keep_other.Goals as goal

pub returns-then-k-eq0 : goal.returns-then-k-eq0
returns-then-k-eq0 c =
    (omega (arith, c.requires), keeps_in_place c.if-k-eq0.true)

pub returns-then-h-lt-HELD : goal.returns-then-h-lt-HELD
returns-then-h-lt-HELD c =
    (omega (arith, c.requires, c.if-h-lt-HELD.true), keeps_held c.if-k-eq0.false c.copy_rows.ensures)

pub returns : goal.returns
returns c =
    (omega (arith, c.requires), keeps_put_in c.if-k-eq0.false c.copy_rows.ensures most_held _ (omega (arith, c.requires, c.if-h-lt-HELD.false)) c.requires.0 c.put_in.ensures)
