-- `moves::put_in` meets its contract. Assumes nothing.
use mathlib.Core.Path.{ap, ◌∙◌}
use mathlib.Core.List.{List}
use Prim.Native.Nat.{ℕ}
use Rattle.basis.specs.Sizes.{tuple_size}
use Rattle.sections.specs.Rows.{rows_over}
use Rattle.moves.proofs.put_in.Goals as goal

pub returns : goal.returns
returns c =
    let a = c.args in
    c.copy_rows.ensures ∙ ap (λ (l : List ℕ). rows_over tuple_size l a.m a.held.now a.h) c.move_rows_up.ensures
