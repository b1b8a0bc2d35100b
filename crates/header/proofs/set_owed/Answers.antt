-- `header::set_owed` meets its contract. Assumes nothing.
use mathlib.Core.Path.{ap, ◌∙◌}
use Prim.Native.Nat.{ℕ}
use Rattle.basis.specs.Numbers.{big_endian}
use Rattle.basis.specs.Sizes.{mask_width}
use Rattle.words.specs.Over.{over}
use Rattle.header.specs.RowLaws.{owed_row_lem}
use Rattle.header.proofs.set_owed.Goals as goal

pub returns : goal.returns
returns c =
    let a = c.args in
    c.put2.ensures ∙ ap (λ (k : ℕ). over a.state.now k (big_endian mask_width a.mask) mask_width) c.owed_at.ensures ∙ owed_row_lem a.state.now a.mask a.i c.requires.1
