-- `spaces::open` meets its contract. Assumes nothing.
use native.Mathlib.Omega.{arith}
use Rattle.sections.specs.Shapes.{holds_section, holds_length, holds_more}
use Rattle.spaces.specs.Spaces.{space_shape}
use Rattle.spaces.specs.SpaceLaws.{row_fits, opening_small}
use mathlib.Core.Path.{ap}
use Rattle.basis.specs.Lists.{pad}
use Rattle.basis.specs.Sizes.{space_size}
use borrow.Author.Rules.{rules}
use Rattle.spaces.proofs.open.Goals as goal

pub append-requires : goal.append-requires
append-requires c =
    (holds_section space_shape _ _ _ c.requires.0, omega (arith, holds_length space_shape _ _ _ c.requires.0), row_fits _ _ c.row-row.ensures)

pub returns : goal.returns
returns c =
    let a = c.args in
    holds_more space_shape _ _ _ c.requires.0 _ _ _ c.requires.1 (opening_small a.number a.process a.owned c.requires.2 (search rules)) (ap (pad space_size) c.row-row.ensures) c.append.ensures
