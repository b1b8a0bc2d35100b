-- `header::zero_from` meets its contract. Assumes nothing.
use mathlib.Core.Path.{ap, ◌∙◌}
use Prim.Native.Nat.{ℕ, ◌-◌}
use native.Mathlib.Omega.{arith}
use lib.Dec.{T}
use lib.Pow.{are_bytes}
use Rattle.basis.specs.Sizes.{header_size}
use Rattle.words.specs.Over.{zeros_at}
use Rattle.sections.specs.RowLaws.{bytes_of_lem}
use Rattle.header.specs.WholeLaws.{zero_past}
use Rattle.header.proofs.zero_from.Goals as goal

pub owed_at-at-requires : goal.owed_at-at-requires
owed_at-at-requires c = c.requires.1

pub overflow_sub-at : goal.overflow_sub-at
overflow_sub-at c = omega (arith, c.owed_at-at.ensures, c.requires.1)

pub zero_run-requires : goal.zero_run-requires
zero_run-requires c = omega (arith, c.owed_at-at.ensures, c.requires)

pub returns : goal.returns
returns c =
    let b = c.args.state.now in
    let bytes : T (are_bytes b) = bytes_of_lem b (λ i. (c.type_inv.state i).fits) in
    c.zero_run.ensures ∙ ap (λ (at : ℕ). zeros_at b at (header_size - at)) c.owed_at-at.ensures ∙ zero_past b bytes c.args.i c.requires.1
