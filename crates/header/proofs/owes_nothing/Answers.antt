-- `header::owes_nothing` meets its contract. Assumes nothing.
use mathlib.Core.Path.{◌∙◌}
use native.Mathlib.Omega.{arith}
use lib.Dec.{T}
use lib.Pow.{are_bytes}
use Rattle.sections.specs.RowLaws.{bytes_of_lem}
use Rattle.header.specs.WholeLaws.{none_owed_lem, owes_none}
use Rattle.header.proofs.owes_nothing.Goals as goal

pub zero_run-requires : goal.zero_run-requires
zero_run-requires c = omega (arith, c.requires)

pub returns : goal.returns
returns c =
    let b = c.args.state.now in
    let bytes : T (are_bytes b) = bytes_of_lem b (λ i. (c.type_inv.state i).fits) in
    c.zero_run.ensures ∙ none_owed_lem b bytes 0 (omega arith) ∙ owes_none _
