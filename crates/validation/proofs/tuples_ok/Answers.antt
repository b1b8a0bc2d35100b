-- `validation::tuples_ok` meets its contract. Assumes nothing.
use mathlib.Core.Path.{sym, ◌∙◌}
use Rattle.basis.specs.Logic.{true_is, same_test}
use Rattle.scans.specs.Tests.{refused, clash}
use Rattle.validation.specs.TupleLaws.{rows_tuples, tuples_unused, tuples_rows}
use Rattle.validation.proofs.tuples_ok.Goals as goal

pub returns-else-unused_zero : goal.returns-else-unused_zero
returns-else-unused_zero c =
    c.if-unused_zero.false ∙ refused _ (λ t. clash _ _ (tuples_unused _ _ _ c.requires.0 c.requires.1 t) c.unused_zero.ensures c.if-unused_zero.false)

pub returns-then-unused_zero : goal.returns-then-unused_zero
returns-then-unused_zero c =
    c.rows_ok.ensures
    ∙ same_test _ _ (rows_tuples _ _ _ c.requires.0 c.requires.1 (true_is _ (sym c.unused_zero.ensures ∙ c.if-unused_zero.true))) (tuples_rows _ _ _ c.requires.0 c.requires.1)
