-- `waiting::is_queue` meets its contract. Assumes nothing.
use mathlib.Core.Path.{sym, ◌∙◌}
use lib.Dec.{T}
use lib.Pow.{are_bytes}
use Rattle.basis.specs.Logic.{true_is, same_test}
use Rattle.sections.specs.RowLaws.{bytes_of_lem}
use Rattle.scans.specs.Tests.{refused, clash}
use Rattle.queue.specs.LegalLaws.{rows_queue, queue_unused, queue_rows}
use Rattle.waiting.proofs.is_queue.Goals as goal
use Rattle.waiting.proofs.is_queue.Goals.{After-shared_slice_known-1}

-- what is known of the section
module _ (c : After-shared_slice_known-1) where
  bytes : T (are_bytes c.args.waiting.now)
  bytes = bytes_of_lem c.args.waiting.now (λ k. (c.type_inv.waiting k).fits)

pub returns-then-not-unused_zero : goal.returns-then-not-unused_zero
returns-then-not-unused_zero c =
    refused _ (λ t. clash _ _ (queue_unused _ _ (bytes (goal.at.returns-then-not-unused_zero c).After-shared_slice_known-1) c.requires.0 c.requires.1 t) c.unused_zero.ensures c.if-not-unused_zero.true)

pub returns : goal.returns
returns c =
    c.rows_ok.ensures
    ∙ same_test _ _ (rows_queue _ _ (bytes (goal.at.returns c).After-shared_slice_known-1) c.requires.0 c.requires.1 (true_is _ (sym c.unused_zero.ensures ∙ c.if-not-unused_zero.false))) (queue_rows _ _ (bytes (goal.at.returns c).After-shared_slice_known-1) c.requires.0 c.requires.1)
