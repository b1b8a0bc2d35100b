-- `queue::enqueue` meets its contract. Assumes nothing.
use Prim.Native.Nat.{ℕ, ◌<◌}
use lib.ListN.{get_or}
use native.Mathlib.Omega.{arith}
use Rattle.sections.specs.Shapes.{holds_section, holds_length, holds_more}
use Rattle.queue.specs.Queue.{waiting_shape}
use Rattle.queue.specs.QueueLaws.{body_small, row_long, row_entry, waits_written}
use borrow.Author.Rules.{rules}
use Rattle.queue.proofs.enqueue.Goals as goal

pub row-row-requires : goal.row-row-requires
row-row-requires c = body_small _ c.requires.2

pub append-requires : goal.append-requires
append-requires c =
    (holds_section waiting_shape _ _ _ c.requires.0, omega (arith, holds_length waiting_shape _ _ _ c.requires.0), row_long _ _ c.row-row.ensures)

pub returns : goal.returns
returns c =
    let a = c.args in
    let byte : (k : ℕ) → get_or a.body.now k 0 < 256 = λ k. (c.type_inv.body k).fits in
    let legal = c.requires.2 in
    holds_more waiting_shape _ _ _ c.requires.0 _ _ _ c.requires.1 (waits_written a.position a.body.now byte legal (search rules)) (row_entry a.position a.body.now byte legal _ c.row-row.ensures) c.append.ensures
