-- `wellformed::tuple_ok` meets its contract. Assumes nothing.
use Rattle.std.proofs.Common.{◌∙◌, arith}
use borrow.Author.Tests.{lt-leb}
use Rattle.basis.specs.Sizes.{most_fields}
use Rattle.wellformed.specs.FieldLaws.{entry_low, entry_high, entry_fields}
use Rattle.wellformed.proofs.tuple_ok.Goals as goal
use Rattle.wellformed.proofs.tuple_ok.Goals.{then-count-ge1, else-count-ge1}

pub returns-then-count-le-MOST_FIELDS : goal.returns-then-count-le-MOST_FIELDS
returns-then-count-le-MOST_FIELDS c =
    let a = c.args in
    let within = c.if-count-le-MOST_FIELDS.true in
    c.fields_ok.ensures ∙ entry_fields a.tuples.now a.i _ c.field_count-count.ensures (λ k. (c.type_inv.tuples k).fits) c.requires within.0 within.1

pub returns-else-count-le-MOST_FIELDS : goal.returns-else-count-le-MOST_FIELDS
returns-else-count-le-MOST_FIELDS c =
    let a = c.args in
    let n = c.field_count-count.result in
    elim c.if-count-ge1.branch [
      | then-count-ge1 w ↦ w.t-5-is ∙ (lt-leb n most_fields (omega arith) ∙ entry_high a.tuples.now a.i n c.field_count-count.ensures (omega arith))
      | else-count-ge1 w ↦ w.t-5-is ∙ (lt-leb 1 n (omega arith) ∙ entry_low a.tuples.now a.i n c.field_count-count.ensures (omega arith))
    ]
