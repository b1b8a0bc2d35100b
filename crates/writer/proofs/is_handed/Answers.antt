-- `writer::is_handed` meets its contract. Assumes nothing.
use Rattle.std.proofs.Common.{◌∙◌, ◌<◌, arith, eq-eqb, le-ltb}
use Rattle.std.proofs.lemmas.Bool.{lt-leb}
use Rattle.basis.specs.Sizes.{most_fields}
use Rattle.statements.specs.Flat.{codes}
use Rattle.writer.specs.Writer.{true_code}
use Rattle.writer.specs.Tests.{handed_true, handed_code, handed_many, handed_forms}
use Rattle.writer.proofs.is_handed.Goals.{then-op-lt-CODES, else-op-lt-CODES}
use Rattle.writer.proofs.is_handed.Goals as goal

pub returns-then-op-eq-TRUE : goal.returns-then-op-eq-TRUE
returns-then-op-eq-TRUE c =
    let o = c.args.op in
    eq-eqb o.code true_code c.if-op-eq-TRUE.true ∙ handed_true o c.if-op-eq-TRUE.true

pub returns-then-op-le-MOST_FIELDS : goal.returns-then-op-le-MOST_FIELDS
returns-then-op-le-MOST_FIELDS c =
    let h = c.if-op-le-MOST_FIELDS.true in
    handed_forms c.args.op c.forms_ok.result c.if-op-eq-TRUE.false h.0 h.1 c.forms_ok.ensures

pub returns-else-op-le-MOST_FIELDS : goal.returns-else-op-le-MOST_FIELDS
returns-else-op-le-MOST_FIELDS c =
    let o = c.args.op in
    let n = c.if-op-eq-TRUE.false in
    elim c.if-op-lt-CODES.branch [
      | then-op-lt-CODES w ↦
          let l : o.code < codes = w.if-op-lt-CODES.true in
          let m : most_fields < o.count = omega (arith, c.if-op-le-MOST_FIELDS.either) in
          w.t-6-is ∙ lt-leb o.count most_fields m ∙ handed_many o n l m
      | else-op-lt-CODES w ↦ w.t-6-is ∙ le-ltb o.code codes w.if-op-lt-CODES.false ∙ handed_code o n w.if-op-lt-CODES.false
    ]
