-- `cabinet::read_record` meets its contract. Assumes nothing.
use Rattle.std.specs.Prelude.{◌≤◌, ◌++◌, length, drop}
use Rattle.std.proofs.Common.{◌∙◌, arith, length-append, length-drop}
use Rattle.basis.specs.Sizes.{body_at}
use Rattle.cabinet.specs.ReadLaws.{within_body}
use Rattle.cabinet.proofs.read_record.Goals as goal

pub returns-clause-within_record : goal.returns-clause-within_record
returns-clause-within_record c =
    let now = c.read_full-head.new.buf ++ drop body_at c.args.«record».now in
    let long : body_at ≤ length now = simp (length-append, length-drop) (omega arith) in
    within_body c.from-end.result c.read_full.result now c.read_full.new.buf long (c.from-end.ensures ∙ c.word2.ensures) c.read_full.ensures.0 c.read_full.auto.buf
