-- `additions::holds_body` meets its contract. Assumes nothing.
use Rattle.std.proofs.Common.{◌∙◌, length}
use Rattle.std.proofs.lemmas.Bool.{lt-leb}
use Rattle.writer.specs.HeldLaws.{held_past, held_body}
use Rattle.additions.proofs.holds_body.Goals as goal

pub returns-then-fill-buffer : goal.returns-then-fill-buffer
returns-then-fill-buffer c = let a = c.args in held_body a.buffer.now a.fill c.body_ok.result c.if-fill-buffer.true c.body_ok.ensures

pub returns-else-fill-buffer : goal.returns-else-fill-buffer
returns-else-fill-buffer c =
    let a = c.args in
    lt-leb a.fill (length a.buffer.now) c.if-fill-buffer.false ∙ held_past a.buffer.now a.fill c.if-fill-buffer.false
