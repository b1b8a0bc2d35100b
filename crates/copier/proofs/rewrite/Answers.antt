-- `copier::rewrite` meets its contract. Assumes nothing.
use Rattle.std.proofs.Common.{refl, length}
use Rattle.std.proofs.lemmas.Result.{err_from_is_err_and}
use Rattle.model.specs.Legal.{legal_body}
use Rattle.writer.specs.Writer.{number}
use Rattle.writer.specs.WriterLaws.{number_some}
use Rattle.answers.specs.Settled.{settled_room}
use Rattle.copier.specs.Rewriting.{not_copied, copied_legal, all_copied}
use Rattle.copier.proofs.rewrite.Goals as goal

pub returns-in_err-refusal-clause-bytes : goal.returns-in_err-refusal-clause-bytes
returns-in_err-refusal-clause-bytes c =
    let a = c.args in
    let reason = c.in_err-refusal.field-0.0 in
    let p = err_from_is_err_and c.from_residual.result c.from_residual.ensures.1 in
    rw p.1 (not_copied a.body.now a.out.now (number reason) c.in_err-refusal.ensures (number_some reason))

pub copy_body-requires : goal.copy_body-requires
copy_body-requires c =
    let b = c.args.body.now in
    let out = c.args.out.now in
    (copied_legal b out 0 c.in_ok-refusal.ensures refl, settled_room (legal_body b) (length b) (length out) 0 c.in_ok-refusal.ensures refl)

pub returns-clause-bytes : goal.returns-clause-bytes
returns-clause-bytes c =
    let a = c.args in
    all_copied a.body.now a.out.now 0 c.in_ok-refusal.ensures c.copy_body.result c.copy_body.new.out refl c.copy_body.ensures.0 c.copy_body.ensures.1
