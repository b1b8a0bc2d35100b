-- `answers::settle` meets its contract. Assumes nothing.
use Rattle.std.proofs.Common.{◌≡◌, sym, ◌∙◌, arith, length, rules}
use Rattle.std.proofs.lemmas.Result.{err_from_is_err_and}
use Rattle.model.specs.Legal.{legal_body}
use Rattle.answers.specs.Settled.{refusal_is, settled_room, settled_done, refused_at, refused_at_lem, settled_err, none_refused}
use Rattle.answers.proofs.settle.Goals as goal

pub returns-in_err-map_err : goal.returns-in_err-map_err
returns-in_err-map_err c =
    let a = c.args in
    let m : c.map_err.result ≡ refused_at a.fill c.refusal.result = refused_at_lem a.fill c.refusal.result c.map_err.result c.map_err.ensures.cases (λ e d k. search rules) in
    let p = err_from_is_err_and c.from_residual.result c.from_residual.ensures.1 in
    rw (p.1, p.2) (settled_err a.buffer.now a.fill a.body.now c.refusal.result c.in_err-map_err.field-0.0 c.refusal.ensures (sym m ∙ c.in_err-map_err.was))

pub copy_at-requires : goal.copy_at-requires
copy_at-requires c =
    let a = c.args in
    let m : c.map_err.result ≡ refused_at a.fill c.refusal.result = refused_at_lem a.fill c.refusal.result c.map_err.result c.map_err.ensures.cases (λ e d k. search rules) in
    omega (arith, settled_room (legal_body a.body.now) (length a.body.now) (length a.buffer.now) (refusal_is c.refusal.result) c.refusal.ensures (none_refused a.fill c.refusal.result c.in_ok-map_err.field-0 (sym m ∙ c.in_ok-map_err.was)))

pub returns : goal.returns
returns c =
    let a = c.args in
    let m : c.map_err.result ≡ refused_at a.fill c.refusal.result = refused_at_lem a.fill c.refusal.result c.map_err.result c.map_err.ensures.cases (λ e d k. search rules) in
    settled_done a.buffer.now a.fill a.body.now (refusal_is c.refusal.result) c.refusal.ensures c.copy_at.new.d (none_refused a.fill c.refusal.result c.in_ok-map_err.field-0 (sym m ∙ c.in_ok-map_err.was)) c.copy_at.ensures
