-- `replica::steps::wait_or_refuse` meets its contract. Assumes nothing.
use native.Mathlib.Omega.{arith}
use mathlib.Core.Path.{sym, ◌∙◌}
use Rattle.std.specs.Prelude.{Err}
use Rattle.basis.specs.NumberLaws.{bytes_of_lem}
use Rattle.layout.specs.States.{decode}
use Rattle.layout.specs.Stored.{statement_of}
use Rattle.replica.specs.StatementLaws.{unmet_short, unmet_refused, unmet_waiting, may_wait_lem}
use Rattle.replica.proofs.steps.wait_or_refuse.Goals as goal

pub returns-in-Err : goal.returns-in-Err
returns-in-Err c =
    let a = c.args in
    let s = decode a.state.now in
    let st = statement_of a.body.now in
    let d = c.refuse_body in
    let q = c.in-Err.ensures.answer s st (sym c.can_wait.ensures) (sym c.waiting_count.ensures.0) in
    let t = unmet_refused s st c.in-Err.why a.out.now a.state.now d.new.out d.result q d.ensures in
    (t, unmet_short s st (Err c.in-Err.why) d.result q t.number)

pub enqueue-requires : goal.enqueue-requires
enqueue-requires c =
    let q = c.in_default.ensures.waits in
    let n = c.waiting_count.ensures.0 in
    let small = bytes_of_lem c.args.body.now (λ k. (c.type_inv.body k).fits) in (
      c.requires.0,
      omega (arith, n, q.room),
      c.requires.1,
      may_wait_lem (decode c.args.state.now) c.args.body.now c.requires.1 small c.requires.2 c.requires.3 c.requires.0.fit (sym c.can_wait.ensures ∙ q.blocks) (omega (arith, n, q.room)),
    )

pub returns : goal.returns
returns c =
    let a = c.args in
    let s = decode a.state.now in
    let st = statement_of a.body.now in
    let d = c.enqueue in
    (unmet_waiting s st _ d.new.state a.out.now (c.in_default.ensures.answer s st (sym c.can_wait.ensures) (sym c.waiting_count.ensures.0)) d.ensures, omega arith)
