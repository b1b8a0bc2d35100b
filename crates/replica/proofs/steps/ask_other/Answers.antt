-- `replica::steps::ask_other` meets its contract. Assumes nothing.
use native.Mathlib.Omega.{arith}
use Rattle.layout.specs.States.{decode}
use Rattle.framing.specs.Marks.{marked}
use Rattle.requests.specs.Asking.{asked_is}
use Rattle.replica.specs.HandleLaws.{settle_may, took_done, asked_as}
use Rattle.replica.proofs.steps.ask_other.Goals as goal

pub settle-requires : goal.settle-requires
settle-requires c =
    let d = c.answer in
    let k = c.in-Ok.ensures in
    settle_may _ c.args.out.now d.new.state d.new.out _ k.turned k.short (omega (arith, c.requires.2, d.auto.out))

pub returns-in-Err : goal.returns-in-Err
returns-in-Err c =
    let a = c.args in
    let d = c.answer in
    asked_as (marked a.mark) a.body.now (decode a.state.now) (asked_is c.read-wanted.result) a.out.now d.new.state d.new.out _ c.read-wanted.ensures.0 c.in-Err.ensures.1

pub returns-in-Ok : goal.returns-in-Ok
returns-in-Ok c =
    let a = c.args in
    let d = c.answer in
    let f = c.settle in
    let o = asked_is c.read-wanted.result in
    asked_as (marked a.mark) a.body.now (decode a.state.now) o a.out.now f.new.state f.new.out f.result c.read-wanted.ensures.0
    (took_done o (decode a.state.now) a.out.now d.new.out f.new.out d.new.state f.new.state _ f.result c.in-Ok.ensures f.ensures)
