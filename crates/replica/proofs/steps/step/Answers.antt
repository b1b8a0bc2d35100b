-- `replica::steps::step` meets its contract. Assumes nothing.
use native.Mathlib.Omega.{arith}
use Prim.Native.Nat.{suc}
use Rattle.layout.specs.States.{decode}
use Rattle.header.specs.StoredLaws.{said}
use Rattle.replica.specs.StepLaws.{Read, record_read, mark_known, set_later, step_done}
use Rattle.replica.proofs.steps.step.Goals as goal
use Rattle.replica.proofs.steps.step.Goals.{Start}

-- the record as it is read
module _ (s : Start) where
  its : Read s.args.input.now (suc (decode s.args.state.now).last)
  its = record_read s.args.input.now (suc (decode s.args.state.now).last) s.requires.1

pub mark_of-requires : goal.mark_of-requires
mark_of-requires c = omega (arith, (its (goal.at.mark_of-requires c).Start).long)

pub unreachable-requires : goal.unreachable-requires
unreachable-requires c = mark_known c.args.input.now _ (its (goal.at.unreachable-requires c).Start) c.in_default.ensures

pub slice_bounds-ask-count : goal.slice_bounds-ask-count
slice_bounds-ask-count c = omega (arith, (its (goal.at.slice_bounds-ask-count c).Start).long)

pub slice_bounds-ask-start : goal.slice_bounds-ask-start
slice_bounds-ask-start c = omega (arith, (its (goal.at.slice_bounds-ask-start c).Start).long)

pub ask-requires : goal.ask-requires
ask-requires c =
    let p = c.advance in
    (said _ _ p.ensures, set_later c.args.state.now p.new.state p.ensures c.requires.0, c.requires.2)

pub returns : goal.returns
returns c =
    let a = c.args in
    let p = c.advance in
    let d = c.ask in
    step_done a.state.now p.new.state p.ensures a.input.now c.in-Some.mark (its (goal.at.returns c).Start) a.out.now d.new.state d.new.out d.result c.in-Some.ensures d.ensures
