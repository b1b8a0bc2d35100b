-- `wakes::wake_at` meets its contract. Assumes nothing.
use Prim.Native.Nat.{ℕ, ◌≤◌}
use native.Mathlib.Omega.{arith}
use mathlib.Core.Path.{sym, ◌∙◌}
use mathlib.Core.List.{List}
use lib.ListN.{length, take}
use lib.Seq.{length-take-le}
use Rattle.layout.specs.States.{decode}
use Rattle.header.specs.StoredLaws.{said}
use Rattle.running.specs.Executed.{MayRun, Picked}
use Rattle.wakes.specs.Turns.{gone_may, gone_picked, gone_turn}
use Rattle.wakes.proofs.wake_at.Goals as goal
use Rattle.wakes.proofs.wake_at.Goals.{After-leave-who}

-- it has left the queue
module _ (c : After-leave-who) where
  abbrev state : List ℕ
  state = c.leave-who.new.state

  abbrev body : List ℕ
  body = c.leave-who.new.body

  abbrev size : ℕ
  size = c.leave-who.result.size

  room : size ≤ length body
  room = omega (arith, c.leave-who.ensures.size, c.leave-who.auto.body)

  may-run : MayRun (decode state) (take size body)
  may-run = gone_may c.args.state.now c.args.i state body c.leave-who.result.position size c.leave-who.ensures c.requires.0 c.requires.1

  picked : Picked (decode state) (take size body) c.args.choice
  picked = gone_picked c.args.state.now c.args.i state body c.leave-who.result.position size c.leave-who.ensures c.args.choice c.requires.2

pub leave-who-requires : goal.leave-who-requires
leave-who-requires c = (c.requires.0, c.requires.1, omega arith)

pub slice_bounds-body-end : goal.slice_bounds-body-end
slice_bounds-body-end c = omega (arith, c.leave-who.ensures.size)

pub slice_bounds-run_chosen-end : goal.slice_bounds-run_chosen-end
slice_bounds-run_chosen-end c = sym (length-take-le (size (goal.at.slice_bounds-run_chosen-end c).After-leave-who) (body (goal.at.slice_bounds-run_chosen-end c).After-leave-who) (room (goal.at.slice_bounds-run_chosen-end c).After-leave-who))

pub run_chosen-requires : goal.run_chosen-requires
run_chosen-requires c =
    (said _ _ c.leave-who.ensures.stored, may-run (goal.at.run_chosen-requires c).After-leave-who, picked (goal.at.run_chosen-requires c).After-leave-who, c.requires.3)

pub shape_of-state : goal.shape_of-state
shape_of-state c =
    c.run_chosen.ensures.0.stored.long ∙ sym c.requires.0.long

pub returns : goal.returns
returns c =
    let did = c.run_chosen in
    (gone_turn c.args.state.now c.args.i (state (goal.at.returns c).After-leave-who) (body (goal.at.returns c).After-leave-who) c.leave-who.result.position (size (goal.at.returns c).After-leave-who) c.leave-who.ensures c.args.out.now did.new.state did.new.out did.result did.ensures.0, did.ensures.1)
