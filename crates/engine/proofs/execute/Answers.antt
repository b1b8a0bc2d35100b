-- `engine::execute` meets its contract. Assumes nothing.
use mathlib.Core.List.{List}
use Prim.Native.Nat.{ℕ}
use Rattle.model.specs.Matching.{Tuple}
use Rattle.model.specs.Execution.{chosen}
use Rattle.layout.specs.Stored.{statement_of}
use Rattle.tuples.specs.Section.{tuples_of}
use Rattle.walk.specs.Walk.{body_is}
use Rattle.engine.specs.Attempting.{ChosenRead, chosen_stands, chosen_read, attempted}
use Rattle.engine.proofs.execute.Goals as goal
use Rattle.engine.proofs.execute.Goals.{After-standing_operation-guard}

-- the guard was read
module _ (c : After-standing_operation-guard) where
  abbrev bytes : List ℕ
  bytes = c.args.body.now

  abbrev ts : List Tuple
  ts = tuples_of c.args.tuples.now c.args.n

  read : ChosenRead bytes ts (chosen ts (statement_of bytes)) c.args.choice.branch c.args.choice.tuple c.standing_operation-guard.result
  read =
      let choice = c.args.choice in
      chosen_read bytes ts (chosen ts (statement_of bytes)) choice c.requires.2 (body_is bytes c.requires.1).size c.standing_operation-guard.result c.standing_operation-guard.ensures

pub standing_operation-guard-requires : goal.standing_operation-guard-requires
standing_operation-guard-requires c = chosen_stands c.args.body.now (tuples_of c.args.tuples.now c.args.n) _ c.args.choice c.requires.2

pub run_whole-d-requires : goal.run_whole-d-requires
run_whole-d-requires c = (c.requires.0, (read (goal.at.run_whole-d-requires c).After-standing_operation-guard).guard, (read (goal.at.run_whole-d-requires c).After-standing_operation-guard).finds)

pub returns : goal.returns
returns c =
    let d = c.run_whole-d.result in
    let choice = c.args.choice in
    attempted (bytes (goal.at.returns c).After-standing_operation-guard) (ts (goal.at.returns c).After-standing_operation-guard) (statement_of (bytes (goal.at.returns c).After-standing_operation-guard)) choice.branch choice.tuple c.standing_operation-guard.result (read (goal.at.returns c).After-standing_operation-guard) d.outcome d.n d.vars _ c.run_whole-d.ensures
