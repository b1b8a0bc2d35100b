-- `running::run_chosen` meets its contract. Assumes nothing.
use native.Mathlib.Omega.{arith}
use mathlib.Core.Path.{◌∙◌}
use mathlib.Core.List.{List}
use Rattle.model.specs.Value.{Value}
use Prim.Native.Nat.{ℕ}
use Rattle.layout.specs.States.{decode}
use Rattle.layout.specs.Stored.{statement_of}
use Rattle.replies.specs.Written.{ran_values}
use Rattle.walk.specs.BodyParts.{BodyParts}
use Rattle.walk.specs.Walk.{body_is}
use Rattle.running.specs.Answers.{picked_runs, ran_short, run_some}
use Rattle.running.proofs.run_chosen.Goals as goal
use Rattle.running.proofs.run_chosen.Goals.{After-execute_in-ran}

-- the branch has run
module _ (c : After-execute_in-ran) where
  abbrev values : List (ℕ × Value)
  values = let r = c.execute_in-ran.result in ran_values r.outcome r.vars.values

  body : BodyParts c.args.body.now (statement_of c.args.body.now)
  body = body_is c.args.body.now c.requires.1.legal

pub bounds-body-0 : goal.bounds-body-0
bounds-body-0 c = omega (arith, (body (goal.at.bounds-body-0 c).After-execute_in-ran).long)

pub word2-requires : goal.word2-requires
word2-requires c = omega (arith, (body (goal.at.word2-requires c).After-execute_in-ran).long)

pub returns : goal.returns
returns c =
    let a = c.args in
    let r = c.execute_in-ran.result in
    let w = c.ran_reply in
    let b = body (goal.at.returns c).After-execute_in-ran in (
      run_some (decode a.state.now) a.position (statement_of a.body.now) c.execute_in-ran.new.state r.branch r.outcome (values (goal.at.returns c).After-execute_in-ran) _ c.word2.result a.out.now w.new.out w.result
          c.execute_in-ran.ensures (picked_runs (decode a.state.now) a.body.now a.choice c.requires.2) b.host (c.word2.ensures ∙ b.process) w.ensures,
      ran_short a.position _ c.word2.result r.outcome r.branch r.vars.values a.out.now w.new.out w.result w.ensures,
    )
