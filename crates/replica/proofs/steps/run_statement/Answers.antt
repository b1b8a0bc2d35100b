-- `replica::steps::run_statement` meets its contract. Assumes nothing.
use native.Mathlib.Omega.{arith}
use mathlib.Core.Path.{ap}
use mathlib.Core.List.{List}
use Prim.Native.Nat.{ℕ}
use lib.ListN.{length}
use Rattle.model.specs.Run.{Run}
use Rattle.model.specs.Statement.{Statement}
use Rattle.layout.specs.States.{decode}
use Rattle.layout.specs.Stored.{Turned, statement_of}
use Rattle.header.specs.StoredLaws.{said}
use Rattle.running.specs.Executed.{executed}
use Rattle.replica.specs.StatementLaws.{Quiet, ran_at, ran_turned, quiet, quiet_later, quiet_passed, quiet_unmet, statement_may}
use Rattle.replica.proofs.steps.run_statement.Goals as goal
use Rattle.replica.proofs.steps.run_statement.Goals.{After-run_body-n, After-wait_or_refuse-arg-2-1}

pub run_body-n-requires : goal.run_body-n-requires
run_body-n-requires c = (c.requires.0, statement_may (decode c.args.state.now) c.args.body.now c.requires.1 c.requires.3, c.requires.4)

-- the statement was tried
module _ (m : After-run_body-n) where
  abbrev run : Run
  run = decode m.args.state.now

  abbrev st : Statement
  st = statement_of m.args.body.now

  abbrev left : List ℕ
  left = m.run_body-n.new.state

  abbrev told : List ℕ
  told = m.run_body-n.new.out

  tried : Turned (executed run run.last st) m.args.out.now left told m.run_body-n.result
  tried = ran_at m.args.state.now st m.last-last.result m.args.out.now left told m.run_body-n.result m.last-last.ensures.0 m.run_body-n.ensures.0

pub returns-then-n-ne0 : goal.returns-then-n-ne0
returns-then-n-ne0 c =
    (ran_turned (run (goal.at.returns-then-n-ne0 c).After-run_body-n) (st (goal.at.returns-then-n-ne0 c).After-run_body-n) c.args.out.now (left (goal.at.returns-then-n-ne0 c).After-run_body-n) (told (goal.at.returns-then-n-ne0 c).After-run_body-n) c.run_body-n.result (tried (goal.at.returns-then-n-ne0 c).After-run_body-n) c.if-n-ne0.true, c.run_body-n.ensures.1)

-- no guard holds
module _ (m : After-wait_or_refuse-arg-2-1) where
  unmoved : Quiet (run (goal.at.wait_or_refuse-requires m).After-run_body-n) (st (goal.at.wait_or_refuse-requires m).After-run_body-n) m.args.out.now (left (goal.at.wait_or_refuse-requires m).After-run_body-n) (told (goal.at.wait_or_refuse-requires m).After-run_body-n)
  unmoved = quiet (run (goal.at.wait_or_refuse-requires m).After-run_body-n) (st (goal.at.wait_or_refuse-requires m).After-run_body-n) m.args.out.now (left (goal.at.wait_or_refuse-requires m).After-run_body-n) (told (goal.at.wait_or_refuse-requires m).After-run_body-n) m.run_body-n.result (tried (goal.at.wait_or_refuse-requires m).After-run_body-n) m.if-n-ne0.false

pub wait_or_refuse-requires : goal.wait_or_refuse-requires
wait_or_refuse-requires c =
    let q = unmoved c in
    (said _ _ q.stored, c.requires.1, quiet_later (run (goal.at.wait_or_refuse-requires c).After-run_body-n) (st (goal.at.wait_or_refuse-requires c).After-run_body-n) c.args.out.now (left (goal.at.wait_or_refuse-requires c).After-run_body-n) (told (goal.at.wait_or_refuse-requires c).After-run_body-n) q c.requires.2, quiet_passed (run (goal.at.wait_or_refuse-requires c).After-run_body-n) (st (goal.at.wait_or_refuse-requires c).After-run_body-n) c.args.out.now (left (goal.at.wait_or_refuse-requires c).After-run_body-n) (told (goal.at.wait_or_refuse-requires c).After-run_body-n) q c.requires.3, omega (arith, ap length q.bytes, c.requires.4))

pub returns : goal.returns
returns c =
    let u = c.wait_or_refuse in
    (quiet_unmet (run (goal.at.returns c).After-run_body-n) (st (goal.at.returns c).After-run_body-n) c.args.out.now (left (goal.at.returns c).After-run_body-n) (told (goal.at.returns c).After-run_body-n) (unmoved (goal.at.returns c).After-wait_or_refuse-arg-2-1) u.new.state u.new.out u.result u.ensures.0, u.ensures.1)
