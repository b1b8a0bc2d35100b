-- `running::run_body` meets its contract. Assumes nothing.
use native.Mathlib.Omega.{arith}
use mathlib.Core.Path.{subst}
use Rattle.model.specs.Execution.{chosen}
use Rattle.layout.specs.States.{decode}
use Rattle.layout.specs.Stored.{statement_of}
use Rattle.walk.specs.Choosing.{Chooses}
use Rattle.running.specs.Answers.{run_none}
use Rattle.running.proofs.run_body.Goals as goal

pub choose_in-requires : goal.choose_in-requires
choose_in-requires c = (c.requires.0, c.requires.1.legal)

pub returns-in_default : goal.returns-in_default
returns-in_default c =
    let a = c.args in
    let s = decode a.state.now in
    let st = statement_of a.body.now in
    (run_none s a.position st a.state.now a.out.now c.requires.0 (subst (Chooses a.body.now s.tuples (chosen s.tuples st)) c.in_default.is c.choose_in.ensures), omega arith)

pub run_chosen-requires : goal.run_chosen-requires
run_chosen-requires c =
    let a = c.args in
    let s = decode a.state.now in
    (c.requires.0, c.requires.1, subst (Chooses a.body.now s.tuples (chosen s.tuples (statement_of a.body.now))) c.in-Some.is c.choose_in.ensures, c.requires.2)
