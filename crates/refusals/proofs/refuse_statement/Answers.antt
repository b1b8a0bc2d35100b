-- `refusals::refuse_statement` meets its contract. Assumes nothing.
use native.Mathlib.Omega.{arith}
use mathlib.Core.Path.{refl}
use Rattle.layout.specs.States.{decode}
use Rattle.walk.specs.Walk.{body_is, body_host_small}
use Rattle.refusals.specs.Naming.{statement_stops_on, statement_goes}
use Rattle.refusals.proofs.refuse_statement.Goals as goal

pub word2-process-requires : goal.word2-process-requires
word2-process-requires c = omega (arith, (body_is c.args.body.now c.requires.1).long)

pub bounds-body-0 : goal.bounds-body-0
bounds-body-0 c = omega (arith, (body_is c.args.body.now c.requires.1).long)

pub refuse_standing-requires : goal.refuse_standing-requires
refuse_standing-requires c = (c.requires.0, body_host_small c.args.body.now c.requires.1)

pub returns-in_err-refuse_standing : goal.returns-in_err-refuse_standing
returns-in_err-refuse_standing c =
    statement_stops_on (decode c.args.state.now) c.args.body.now _ _ c.requires.1 c.word2-process.ensures c.in_err-refuse_standing.ensures _ refl c.from_residual.result c.from_residual.ensures.1

pub returns : goal.returns
returns c = statement_goes (decode c.args.state.now) c.args.body.now _ _ c.requires.1 c.word2-process.ensures c.in_ok-refuse_standing.ensures _ refl c.refuse_named.ensures
