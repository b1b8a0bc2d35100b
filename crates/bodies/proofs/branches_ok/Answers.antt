-- `bodies::branches_ok` meets its contract. Assumes nothing.
use Rattle.basis.specs.Lists.{all}
use Rattle.basis.specs.Sizes.{branches_at}
use Rattle.model.specs.Legal.{legal_branch}
use Rattle.model.specs.Reading.{branch}
use Rattle.statements.specs.Ends.{passing_start, passing_turn, passing_stop, passing_done, one_passes, one_stops, all_none}
use Rattle.walk.specs.Branches.{suffix_branch}
use Rattle.bodies.proofs.branches_ok.Goals as goal

pub loop-init : goal.loop-init
loop-init c = passing_start branch (all legal_branch) c.args.b.now branches_at c.args.count c.requires

pub returns-in_err-at : goal.returns-in_err-at
returns-in_err-at c =
    rw c.from_residual.ensures
    (passing_stop branch (all legal_branch) (all legal_branch) c.args.b.now branches_at c.args.count c.loop.at c.loop.counter c.loop.invariant c.loop-test.true (one_stops branch suffix_branch legal_branch c.args.b.now c.loop.at c.in_err-at.ensures))

pub loop-preserved : goal.loop-preserved
loop-preserved c = passing_turn branch (all legal_branch) (all legal_branch) c.args.b.now branches_at c.args.count c.loop.at c.loop.counter c.loop.invariant (all legal_branch) c.in_ok-at.at c.loop-test.true (one_passes branch suffix_branch legal_branch c.args.b.now c.loop.at c.in_ok-at.at c.in_ok-at.ensures)

pub returns : goal.returns
returns c = passing_done branch (all legal_branch) (all legal_branch) c.args.b.now branches_at c.args.count c.loop.at c.loop.counter c.loop.invariant c.loop-test.false (all_none legal_branch)
