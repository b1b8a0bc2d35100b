-- `bodies::branches_ok` meets its contract. Assumes nothing.
use Rattle.basis.specs.Lists.{all}
use Rattle.basis.specs.Sizes.{branches_at}
use Rattle.model.specs.Legal.{legal_branch}
use Rattle.model.specs.Reading.{branch}
use Rattle.statements.specs.Ends.{Passing}
use Rattle.bodies.proofs.branches_ok.Given as goal

abbrev pub invariant-loop : goal.invariant-loop
invariant-loop l = Passing branch (all legal_branch) (all legal_branch) l.b branches_at l.count l.at l.counter
