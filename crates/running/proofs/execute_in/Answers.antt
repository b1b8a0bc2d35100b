-- `running::execute_in` meets its contract. Assumes nothing.
use borrow.Author.Rules.{rules}
use mathlib.Core.Path.{◌≡◌}
use lib.ListN.{length}
use native.Mathlib.Omega.{arith}
use Rattle.basis.specs.NumberLaws.{bytes_of_lem}
use Rattle.basis.specs.Sizes.{variables}
use Rattle.bindings.specs.Fields.{length_mapped}
use Rattle.state.specs.Lent.{tuples_read, is_section}
use Rattle.running.specs.Attempts.{left}
use Rattle.running.proofs.execute_in.Goals as goal
use Rattle.running.proofs.execute_in.Goals.{After-execute-ran}

-- the arrays of the answer
sixteen : (c : After-execute-ran) → length c.execute-ran.result.vars.values ≡ variables
sixteen c = search (rules, length_mapped)

pub execute-ran-requires : goal.execute-ran-requires
execute-ran-requires c =
    let b = c.args.state.now in
    let n = c.tuple_count-n.result in
    (is_section b n c.requires.0 c.tuple_count-n.ensures.0, c.requires.1.legal, rw (tuples_read b n c.requires.0 c.tuple_count-n.ensures.0) c.requires.2)

pub set_tuple_count-requires : goal.set_tuple_count-requires
set_tuple_count-requires c =
    (omega arith, c.execute-ran.ensures.holds.few)

pub returns : goal.returns
returns c =
    left c.args.state.now c.tuple_count-n.result c.requires.0 c.tuple_count-n.ensures.0 c.args.body.now c.execute-ran.new.tuples c.set_tuple_count.new.state c.execute-ran.result.n
    c.execute-ran.result.branch c.execute-ran.result.outcome c.execute-ran.result.vars
    c.requires.1 (bytes_of_lem c.args.body.now (λ k. (c.type_inv.body k).fits)) (sixteen (goal.at.returns c).After-execute-ran) c.execute-ran.ensures c.set_tuple_count.ensures
