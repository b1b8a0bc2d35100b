-- `state::close_tuples` meets its contract. Assumes nothing.
use native.Mathlib.Omega.{arith}
use Rattle.state.specs.Lent.{is_section}
use Rattle.state.specs.TupleChanges.{clears}
use Rattle.state.proofs.close_tuples.Goals as goal

pub drop_space-left-requires : goal.drop_space-left-requires
drop_space-left-requires c = is_section _ _ c.requires c.tuple_count-n.ensures.0

pub set_tuple_count-requires : goal.set_tuple_count-requires
set_tuple_count-requires c = (omega arith, c.drop_space-left.ensures.few)

pub returns : goal.returns
returns c =
    clears c.requires c.tuple_count-n.ensures.0 c.set_tuple_count.ensures c.args.space c.drop_space-left.ensures
