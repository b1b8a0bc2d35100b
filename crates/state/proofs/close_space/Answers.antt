-- `state::close_space` meets its contract. Assumes nothing.
use Rattle.header.specs.StoredLaws.{said}
use Rattle.state.specs.RecordChanges.{outside_kept, still_free, closes}
use Rattle.state.proofs.close_space.Goals as goal

pub close_tuples-requires : goal.close_tuples-requires
close_tuples-requires c = c.requires.0

pub close_entry-requires : goal.close_entry-requires
close_entry-requires c =
    let k = c.close_tuples.ensures in
    let a = c.args in
    (said _ _ k, outside_kept a.state.now _ a.space k, still_free a.state.now _ _ a.space k c.requires.1)

pub returns : goal.returns
returns c =
    let a = c.args in
    closes a.state.now _ _ a.space c.close_tuples.ensures c.close_entry.ensures
