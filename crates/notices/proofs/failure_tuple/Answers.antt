-- `notices::failure_tuple` meets its contract. Assumes nothing.
use Rattle.notices.specs.NoticeLaws.{failure_written}
use Rattle.notices.proofs.failure_tuple.Goals as goal

pub returns : goal.returns
returns c =
    let a = c.args in
    failure_written a.host a.monitor _ _ _ _ c.begin_entry-tuple.ensures c.put_value.ensures c.put_value-2.ensures (rw c.from.ensures at c.put_value-3.ensures)
