-- `names::passes` meets its contract. Assumes nothing.
use Rattle.names.specs.Asks.{asks_closed, asks_shut, asks_same}
use Rattle.names.proofs.passes.Goals as goal

pub returns-in-Closed : goal.returns-in-Closed
returns-in-Closed c = asks_closed _ _ _ _ c.is_open.ensures c.in-Closed.is

pub returns-in-Shut : goal.returns-in-Shut
returns-in-Shut c = asks_shut _ _ _ _ _ c.is_open_to.ensures c.in-Shut.is

pub returns-in-Same : goal.returns-in-Same
returns-in-Same c = asks_same _ _ _ _ c.in-Same.is
