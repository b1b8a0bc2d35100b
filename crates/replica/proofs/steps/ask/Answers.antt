-- `replica::steps::ask` meets its contract. Assumes nothing.
use Rattle.replica.proofs.steps.ask.Goals as goal

pub returns-in-Statement : goal.returns-in-Statement
returns-in-Statement c = rw c.in-Statement.is c.ask_statement.ensures
