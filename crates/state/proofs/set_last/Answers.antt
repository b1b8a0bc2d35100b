-- `state::set_last` meets its contract. Assumes nothing.
use Rattle.model.proofs.Preserve.{later_fit}
use Rattle.header.specs.RowLaws.{last_changed}
use borrow.Author.Rules.{rules}
use Rattle.state.proofs.set_last.Goals as goal

pub shape_of-state : goal.shape_of-state
shape_of-state c = c.set_last.auto.state

pub returns : goal.returns
returns c =
    last_changed c.requires.0 (later_fit _ c.args.position c.requires.1 (search rules) c.requires.0.fit) c.set_last.ensures
