-- `cabinet::take_all` meets its contract. Assumes nothing.
use Rattle.cabinet.specs.PrintedLaws.{fresh_begins}
use Rattle.cabinet.proofs.take_all.Goals as goal

pub loop-init : goal.loop-init
loop-init c = record {
  state = fresh_begins c.args.state.now c.requires.fresh_state;
  turns = c.requires.first_turn.0;
  goes_on = (c.requires.first_turn.1, c.requires.first_turn.2);
}
