-- What the loop of `cabinet::take_all` keeps. Assumes nothing.
use Rattle.std.specs.Prelude.{◌≡◌, true, T}
use Rattle.layout.specs.IsState.{is_state}
use Rattle.cabinet.proofs.take_all.Given as goal

abbrev pub invariant-loop : goal.invariant-loop
invariant-loop l = record {
  state : T (is_state l.state);
  turns : l.turn.turns ≡ l.counter;
  goes_on : (l.turn.more ≡ true) × (l.turn.written ≡ true);
}
