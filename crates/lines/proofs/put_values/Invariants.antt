-- What the loop of `lines::put_values` keeps. Assumes nothing.
use Rattle.std.specs.Prelude.{◌+◌, ◌*◌, ◌≤◌, drop}
use Rattle.text.specs.Written.{values_in, value_room}
use Rattle.digits.specs.Put.{Put}
use Rattle.lines.proofs.put_values.Given as goal

abbrev pub invariant-loop-i : goal.invariant-loop-i
invariant-loop-i l = record {
  room : l.end ≤ l.at + value_room * l.i;
  written : Put (values_in l.i (drop l.from l.replies)) l.fn.out l.out l.at l.end;
}
