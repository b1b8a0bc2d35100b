-- What the loop of `lines::put_lines` keeps. Assumes nothing.
use Rattle.std.specs.Prelude.{◌≡◌, List, ◌-◌, ◌*◌, ◌≤◌, drop}
use Rattle.model.specs.Run.{Reply}
use Rattle.text.specs.Written.{growth, Given}
use Rattle.lines.specs.LoopLaws.{Passed}
use Rattle.lines.proofs.put_lines.Given as goal

abbrev pub invariant-loop-size : goal.invariant-loop-size
invariant-loop-size l = record {
  within : l.from ≤ l.n;
  room : l.at ≤ growth * l.from;
  rest : drop l.at l.out ≡ drop l.at l.fn.out;
  passed : (rs : List Reply) → Given rs l.replies l.n → Passed rs l.replies l.n l.from l.at l.out;
}

abbrev pub decreases-loop-size : goal.decreases-loop-size
decreases-loop-size l = l.n - l.from
