-- `sections::drop_rows` meets its contract. Assumes nothing.
use Rattle.sections.specs.Rows.{lacks}
use Rattle.sections.specs.Loops.{Sifted}
use Rattle.sections.proofs.drop_rows.Given as goal

abbrev pub invariant-loop-next : goal.invariant-loop-next
invariant-loop-next l = Sifted (lacks l.at l.w l.value) l.size l.initial.rows l.n l.rows l.m l.next
