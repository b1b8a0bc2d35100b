-- `meeting::templates_meet` meets its contract. Assumes nothing.
use Rattle.meeting.specs.Meets.{Meeting}
use Rattle.meeting.proofs.templates_meet.Given as goal

abbrev pub invariant-loop-i : goal.invariant-loop-i
invariant-loop-i l = Meeting l.a l.b l.a.count l.i
