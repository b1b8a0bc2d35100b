-- `meeting::templates_meet` meets its contract. Assumes nothing.
use Rattle.std.proofs.Common.{sym}
use Rattle.meeting.specs.Meets.{differ, meeting_start, meeting_miss, meeting_more, meeting_end}
use Rattle.meeting.proofs.templates_meet.Goals as goal

pub returns-then-a-b : goal.returns-then-a-b
returns-then-a-b c = differ c.args.a c.args.b c.then-a-b.either

pub loop-i-init : goal.loop-i-init
loop-i-init c = meeting_start c.args.a c.args.b c.if-a-b.false c.if-a-b-2.false

pub returns-then-not-fields_meet : goal.returns-then-not-fields_meet
returns-then-not-fields_meet c = meeting_miss c.args.a c.args.b c.args.a.count c.loop-i.i c.loop-i-test.true c.loop-i.invariant (sym c.if-not-fields_meet.ensures)

pub loop-i-preserved : goal.loop-i-preserved
loop-i-preserved c = meeting_more c.args.a c.args.b c.args.a.count c.loop-i.i c.loop-i-test.true c.loop-i.invariant (sym c.if-not-fields_meet.ensures)

pub returns : goal.returns
returns c = meeting_end c.args.a c.args.b c.args.a.count c.loop-i.i c.loop-i-test.false c.loop-i.invariant
