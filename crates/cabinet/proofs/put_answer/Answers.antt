-- `cabinet::put_answer` meets its contract. Assumes nothing.
use Rattle.std.specs.Prelude.{◌≤◌, length, take}
use Rattle.std.proofs.Common.{arith}
use Rattle.cabinet.specs.PrintedLaws.{put_refused, put_taken}
use Rattle.cabinet.proofs.put_answer.Goals as goal
use Rattle.cabinet.proofs.put_answer.Goals.{in_default-via-then-returned-lt1, in_default-via-else-returned-lt1+else-returned-lt6}

pub returns-in-1-to-5-clause-text_is : goal.returns-in-1-to-5-clause-text_is
returns-in-1-to-5-clause-text_is c = λ l bytes returned reply enough. put_refused l c.args.returned (take c.refused.result c.refused.new.out) returned (omega arith) (omega arith) (c.refused.ensures.out_after (omega arith))

pub returns-in_default-clause-text_is : goal.returns-in_default-clause-text_is
returns-in_default-clause-text_is c =
    let other : 1 ≤ c.args.returned → c.args.returned ≤ 5 → ⊥ =
    elim c.in_default.branch [ in_default-via-then-returned-lt1 w ↦ λ low high. omega arith | in_default-via-else-returned-lt1+else-returned-lt6 w ↦ λ low high. omega arith ] in
    λ l bytes returned reply enough. put_taken l c.args.returned (length c.args.text.now) c.args.reply.now (take c.lines.result c.lines.new.out) bytes returned reply other enough c.lines.ensures.out_after
