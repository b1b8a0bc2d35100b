-- `statements::pass_operation` meets its contract. Assumes nothing.
use Rattle.statements.specs.Front.{bare_at, fields_passed}
use Rattle.std.proofs.Math.Option.{none, some}
use Rattle.statements.proofs.pass_operation.Goals as goal

pub returns-in_err-f : goal.returns-in_err-f
unfolding bare_at
returns-in_err-f c = let e = c.in_err-f.ensures in rw (c.from_residual.ensures, ← e)

pub returns-in_err-end : goal.returns-in_err-end
returns-in_err-end c = let h = c.in_ok-f.ensures in
    let e = c.in_err-end.ensures in
    rw c.from_residual-in_err-end.ensures (fields_passed c.in_ok-f.f c.args.b.now _ h none e)

pub returns : goal.returns
returns c = let h = c.in_ok-f.ensures in
    let e = c.in_ok-end.ensures in
    fields_passed c.in_ok-f.f c.args.b.now _ h (some c.in_ok-end.end) e
