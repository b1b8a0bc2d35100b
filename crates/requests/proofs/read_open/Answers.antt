-- `requests::read_open` meets its contract. Assumes nothing.
use Rattle.requests.specs.OpenLaws.{open_short, open_no, open_other, open_yes}
use Rattle.requests.proofs.read_open.Goals as goal

-- with no kind byte
pub returns-in-Some : goal.returns-in-Some
returns-in-Some c = (open_short c.args.body.now _ _ c.in-Some.ensures, c.in-Some.ensures.first.small)

-- with one
pub returns-in_err-host : goal.returns-in_err-host
returns-in_err-host c = rw c.from_residual.ensures (open_no c.args.body.now c.in_default.ensures c.in_err-host.ensures, tt)

pub returns-then-kind-gt1 : goal.returns-then-kind-gt1
returns-then-kind-gt1 c = (open_other c.args.body.now c.in_default.ensures _ _ c.in_ok-host.ensures c.if-kind-gt1.true, tt)

pub returns : goal.returns
returns c = (open_yes c.args.body.now c.in_default.ensures _ _ c.in_ok-host.ensures c.if-kind-gt1.false, c.in_ok-host.ensures.first.small)
