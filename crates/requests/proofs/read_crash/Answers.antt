-- `requests::read_crash` meets its contract. Assumes nothing.
use Rattle.requests.specs.BodyLaws.{crash_yes, crash_no}
use Rattle.requests.proofs.read_crash.Goals as goal

pub returns-in_err-host : goal.returns-in_err-host
returns-in_err-host c = rw c.from_residual.ensures (crash_no c.args.body.now c.in_err-host.ensures, tt)

pub returns : goal.returns
returns c = (crash_yes c.args.body.now _ c.in_ok-host.ensures, c.in_ok-host.ensures.small)
