-- `requests::read_monitor` meets its contract. Assumes nothing.
use Rattle.requests.specs.BodyLaws.{monitor_yes, monitor_no}
use Rattle.requests.proofs.read_monitor.Goals as goal

pub returns-in_err-host : goal.returns-in_err-host
returns-in_err-host c = rw c.from_residual.ensures (monitor_no c.args.body.now c.in_err-host.ensures, tt)

pub returns : goal.returns
returns c = (monitor_yes c.args.body.now _ _ c.in_ok-host.ensures, c.in_ok-host.ensures.first.small)
