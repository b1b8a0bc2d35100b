-- `requests::read_recover` meets its contract. Assumes nothing.
use Rattle.requests.specs.BodyLaws.{recover_yes, recover_no}
use Rattle.requests.proofs.read_recover.Goals as goal

pub returns-in_err-host : goal.returns-in_err-host
returns-in_err-host c = rw c.from_residual.ensures (recover_no c.args.body.now c.in_err-host.ensures, tt)

pub returns : goal.returns
returns c = (recover_yes c.args.body.now _ c.in_ok-host.ensures, c.in_ok-host.ensures.small)
