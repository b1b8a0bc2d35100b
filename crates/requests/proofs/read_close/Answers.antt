-- `requests::read_close` meets its contract. Assumes nothing.
use native.Mathlib.Omega.{arith}
use Rattle.requests.specs.OpenLaws.{close_yes, close_no, space_within}
use Rattle.requests.proofs.read_close.Goals as goal

pub returns-in_err-host : goal.returns-in_err-host
returns-in_err-host c = rw c.from_residual.ensures (close_no c.args.body.now c.in_err-host.ensures, tt)

pub returns : goal.returns
returns c =
    let f = c.in_ok-host.ensures in
    let n = c.space_number-space.ensures in
    (close_yes c.args.body.now _ _ _ f n, (f.first.small, omega (arith, n, space_within c.args.body.now (λ k. (c.type_inv.body k).fits))))
