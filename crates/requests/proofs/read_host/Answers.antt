-- `requests::read_host` meets its contract. Assumes nothing.
use mathlib.Core.Path.{refl}
use Rattle.requests.specs.BodyLaws.{from_no, from_past, from_yes}
use Rattle.requests.proofs.read_host.Goals as goal

pub returns-then-body-n : goal.returns-then-body-n
returns-then-body-n c = from_no c.args.body.now c.args.n c.if-body-n.true

pub returns-then-host-ge-HOSTS : goal.returns-then-host-ge-HOSTS
returns-then-host-ge-HOSTS c = from_past _ _ _ c.if-body-n.false refl c.if-host-ge-HOSTS.true

pub returns : goal.returns
returns c = from_yes _ _ _ c.if-body-n.false refl c.if-host-ge-HOSTS.false
