-- `hosts::has_host` meets its contract. Assumes nothing.
use Rattle.hosts.proofs.Masks.{up_at}
use Rattle.hosts.proofs.has_host.Goals as goal

pub returns : goal.returns
returns c = up_at c.args.up c.ranges.up.fits c.args.host
