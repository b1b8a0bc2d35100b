-- `hosts::hosts_up` meets its contract. Assumes nothing.
use Rattle.hosts.proofs.Masks.{up_count}
use Rattle.hosts.proofs.hosts_up.Goals as goal

pub returns : goal.returns
returns c = up_count c.args.up c.ranges.up.fits
