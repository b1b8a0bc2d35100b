-- `hosts::with_host` meets its contract. Assumes nothing.
use Rattle.hosts.proofs.Masks.{rises, rises_fits}
use Rattle.hosts.proofs.with_host.Goals as goal

pub overflow_add-result : goal.overflow_add-result
overflow_add-result c = record { fits = rises_fits c.args.up c.ranges.up.fits c.args.host c.requires.0 c.requires.1 }

pub returns : goal.returns
returns c = rises c.args.up c.ranges.up.fits c.args.host c.requires.0 c.requires.1
