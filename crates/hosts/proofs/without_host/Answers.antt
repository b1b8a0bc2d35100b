-- `hosts::without_host` meets its contract. Assumes nothing.
use native.Mathlib.Omega.{arith}
use Rattle.hosts.proofs.Masks.{falls}
use Rattle.hosts.proofs.without_host.Goals as goal

pub overflow_sub-result : goal.overflow_sub-result
overflow_sub-result c = omega (arith, falls c.args.up c.ranges.up.fits c.args.host c.requires.0 c.requires.1)

pub returns : goal.returns
returns c = omega (arith, falls c.args.up c.ranges.up.fits c.args.host c.requires.0 c.requires.1)
