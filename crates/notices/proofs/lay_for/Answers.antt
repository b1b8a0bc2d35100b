-- `notices::lay_for` meets its contract. Assumes nothing.
use native.Mathlib.Omega.{arith}
use mathlib.Core.Path.{◌≡◌}
use Rattle.basis.specs.Sizes.{hosts}
use Rattle.header.specs.StoredLaws.{said}
use Rattle.notices.specs.Walks.{walk_start, walk_more, host_ahead, all_hosts}
use Rattle.notices.proofs.lay_for.Goals as goal

pub loop-host-init : goal.loop-host-init
loop-host-init c = walk_start _ _ 0 c.requires.0

pub lay_one-requires : goal.lay_one-requires
lay_one-requires c =
    (said _ _ c.loop-host.invariant, host_ahead c.args.monitor _ _ _ c.loop-host.invariant c.requires.1 (omega arith))

pub loop-host-preserved : goal.loop-host-preserved
loop-host-preserved c =
    walk_more _ _ _ _ c.loop-host.host 0 _ c.loop-host.invariant (omega arith) c.lay_one.ensures

pub returns : goal.returns
returns c = let e : c.loop-host.host ≡ hosts = omega arith in all_hosts _ _ _ (rw e at c.loop-host.invariant)
