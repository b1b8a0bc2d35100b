-- `notices::crash` meets its contract. Assumes nothing.
use native.Mathlib.Omega.{arith}
use Rattle.header.specs.StoredLaws.{said}
use Rattle.notices.specs.Walks.{walk_start, walk_more, pair_ahead, notified_keeps, all_told}
use Rattle.notices.proofs.crash.Goals as goal

pub drop_host-requires : goal.drop_host-requires
drop_host-requires c = c.requires

pub monitors-monitors-requires : goal.monitors-monitors-requires
monitors-monitors-requires c = omega (arith, c.drop_host.ensures.long)

pub loop-m-init : goal.loop-m-init
loop-m-init c = walk_start _ _ 1 (said _ _ c.drop_host.ensures)

pub notify-requires : goal.notify-requires
notify-requires c =
    let k = c.loop-m.invariant in
    (said _ _ k, pair_ahead _ (notified_keeps _) _ _ _ _ k (omega (arith, c.monitors-monitors.ensures.0)) c.requires.1)

pub loop-m-preserved : goal.loop-m-preserved
loop-m-preserved c =
    walk_more _ _ _ _ c.loop-m.m 1 _ c.loop-m.invariant (omega arith) c.notify.ensures

pub returns : goal.returns
returns c =
    all_told c.args.state.now _ _ c.args.host c.loop-m.m c.drop_host.ensures (omega (arith, c.monitors-monitors.ensures.0)) c.loop-m.invariant
