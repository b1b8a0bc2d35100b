-- `notices::lay_all` meets its contract. Assumes nothing.
use native.Mathlib.Omega.{arith}
use lib.Dec.{lit<}
use Rattle.header.specs.StoredLaws.{said}
use Rattle.notices.specs.Walks.{walk_start, walk_more, pair_ahead, laid_for_keeps, all_numbers}
use Rattle.notices.proofs.lay_all.Goals as goal

pub loop-m-init : goal.loop-m-init
loop-m-init c = walk_start _ _ 1 c.requires

pub lay_for-requires : goal.lay_for-requires
lay_for-requires c =
    let k = c.loop-m.invariant in
    (said _ _ k, pair_ahead _ laid_for_keeps _ _ _ 0 k (omega (arith, c.monitors-monitors.ensures.0)) (lit< tt))

pub loop-m-preserved : goal.loop-m-preserved
loop-m-preserved c =
    walk_more _ _ _ _ c.loop-m.m 1 _ c.loop-m.invariant (omega arith) c.lay_for.ensures

pub returns : goal.returns
returns c = all_numbers _ _ c.loop-m.m (omega (arith, c.monitors-monitors.ensures.0)) c.loop-m.invariant
