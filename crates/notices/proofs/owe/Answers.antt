-- `notices::owe` meets its contract. Assumes nothing.
use mathlib.Core.Path.{sym, ◌∙◌}
use native.Mathlib.Omega.{arith}
use Rattle.notices.specs.PairLaws.{place_low, mask_at_lem, row_at, pair_set, pair_kept}
use Rattle.notices.proofs.owe.Goals as goal

pub place-requires : goal.place-requires
place-requires c = c.requires.1.one

pub owed-mask-requires : goal.owed-mask-requires
owed-mask-requires c = (omega arith, omega (arith, c.place.ensures, place_low _ _ _ c.requires.0 c.requires.1))

pub has_host-requires : goal.has_host-requires
has_host-requires c = c.requires.1.low

pub place-requires-then-not-has_host : goal.place-requires-then-not-has_host
place-requires-then-not-has_host c = c.requires.1.one

pub with_host-requires : goal.with_host-requires
with_host-requires c = (c.requires.1.low, sym c.has_host.ensures ∙ c.if-not-has_host.true)

pub set_owed-requires : goal.set_owed-requires
set_owed-requires c = (omega arith, omega (arith, c.place-then-not-has_host.ensures, place_low _ _ _ c.requires.0 c.requires.1))

pub shape_of-state-then-not-has_host : goal.shape_of-state-then-not-has_host
shape_of-state-then-not-has_host c = c.set_owed.auto.state

pub returns-then-not-has_host : goal.returns-then-not-has_host
returns-then-not-has_host c =
    pair_set c.args.state.now _ c.owed-mask.result _ c.args.monitor c.args.host _ c.requires.0 c.requires.1 (mask_at_lem _ _ _ c.args.monitor c.place.ensures c.owed-mask.ensures.0) c.with_host.ensures (row_at _ _ _ _ c.args.monitor c.place-then-not-has_host.ensures c.set_owed.ensures)

pub returns-else-not-has_host : goal.returns-else-not-has_host
returns-else-not-has_host c =
    pair_kept c.args.state.now c.owed-mask.result c.args.monitor c.args.host c.requires.0 c.requires.1 (mask_at_lem _ _ _ c.args.monitor c.place.ensures c.owed-mask.ensures.0) (sym c.has_host.ensures ∙ c.if-not-has_host.false)
