-- `notices::strike` meets its contract. Assumes nothing.
use mathlib.Core.Path.{◌∙◌}
use native.Mathlib.Omega.{arith}
use Rattle.notices.specs.PairLaws.{place_low, mask_at_lem, row_at, pair_read, pair_set}
use Rattle.notices.proofs.strike.Goals as goal

pub place-requires : goal.place-requires
place-requires c = c.requires.1.one

pub owed-mask-requires : goal.owed-mask-requires
owed-mask-requires c = (omega arith, omega (arith, c.place.ensures, place_low _ _ _ c.requires.0 c.requires.1))

pub place-requires-2 : goal.place-requires-2
place-requires-2 c = c.requires.1.one

pub without_host-requires : goal.without_host-requires
without_host-requires c =
    (c.requires.1.low, pair_read _ _ c.args.monitor c.args.host (mask_at_lem _ _ _ c.args.monitor c.place.ensures c.owed-mask.ensures.0) ∙ c.requires.2)

pub set_owed-requires : goal.set_owed-requires
set_owed-requires c = (omega arith, omega (arith, c.place-2.ensures, place_low _ _ _ c.requires.0 c.requires.1))

pub shape_of-state : goal.shape_of-state
shape_of-state c = c.set_owed.auto.state

pub returns : goal.returns
returns c =
    pair_set c.args.state.now _ c.owed-mask.result _ c.args.monitor c.args.host _ c.requires.0 c.requires.1 (mask_at_lem _ _ _ c.args.monitor c.place.ensures c.owed-mask.ensures.0) c.without_host.ensures (row_at _ _ _ _ c.args.monitor c.place-2.ensures c.set_owed.ensures)
