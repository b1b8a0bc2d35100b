-- `notices::is_owed` meets its contract. Assumes nothing.
use mathlib.Core.Path.{◌∙◌}
use native.Mathlib.Omega.{arith}
use Rattle.notices.specs.PairLaws.{place_low, mask_at_lem, pair_read}
use Rattle.notices.proofs.is_owed.Goals as goal

pub place-requires : goal.place-requires
place-requires c = c.requires.1.one

pub owed-requires : goal.owed-requires
owed-requires c = (omega arith, omega (arith, c.place.ensures, place_low _ _ _ c.requires.0 c.requires.1))

pub has_host-requires : goal.has_host-requires
has_host-requires c = c.requires.1.low

pub returns : goal.returns
returns c =
    let a = c.args in
    c.has_host.ensures ∙ pair_read _ _ a.monitor a.host (mask_at_lem _ _ _ a.monitor c.place.ensures c.owed.ensures.0)
