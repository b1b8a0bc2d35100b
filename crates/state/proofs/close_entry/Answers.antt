-- `state::close_entry` meets its contract. Assumes nothing.
use native.Mathlib.Omega.{arith}
use Rattle.lent.specs.Sections.{is_listed}
use Rattle.state.specs.SpaceChanges.{unlists}
use Rattle.state.proofs.close_entry.Goals as goal

pub close-left-requires : goal.close-left-requires
close-left-requires c = is_listed _ _ c.requires.0 c.space_count-n.ensures.0

pub set_space_count-requires : goal.set_space_count-requires
set_space_count-requires c = (omega arith, c.close-left.ensures.few)

pub returns : goal.returns
returns c =
    unlists c.args.space c.requires.0 c.requires.1 c.requires.2 c.space_count-n.ensures.0 c.close-left.ensures c.set_space_count.ensures
