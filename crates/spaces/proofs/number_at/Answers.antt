-- `spaces::number_at` meets its contract. Assumes nothing.
use Rattle.spaces.specs.SearchLaws.{number_at_lem}
use Rattle.spaces.proofs.number_at.Goals as goal

pub returns : goal.returns
returns c = number_at_lem _ _ _ _ c.requires.1 c.space_number.ensures
