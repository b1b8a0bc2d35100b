-- `spaces::reaches` meets its contract. Assumes nothing.
use mathlib.Core.Path.{◌∙◌}
use borrow.Author.Tests.{le-ltb}
use Rattle.spaces.specs.SearchLaws.{reach_past, reach_number}
use Rattle.spaces.proofs.reaches.Goals as goal

pub returns-then-i-n : goal.returns-then-i-n
returns-then-i-n c = reach_number _ _ _ _ _ c.number_at.ensures c.if-i-n.true

pub returns-else-i-n : goal.returns-else-i-n
returns-else-i-n c = le-ltb _ _ c.if-i-n.false ∙ reach_past _ _ _ _ c.if-i-n.false
