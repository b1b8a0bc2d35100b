-- `spaces::denied_at` meets its contract. Assumes nothing.
use mathlib.Core.Path.{◌∙◌}
use borrow.Author.Tests.{ne_eqb}
use Rattle.spaces.specs.SpaceLaws.{open_to_all, open_to_one}
use Rattle.spaces.proofs.denied_at.Goals as goal

pub returns-then-field-eq1 : goal.returns-then-field-eq1
returns-then-field-eq1 c =
    rw c.from.ensures (open_to_one _ _ _ c.requires.0 c.requires.1 _ _ _ c.field.ensures c.field-then-field-eq1.ensures c.if-field-eq1.true)

pub returns-else-field-eq1 : goal.returns-else-field-eq1
returns-else-field-eq1 c =
    ne_eqb _ _ c.if-field-eq1.false ∙ open_to_all _ _ _ c.requires.0 c.requires.1 _ _ c.field.ensures c.if-field-eq1.false
