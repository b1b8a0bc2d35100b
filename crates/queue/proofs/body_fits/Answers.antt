-- `queue::body_fits` meets its contract. Assumes nothing.
use mathlib.Core.Path.{◌∙◌}
use borrow.Author.Tests.{lt-leb}
use Rattle.queue.specs.LegalLaws.{no_room, then_zeros}
use Rattle.queue.proofs.body_fits.Goals as goal

pub returns-else-len-le-MOST_BODY : goal.returns-else-len-le-MOST_BODY
returns-else-len-le-MOST_BODY c =
    lt-leb _ _ c.if-len-le-MOST_BODY.false ∙ no_room _ _ _ _ c.requires.1 c.body_length-len.ensures.0 c.if-len-le-MOST_BODY.false

pub returns-then-len-le-MOST_BODY : goal.returns-then-len-le-MOST_BODY
returns-then-len-le-MOST_BODY c =
    c.zero_run.ensures ∙ then_zeros _ _ _ _ c.requires.1 c.body_length-len.ensures.0 _ c.body_at.ensures c.if-len-le-MOST_BODY.true
