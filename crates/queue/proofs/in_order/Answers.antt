-- `queue::in_order` meets its contract. Assumes nothing.
use mathlib.Core.Path.{◌∙◌}
use Rattle.queue.specs.LegalLaws.{order_is}
use Rattle.queue.proofs.in_order.Goals as goal

pub returns : goal.returns
returns c = c.rises.ensures ∙ order_is _ _ _
