-- `queue::leave` meets its contract. Assumes nothing.
use native.Mathlib.Omega.{arith}
use Rattle.sections.specs.Shapes.{holds_section, holds_cut}
use Rattle.queue.specs.Queue.{waiting_shape}
use Rattle.queue.proofs.leave.Goals as goal

pub cut-requires : goal.cut-requires
cut-requires c = (holds_section waiting_shape _ _ _ c.requires.0, omega (arith, c.requires.1))

pub returns : goal.returns
returns c =
    holds_cut waiting_shape _ _ _ c.requires.0 _ _ c.cut.ensures
