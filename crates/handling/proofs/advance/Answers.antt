-- `handling::advance` meets its contract. Assumes nothing.
use native.Mathlib.Omega.{arith}
use mathlib.Core.Path.{subst, ◌∙◌}
use Prim.Native.Nat.{ℕ}
use Rattle.model.specs.Run.{with_last}
use Rattle.layout.specs.States.{decode}
use Rattle.layout.specs.Stored.{Stored}
use Rattle.handling.specs.AnswerLaws.{number_read}
use Rattle.handling.proofs.advance.Goals as goal

pub number-position-requires : goal.number-position-requires
number-position-requires c = omega (arith, (number_read c.args.input.now _ c.requires.1).long)

pub set_last-requires : goal.set_last-requires
set_last-requires c =
    (c.requires.0, omega (arith, c.number-position.ensures.0, (number_read c.args.input.now _ c.requires.1).position))

pub returns : goal.returns
returns c =
    subst (λ (n : ℕ). Stored c.set_last.new.state (with_last (decode c.args.state.now) n)) (c.number-position.ensures.0 ∙ (number_read c.args.input.now _ c.requires.1).position) c.set_last.ensures
