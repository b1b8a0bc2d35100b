-- `refusals::in_use` meets its contract. Assumes nothing.
use mathlib.Core.Path.{sym, ap, ◌∙◌}
use mathlib.Core.Bool.{Bool, ◌||◌}
use borrow.Author.Tests.{eq-eqb, ne_eqb}
use Rattle.model.specs.Step.{some_waiting_names}
use Rattle.layout.specs.States.{decode}
use Rattle.refusals.proofs.in_use.Goals as goal

pub returns-then-space-eq0 : goal.returns-then-space-eq0
returns-then-space-eq0 c = sym (ap (λ (t : Bool). t || some_waiting_names (decode c.args.state.now) c.args.space) (eq-eqb c.args.space 0 c.if-space-eq0.true))

pub returns : goal.returns
returns c = c.named_by_waiting.ensures ∙ sym (ap (λ (t : Bool). t || some_waiting_names (decode c.args.state.now) c.args.space) (ne_eqb c.args.space 0 c.if-space-eq0.false))
