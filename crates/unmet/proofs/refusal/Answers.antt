-- `unmet::refusal` meets its contract. Assumes nothing.
use native.Mathlib.Omega.{arith}
use mathlib.Core.Path.{◌∙◌}
use Rattle.unmet.specs.UnmetLaws.{unmet_18, unmet_13, unmet_waits}
use Rattle.unmet.proofs.refusal.Goals as goal

pub returns-then-not-waits : goal.returns-then-not-waits
returns-then-not-waits c = record { answer = λ s st e n. unmet_18 s st (e ∙ c.if-not-waits.true); waits = tt }

pub returns-then-waiting-ge-MOST_WAITING : goal.returns-then-waiting-ge-MOST_WAITING
returns-then-waiting-ge-MOST_WAITING c = record { answer = λ s st e n. unmet_13 s st (e ∙ c.if-not-waits.false) (omega (arith, c.if-waiting-ge-MOST_WAITING.true, n)); waits = tt }

pub returns : goal.returns
returns c =
    let e' = c.if-not-waits.false in
    record { answer = λ s st e n. unmet_waits s st (e ∙ e') (omega (arith, c.if-waiting-ge-MOST_WAITING.false, n)); waits = record { blocks = e'; room = omega (arith, c.if-waiting-ge-MOST_WAITING.false) } }
