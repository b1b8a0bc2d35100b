-- `validation::is_state` meets its contract. Assumes nothing.
use mathlib.Core.Path.{sym, ◌∙◌}
use Rattle.std.proofs.Common.{true≢false}
use native.Mathlib.Omega.{arith}
use borrow.Author.Tests.{ne_eqb}
use Rattle.basis.specs.Logic.{true_is}
use Rattle.header.specs.WholeLaws.{legal_header}
use Rattle.sections.specs.RowLaws.{bytes_of_lem}
use Rattle.validation.specs.StateLaws.{no_length, no_header, then_contents}
use Rattle.validation.proofs.is_state.Goals as goal
use Rattle.validation.proofs.is_state.Goals.{then-b-eq-STATE, else-b-eq-STATE}

pub returns-else-is_legal : goal.returns-else-is_legal
returns-else-is_legal c =
    let bytes = bytes_of_lem c.args.b.now (λ k. (c.type_inv.b k).fits) in
    let no = c.if-is_legal.false in
    elim c.if-b-eq-STATE.branch [
      | then-b-eq-STATE w ↦ no ∙ no_header _ bytes w.if-b-eq-STATE.true _ w.is_legal.ensures (sym w.value-is ∙ no)
      | else-b-eq-STATE w ↦ no ∙ no_length _ w.if-b-eq-STATE.false
    ]

pub contents_ok-requires : goal.contents_ok-requires
contents_ok-requires c =
    elim c.if-b-eq-STATE.branch [
      | then-b-eq-STATE w ↦
          (w.if-b-eq-STATE.true, (legal_header c.args.b.now (omega (arith, w.if-b-eq-STATE.true)) (true_is _ (sym w.is_legal.ensures ∙ (sym w.value-is ∙ c.if-is_legal.true)))).limits)
      | else-b-eq-STATE w ↦ absurd (true≢false (sym c.if-is_legal.true ∙ (w.value-is ∙ ne_eqb _ _ w.if-b-eq-STATE.false)))
    ]

pub returns-then-is_legal : goal.returns-then-is_legal
returns-then-is_legal c =
    let bytes = bytes_of_lem c.args.b.now (λ k. (c.type_inv.b k).fits) in
    elim c.if-b-eq-STATE.branch [
      | then-b-eq-STATE w ↦ c.contents_ok.ensures ∙ then_contents _ bytes w.if-b-eq-STATE.true (true_is _ (sym w.is_legal.ensures ∙ (sym w.value-is ∙ c.if-is_legal.true)))
      | else-b-eq-STATE w ↦ absurd (true≢false (sym c.if-is_legal.true ∙ (w.value-is ∙ ne_eqb _ _ w.if-b-eq-STATE.false)))
    ]
