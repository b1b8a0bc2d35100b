-- `spaces::are_legal` meets its contract. Assumes nothing.
use mathlib.Core.Path.{sym, ◌∙◌}
use native.Mathlib.Omega.{arith}
use Rattle.std.proofs.Common.{true≢false}
use borrow.Author.Tests.{le-ltb}
use Rattle.basis.specs.Logic.{true_is}
use Rattle.sections.specs.RowLaws.{bytes_of_lem}
use Rattle.scans.specs.Tests.{clash}
use Rattle.spaces.specs.LegalLaws.{not_legal, then_rising}
use Rattle.spaces.proofs.are_legal.Goals as goal
use Rattle.spaces.proofs.are_legal.Goals.{then-n-gt0, else-n-gt0, then-next-gt0, else-next-gt0, then-unused_zero, else-unused_zero, then-zero_run, else-zero_run}

pub returns-then-accesses_ok : goal.returns-then-accesses_ok
returns-then-accesses_ok c =
    let bytes = bytes_of_lem c.args.spaces.now (λ k. (c.type_inv.spaces k).fits) in
    elim c.if-zero_run.branch [
      | else-zero_run z ↦ cc
      | then-zero_run z ↦ elim c.if-unused_zero.branch [
        | else-unused_zero u ↦ cc
        | then-unused_zero u ↦ elim c.if-next-gt0.branch [
          | else-next-gt0 x ↦ elim c.if-n-gt0.branch [
            | then-n-gt0 w ↦ absurd (true≢false (sym u.if-unused_zero.true ∙ (x.value-is ∙ (w.t-8-is ∙ le-ltb 0 c.args.next (omega arith)))))
            | else-n-gt0 w ↦ absurd (true≢false (sym u.if-unused_zero.true ∙ (x.value-is ∙ (w.t-8-is ∙ le-ltb 0 c.args.n (omega arith)))))
          ]
          | then-next-gt0 x ↦ c.rises.ensures
              ∙ then_rising _ _ _ bytes c.requires.0 c.requires.1 (omega arith) (omega arith)
              (true_is _ (sym x.unused_zero.ensures ∙ (sym x.value-is ∙ u.if-unused_zero.true)))
              (true_is _ (sym u.zero_run.ensures ∙ (sym u.value-is ∙ z.if-zero_run.true)))
              (true_is _ (sym z.accesses_ok.ensures ∙ (sym z.value-is ∙ c.if-accesses_ok.true)))
        ]
      ]
    ]

pub returns-else-accesses_ok : goal.returns-else-accesses_ok
returns-else-accesses_ok c =
    let bytes = bytes_of_lem c.args.spaces.now (λ k. (c.type_inv.spaces k).fits) in
    c.if-accesses_ok.false ∙ not_legal c.args.spaces.now c.args.n c.args.next bytes c.requires.0 c.requires.1 (λ t.
    elim c.if-zero_run.branch [
      | then-zero_run z ↦ clash _ _ t.access z.accesses_ok.ensures (sym z.value-is ∙ c.if-accesses_ok.false)
      | else-zero_run z ↦ elim c.if-unused_zero.branch [
        | then-unused_zero u ↦ clash _ _ t.first u.zero_run.ensures (sym u.value-is ∙ z.if-zero_run.false)
        | else-unused_zero u ↦ elim c.if-next-gt0.branch [
          | then-next-gt0 x ↦ clash _ _ t.unused x.unused_zero.ensures (sym x.value-is ∙ u.if-unused_zero.false)
          | else-next-gt0 x ↦ omega (arith, t.some, t.above)
        ]
      ]
    ])
