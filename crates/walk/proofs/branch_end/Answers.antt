-- `walk::branch_end` meets its contract. Assumes nothing.
use mathlib.Core.Path.{refl, sym, ◌∙◌}
use mathlib.Core.Bool.{true}
use Rattle.std.proofs.Common.{ltb-false}
use Rattle.std.specs.Prelude.{None, Some}
use Rattle.basis.specs.Choice.{given}
use Rattle.basis.specs.Lists.{all}
use Rattle.statements.specs.Flat.{few_fields}
use Rattle.walk.specs.Branches.{no_count, counted_body}
use Rattle.walk.specs.BranchEnds.{bare_end, no_guard, guard_passed}
use Rattle.walk.proofs.branch_end.Goals as goal

pub returns-in_err-end : goal.returns-in_err-end
returns-in_err-end c = let e = c.in_err-end.ensures in rw c.from_residual.ensures (no_guard c.args.b.now c.args.at (bare_end c.args.b.now c.args.at None e))

pub returns-in_err-get : goal.returns-in_err-get
returns-in_err-get c = let e = c.in_ok-end.ensures in
    let h = c.in_err-get.ensures in
    rw c.from_residual-in_err-get.ensures
    (no_count (λ n. true) (all few_fields) c.args.b.now c.in_ok-end.end (ltb-false _ _ (sym h.lookup.0))
    ∙ guard_passed c.args.b.now c.args.at c.in_ok-end.end (bare_end c.args.b.now c.args.at (Some (c.in_ok-end.field-0-0, c.in_ok-end.end)) e))

pub returns : goal.returns
returns c = let e = c.in_ok-end.ensures in
    let h = c.in_ok-get.ensures.lookup.3 in
    counted_body (λ n. true) (all few_fields) c.args.b.now c.in_ok-end.end h.0 refl c.size-count.result (given c.operations_end.result) (c.size-count.ensures.0 ∙ h.1 0) c.operations_end.ensures
    ∙ guard_passed c.args.b.now c.args.at c.in_ok-end.end (bare_end c.args.b.now c.args.at (Some (c.in_ok-end.field-0-0, c.in_ok-end.end)) e)
