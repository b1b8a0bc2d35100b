-- `bodies::branch_ok` meets its contract. Assumes nothing.
use Rattle.std.proofs.Common.{◌≡◌, ◌<◌, sym, ◌∙◌, length, get_or, le-leb, ltb-true, ltb-false}
use Rattle.std.proofs.lemmas.Bool.{lt-leb}
use Rattle.std.proofs.lemmas.List.{get_or_default}
use Rattle.basis.specs.Choice.{given}
use Rattle.basis.specs.Sizes.{most_operations}
use Rattle.fields.specs.Kinds.{kinds_are}
use Rattle.walk.specs.Branches.{no_count, too_many, counted_body}
use Rattle.legality.specs.Steps.{body_legal}
use Rattle.bodies.specs.BranchLaws.{few_operations, no_guard, guard_legal}
use Rattle.bodies.proofs.branch_ok.Goals as goal
use Rattle.bodies.proofs.branch_ok.Goals.{In_ok-count}

-- the count stands after the guard
there : (c : In_ok-count) → (c.in_ok-kinds.end < length c.args.b.now) × (c.in_ok-count.field-0.now ≡ get_or c.args.b.now c.in_ok-kinds.end 0)
there c = let h : c.in_ok-kinds.end < length c.args.b.now = ltb-true _ _ (sym c.in_ok-count.ensures.lookup.0) in
    (h, c.in_ok-count.ensures.lookup.1 ∙ get_or_default c.args.b.now c.in_ok-kinds.end c.in_ok-count.field-0.now 0 h)

pub returns-in_err-kinds : goal.returns-in_err-kinds
unfolding kinds_are
returns-in_err-kinds c = rw c.from_residual.ensures (no_guard c.args.b.now c.args.at c.in_err-kinds.ensures)

pub returns-in_err-count : goal.returns-in_err-count
unfolding kinds_are
returns-in_err-count c =
    rw c.from_residual-in_err-count.ensures
    (no_count few_operations (body_legal (kinds_are c.in_ok-kinds.kinds)) c.args.b.now c.in_ok-kinds.end (ltb-false _ _ (sym c.in_err-count.ensures.lookup.0)) ∙ guard_legal c.args.b.now c.args.at (kinds_are c.in_ok-kinds.kinds) c.in_ok-kinds.end c.in_ok-kinds.ensures)

pub returns-then-count-gt-MOST_OPERATIONS : goal.returns-then-count-gt-MOST_OPERATIONS
unfolding kinds_are
returns-then-count-gt-MOST_OPERATIONS c = let t = there (goal.at.returns-then-count-gt-MOST_OPERATIONS c).In_ok-count in
    too_many few_operations (body_legal (kinds_are c.in_ok-kinds.kinds)) c.args.b.now c.in_ok-kinds.end t.0 (rw t.1 at (lt-leb c.in_ok-count.field-0.now most_operations c.if-count-gt-MOST_OPERATIONS.true))
    ∙ guard_legal c.args.b.now c.args.at (kinds_are c.in_ok-kinds.kinds) c.in_ok-kinds.end c.in_ok-kinds.ensures

pub returns : goal.returns
unfolding kinds_are
returns c = let t = there (goal.at.returns c).In_ok-count in
    counted_body few_operations (body_legal (kinds_are c.in_ok-kinds.kinds)) c.args.b.now c.in_ok-kinds.end t.0 (rw t.1 at (le-leb c.in_ok-count.field-0.now most_operations c.if-count-gt-MOST_OPERATIONS.false)) c.size.result (given c.operations_ok.result) (c.size.ensures.0 ∙ t.1) c.operations_ok.ensures
    ∙ guard_legal c.args.b.now c.args.at (kinds_are c.in_ok-kinds.kinds) c.in_ok-kinds.end c.in_ok-kinds.ensures
