-- `engine::run_saved` meets its contract. Assumes nothing.
use mathlib.Core.Path.{◌≡◌, ap, ◌∙◌}
use native.Mathlib.Omega.{arith}
use lib.ListN.{length}
use Rattle.basis.specs.Lists.{zeros}
use Rattle.tuples.specs.Section.{tuple_shape, tuples_of}
use Rattle.sections.specs.Shapes.{holds_length}
use Rattle.sections.specs.FirstRows.{over_zeros}
use Rattle.engine.specs.Attempting.{whole_done, whole_failed}
use Rattle.engine.proofs.run_saved.Goals as goal
use Rattle.engine.proofs.run_saved.Goals.{After-run_branch-d}

-- the rows are saved, and the branch ran
saved : (c : After-run_branch-d) → c.copy_rows.new.d ≡ c.args.tuples.now
unfolding zeros
saved c = c.copy_rows.ensures ∙ over_zeros tuple_shape c.args.tuples.now c.args.n _ c.requires.0

pub copy_rows-requires : goal.copy_rows-requires
copy_rows-requires c =
    let long = holds_length tuple_shape _ _ _ c.requires.0 in
    let few = c.requires.0.few in
    (omega arith, omega arith)

pub copy_rows-requires-then-d-ne0 : goal.copy_rows-requires-then-d-ne0
copy_rows-requires-then-d-ne0 c =
    let l = c.max.ensures in
    let few = c.requires.0.few in
    let left = c.run_branch-d.ensures.0.section.few in
    let long = holds_length tuple_shape _ _ _ c.requires.0 in
    let same = c.run_branch-d.auto.tuples in
    let kept = ap length (saved (goal.at.copy_rows-requires-then-d-ne0 c).After-run_branch-d) in
    (omega arith, omega arith)

pub shape_of-tuples-then-d-ne0 : goal.shape_of-tuples-then-d-ne0
shape_of-tuples-then-d-ne0 c = c.copy_rows-then-d-ne0.auto.d ∙ c.run_branch-d.auto.tuples

pub returns-then-d-ne0 : goal.returns-then-d-ne0
returns-then-d-ne0 c =
    let r = c.run_branch-d.result in
    whole_failed _ (tuples_of c.args.tuples.now c.args.n) r.outcome r.n r.vars c.run_branch-d.new.tuples c.run_branch-d.ensures.0 c.if-d-ne0.true c.args.tuples.now _ _ c.args.n c.max.result
    c.requires.0 (saved (goal.at.returns-then-d-ne0 c).After-run_branch-d) (omega (arith, c.max.ensures)) (omega (arith, c.max.ensures)) c.copy_rows-then-d-ne0.ensures

pub shape_of-tuples : goal.shape_of-tuples
shape_of-tuples c = c.run_branch-d.auto.tuples

pub returns : goal.returns
returns c =
    let a = c.args in
    let r = c.run_branch-d.result in
    whole_done _ (tuples_of c.args.tuples.now a.n) r.outcome r.n r.vars _ c.run_branch-d.ensures.0 c.if-d-ne0.false
