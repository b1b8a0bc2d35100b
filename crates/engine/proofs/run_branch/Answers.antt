-- `engine::run_branch` meets its contract. Assumes nothing.
use mathlib.Core.Path.{◌≡◌, sym, ap, subst}
use Prim.Native.Nat.{ℕ, ◌+◌}
use native.Mathlib.Omega.{arith}
use mathlib.Core.List.{List}
use lib.ListN.{get_or}
use Rattle.basis.specs.Sizes.{count_width}
use Rattle.model.specs.Matching.{unbound}
use Rattle.model.specs.Execution.{perform_all}
use Rattle.statements.specs.Flat.{operation_is}
use Rattle.tuples.specs.Section.{tuple_shape, tuples_of}
use Rattle.sections.specs.Shapes.{items_length}
use Rattle.bindings.specs.Variables.{bindings_of}
use Rattle.walk.specs.Walk.{operations_at}
use Rattle.operations.specs.Performing.{Leaves}
use Rattle.operations.specs.Codes.{leaves_as, room_after}
use Rattle.engine.specs.Ahead.{Ahead, due_done}
use Rattle.engine.specs.Unfailing.{unfailing}
use Rattle.engine.specs.Attempting.{body_of, branch_of}
use Rattle.engine.proofs.run_branch.Goals as goal
use Rattle.engine.proofs.run_branch.Goals.{After-perform_guard-d}

-- the guard is done
module _ (c : After-perform_guard-d) where
  abbrev bytes : List ℕ
  bytes = c.args.body.now

  abbrev from : ℕ
  from = c.args.guard.now.1 + count_width

  abbrev count : ℕ
  count = get_or bytes c.args.guard.now.1 0

  goes : (Ahead bytes from count (bindings_of c.perform_guard-d.result.vars))
      × (perform_all (branch_of bytes c.args.guard.now) unbound (tuples_of c.args.tuples.now c.args.n) ≡ perform_all (body_of bytes c.args.guard.now) (bindings_of c.perform_guard-d.result.vars) (tuples_of c.perform_guard-d.new.tuples c.perform_guard-d.result.n))
  goes =
      let d = c.perform_guard-d in
      due_done bytes (operation_is c.args.guard.now.0) from count unbound c.requires.1.due (tuples_of c.args.tuples.now c.args.n) d.result.n d.result.vars _ d.result.outcome d.ensures.0 d.ensures.1 c.requires.0.lawful

pub run_operations-requires : goal.run_operations-requires
run_operations-requires c =
    (c.perform_guard-d.ensures.1, c.perform_guard-d.ensures.0.section, subst (λ (k : ℕ). Ahead (bytes (goal.at.run_operations-requires c).After-perform_guard-d) (from (goal.at.run_operations-requires c).After-perform_guard-d) k (bindings_of c.perform_guard-d.result.vars)) (sym c.size.ensures.0) (goes (goal.at.run_operations-requires c).After-perform_guard-d).0)

pub returns : goal.returns
returns c =
    let d = c.perform_guard-d in
    let r = c.run_operations.new.d in
    let body = body_of (bytes (goal.at.returns c).After-perform_guard-d) c.args.guard.now in
    let bs = bindings_of d.result.vars in
    let ts = tuples_of d.new.tuples d.result.n in
    let ran : Leaves (perform_all body bs ts) r.outcome r.n r.vars c.run_operations.new.tuples =
    leaves_as _ _ r.outcome r.n r.vars _ (ap (λ (k : ℕ). perform_all (operations_at (bytes (goal.at.returns c).After-perform_guard-d) (from (goal.at.returns c).After-perform_guard-d) k) bs ts) c.size.ensures.0) c.run_operations.ensures in (
      leaves_as _ _ r.outcome r.n r.vars _ (sym (goes (goal.at.returns c).After-perform_guard-d).1) ran,
      λ h. unfailing (room_after c.args.guard.now.0.code c.args.n) body bs ts r.outcome r.n r.vars _ (omega (arith, items_length tuple_shape d.new.tuples d.result.n, d.ensures.2)) ran h,
    )
