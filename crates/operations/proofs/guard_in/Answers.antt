-- `operations::guard_in` meets its contract. Assumes nothing.
use mathlib.Core.Path.{◌≡◌, sym, ap, subst, ◌∙◌}
use Prim.Native.Nat.{ℕ, ◌≤◌, ◌<◌}
use mathlib.Core.List.{List}
use native.Mathlib.Omega.{arith}
use mathlib.Core.Bool.{true, false}
use Rattle.model.specs.Matching.{Bindings, unbound}
use Rattle.statements.specs.declared.Operation.{Operation}
use Rattle.statements.specs.Flat.{operation_is}
use Rattle.tuples.specs.Section.{tuples_of}
use Rattle.walk.specs.Choosing.{Finds}
use Rattle.bindings.specs.declared.Vars.{Vars}
use Rattle.bindings.specs.Fields.{fields_in}
use Rattle.bindings.specs.Variables.{bindings_of}
use Rattle.operations.specs.Performing.{look_up, OldestAt, at_below, leaves_done}
use Rattle.operations.specs.Codes.{leaves_as, code_true, code_in, code_rd, guard_at, room_true, room_taken, room_left}
use Rattle.operations.proofs.guard_in.Goals as goal

-- a guard that is not true
module _ (o : Operation) (p : List ℕ) (n i : ℕ) (f : Finds (tuples_of p n) (operation_is o) i) (z : o.code ≡ 0 → ⊥) where
  found : (o.code < 5) × OldestAt unbound o.from (fields_in o) p n i
  found = guard_at o p n i f z

  found_with : (v : Vars) → bindings_of v ≡ unbound → OldestAt (bindings_of v) o.from (fields_in o) p n i
  found_with v e = subst (λ (bs : Bindings). OldestAt bs o.from (fields_in o) p n i) (sym e) found.1

  below : i < n
  below = at_below unbound o.from (fields_in o) p n i found.1

pub take_found-requires : goal.take_found-requires
take_found-requires c =
    let a = c.args in
    let z : a.op.now.code ≡ 0 → ⊥ = λ e. omega arith in
    (c.requires.0, c.requires.1, found_with a.op.now a.tuples.now a.n a.i c.requires.2 z a.v.now c.requires.3)

pub take_found-requires-in_default : goal.take_found-requires-in_default
take_found-requires-in_default c =
    let a = c.args in
    let z : a.op.now.code ≡ 0 → ⊥ = λ e. omega arith in
    (c.requires.0, c.requires.1, found_with a.op.now a.tuples.now a.n a.i c.requires.2 z a.v.now c.requires.3)

pub returns-in-0 : goal.returns-in-0
returns-in-0 c =
    let a = c.args in
    let ts = tuples_of a.tuples.now a.n in (
      leaves_as _ _ 0 a.n a.v.now a.tuples.now (code_true a.op.now unbound ts c.in-0.is) (leaves_done unbound ts a.n a.v.now a.tuples.now c.requires.3 c.requires.0),
      omega (arith, room_true a.op.now.code a.n c.in-0.is, c.requires.0.few),
    )

pub returns-in-1 : goal.returns-in-1
returns-in-1 c =
    let a = c.args in
    let ts = tuples_of a.tuples.now a.n in
    let r = c.take_found in
    let z : a.op.now.code ≡ 0 → ⊥ = λ e. omega arith in
    let few : a.op.now.code < 3 = omega arith in (
      leaves_as _ _ 0 r.result r.new.v _
          (ap (λ (bs : Bindings). look_up true bs a.op.now.from (fields_in a.op.now) ts) c.requires.3 ∙ code_in a.op.now unbound ts z few) r.ensures.0,
      room_taken a.op.now.code a.n a.i r.result (below a.op.now a.tuples.now a.n a.i c.requires.2 z) c.requires.0.few z few r.ensures.1,
    )

pub returns-in_default : goal.returns-in_default
returns-in_default c =
    let a = c.args in
    let ts = tuples_of a.tuples.now a.n in
    let r = c.take_found-in_default in
    let z : a.op.now.code ≡ 0 → ⊥ = λ e. omega arith in
    let many : 3 ≤ a.op.now.code = omega arith in (
      leaves_as _ _ 0 r.result r.new.v _
          (ap (λ (bs : Bindings). look_up false bs a.op.now.from (fields_in a.op.now) ts) c.requires.3 ∙ code_rd a.op.now unbound ts many (found a.op.now a.tuples.now a.n a.i c.requires.2 z).0) r.ensures.0,
      room_left a.op.now.code a.n r.result c.requires.0.few many r.ensures.1,
    )
