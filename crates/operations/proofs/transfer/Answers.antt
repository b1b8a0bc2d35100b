-- `operations::transfer` meets its contract. Assumes nothing.
use mathlib.Core.Path.{refl, subst}
use Rattle.std.specs.Prelude.{ℕ, Option}
use Rattle.moves.specs.Moves.{relocated, Copies}
use Rattle.tuples.specs.Section.{tuples_of}
use Rattle.bindings.specs.Fields.{fields_in}
use Rattle.bindings.specs.Variables.{bindings_of}
use Rattle.operations.specs.Performing.{transfer_moved, transfer_full, transfer_copied}
use Rattle.operations.proofs.transfer.Goals as goal

pub returns-then-withdraws : goal.returns-then-withdraws
returns-then-withdraws c =
    let a = c.args in
    transfer_moved (bindings_of a.v.now) a.op.now.from a.op.now.to (fields_in a.op.now) a.tuples.now a.n a.v.now refl c.template_of-t.result c.template_of-t.ensures.0 _ a.withdraws c.if-withdraws.true c.move_all.ensures

pub returns-in-Some : goal.returns-in-Some
returns-in-Some c =
    let a = c.args in
    transfer_copied (bindings_of a.v.now) a.op.now.from a.op.now.to (fields_in a.op.now) a.tuples.now a.n a.v.now refl c.template_of-t.result c.template_of-t.ensures.0 _ _ a.withdraws c.if-withdraws.false
    (subst (λ (r : Option ℕ). Copies r a.tuples.now c.copy_all.new.tuples a.n (relocated c.template_of-t.result a.op.now.to (tuples_of a.tuples.now a.n))) c.in-Some.is c.copy_all.ensures)

pub returns-in-None : goal.returns-in-None
returns-in-None c =
    let a = c.args in
    transfer_full (bindings_of a.v.now) a.op.now.from a.op.now.to (fields_in a.op.now) a.tuples.now a.n a.v.now refl c.template_of-t.result c.template_of-t.ensures.0 _ a.withdraws c.if-withdraws.false c.requires.0
    (subst (λ (r : Option ℕ). Copies r a.tuples.now c.copy_all.new.tuples a.n (relocated c.template_of-t.result a.op.now.to (tuples_of a.tuples.now a.n))) c.in-None.is c.copy_all.ensures)
