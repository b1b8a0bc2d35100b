-- `operations::perform_in` meets its contract. Assumes nothing.
use native.Mathlib.Omega.{arith}
use mathlib.Core.Path.{refl, sym, ap, subst}
use Rattle.model.specs.Execution.{perform}
use Rattle.tuples.specs.Section.{tuples_of}
use Rattle.bindings.specs.Variables.{bindings_of}
use Rattle.operations.specs.Performing.{leaves_done}
use Rattle.operations.specs.Codes.{CanPerform, leaves_as, code_true, code_in, code_rd, code_out, code_move, code_copy}
use Rattle.operations.proofs.perform_in.Goals as goal

pub deposit-requires : goal.deposit-requires
deposit-requires c =
    (c.requires.0, c.requires.1, subst (CanPerform (bindings_of c.args.v.now)) (sym (code_out c.args.op.now c.in-5.is)) c.requires.2)

pub transfer-requires : goal.transfer-requires
transfer-requires c =
    (c.requires.0, c.requires.1, subst (CanPerform (bindings_of c.args.v.now)) (sym (code_move c.args.op.now c.in-6.is)) c.requires.2)

pub transfer-requires-in_default : goal.transfer-requires-in_default
transfer-requires-in_default c =
    (c.requires.0, c.requires.1, subst (CanPerform (bindings_of c.args.v.now)) (sym (code_copy c.args.op.now (omega arith) (λ z. omega arith) (λ z. omega arith))) c.requires.2)

pub returns-in-0 : goal.returns-in-0
returns-in-0 c =
    let a = c.args in
    let bs = bindings_of a.v.now in
    let ts = tuples_of a.tuples.now a.n in
    leaves_as _ _ 0 a.n a.v.now a.tuples.now (code_true a.op.now bs ts c.in-0.is) (leaves_done bs ts a.n a.v.now a.tuples.now refl c.requires.0)

pub returns-in-5 : goal.returns-in-5
returns-in-5 c =
    let a = c.args in
    let r = c.deposit.result in
    leaves_as _ _ r.0 r.1 a.v.now _ (ap (λ o. perform o (bindings_of a.v.now) (tuples_of a.tuples.now a.n)) (code_out a.op.now c.in-5.is)) c.deposit.ensures

pub returns-in-6 : goal.returns-in-6
returns-in-6 c =
    let a = c.args in
    let r = c.transfer.result in
    leaves_as _ _ r.0 r.1 a.v.now _ (ap (λ o. perform o (bindings_of a.v.now) (tuples_of a.tuples.now a.n)) (code_move a.op.now c.in-6.is)) c.transfer.ensures

pub returns-in-1 : goal.returns-in-1
returns-in-1 c =
    let a = c.args in
    let r = c.look_up.result in
    leaves_as _ _ r.0 r.1 c.look_up.new.v _ (code_in a.op.now (bindings_of a.v.now) (tuples_of a.tuples.now a.n) (λ z. omega arith) (omega arith)) c.look_up.ensures

pub returns-in-3 : goal.returns-in-3
returns-in-3 c =
    let a = c.args in
    let r = c.look_up-in-3.result in
    leaves_as _ _ r.0 r.1 c.look_up-in-3.new.v _ (code_rd a.op.now (bindings_of a.v.now) (tuples_of a.tuples.now a.n) (omega arith) (omega arith)) c.look_up-in-3.ensures

pub returns-in_default : goal.returns-in_default
returns-in_default c =
    let a = c.args in
    let r = c.transfer-in_default.result in
    leaves_as _ _ r.0 r.1 a.v.now _ (ap (λ o. perform o (bindings_of a.v.now) (tuples_of a.tuples.now a.n)) (code_copy a.op.now (omega arith) (λ z. omega arith) (λ z. omega arith))) c.transfer-in_default.ensures
