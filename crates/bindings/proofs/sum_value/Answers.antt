-- `bindings::sum_value` meets its contract. Assumes nothing.
use mathlib.Core.Path.{sym}
use Rattle.model.specs.Value.{value}
use Rattle.values.specs.Meaning.{value_is}
use Rattle.sums.specs.Answers as Answers
use Rattle.bindings.specs.Variables.{bindings_of}
use Rattle.bindings.specs.Making.{operands, sum_given, sum_refused}
use Rattle.bindings.proofs.sum_value.Goals as goal

pub add-requires : goal.add-requires
add-requires c =
    let a = c.args in
    operands (bindings_of a.v.now) a.f.variable (value a.f.kind a.f.bits) c.held-h.result.kind c.held-h.result.bits c.held-h.ensures c.requires

pub bits-requires : goal.bits-requires
bits-requires c =
    let a = c.args in
    let legal = operands (bindings_of a.v.now) a.f.variable (value a.f.kind a.f.bits) c.held-h.result.kind c.held-h.result.bits c.held-h.ensures c.requires in
    (Answers.sum_legal a.f.kind c.held-h.result.bits a.f.bits a.subtract c.add.result c.add.ensures c.in_ok-x.x c.in_ok-x.was legal.0 legal.1).0

pub returns-in_err-x : goal.returns-in_err-x
returns-in_err-x c =
    let a = c.args in
    rw c.from_residual.ensures
    (sum_refused (bindings_of a.v.now) a.f.variable (value a.f.kind a.f.bits) c.held-h.result.kind c.held-h.result.bits c.held-h.ensures a.subtract
    (sym (Answers.sum_refused a.f.kind c.held-h.result.bits a.f.bits a.subtract c.add.result c.add.ensures c.in_err-x.was)))

pub returns : goal.returns
returns c =
    let a = c.args in
    let is = Answers.sum_is_lem a.f.kind c.held-h.result.bits a.f.bits a.subtract c.add.result c.add.ensures c.in_ok-x.x c.in_ok-x.was in
    sum_given (bindings_of a.v.now) a.f.variable (value a.f.kind a.f.bits) c.held-h.result.kind c.held-h.result.bits c.held-h.ensures a.subtract
    (value_is c.in_ok-x.x) _ (sym is) (rw (c.kind.ensures, c.bits.ensures))
