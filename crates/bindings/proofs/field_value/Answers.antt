-- `bindings::field_value` meets its contract. Assumes nothing.
use native.Mathlib.Omega.{arith}
use mathlib.Core.Path.{◌∙◌}
use Rattle.bindings.specs.Variables.{bindings_of}
use Rattle.bindings.specs.Making.{made_actual, made_reference, made_sum, made_difference, made_other, can_sum, can_difference}
use Rattle.bindings.proofs.field_value.Goals as goal

pub sum_value-requires : goal.sum_value-requires
sum_value-requires c = can_sum (bindings_of c.args.v.now) c.args.f c.in-3.is c.requires

pub sum_value-requires-in-4 : goal.sum_value-requires-in-4
sum_value-requires-in-4 c = can_difference (bindings_of c.args.v.now) c.args.f c.in-4.is c.requires

pub returns-in-0 : goal.returns-in-0
returns-in-0 c = made_actual (bindings_of c.args.v.now) c.args.f c.in-0.is

pub returns-in-2 : goal.returns-in-2
returns-in-2 c = made_reference (bindings_of c.args.v.now) c.args.f c.in-2.is _ c.held.ensures

pub returns-in-3 : goal.returns-in-3
returns-in-3 c = let a = c.args in c.sum_value.ensures ∙ made_sum (bindings_of a.v.now) a.f c.in-3.is

pub returns-in-4 : goal.returns-in-4
returns-in-4 c = let a = c.args in c.sum_value-in-4.ensures ∙ made_difference (bindings_of a.v.now) a.f c.in-4.is

pub returns-in_default : goal.returns-in_default
returns-in_default c = made_other (bindings_of c.args.v.now) c.args.f (λ z. omega arith) (λ z. omega arith) (λ z. omega arith) (λ z. omega arith)
