-- `replies::put_value` meets its contract. Assumes nothing.
use mathlib.Core.Path.{◌∙◌}
use native.Mathlib.Omega.{arith}
use lib.ListN.{length-set}
use Rattle.replies.specs.WrittenLaws.{value_stored}
use Rattle.replies.proofs.put_value.Goals as goal

pub bounds-out-at-2 : goal.bounds-out-at-2
bounds-out-at-2 c = simp length-set (omega arith)

pub put4-requires : goal.put4-requires
put4-requires c = simp length-set (omega arith)

pub shape_of-out : goal.shape_of-out
shape_of-out c = simp length-set at c.put4.auto.d

pub returns : goal.returns
returns c = let a = c.args in c.put4.ensures ∙ value_stored a.out.now a.at a.variable a.value.kind a.value.bits (omega arith)
