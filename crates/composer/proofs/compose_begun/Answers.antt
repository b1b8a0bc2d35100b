-- `composer::compose_begun` meets its contract. Assumes nothing.
use native.Mathlib.Omega.{arith}
use lib.ListN.{length-set}
use borrow.Author.Rules.{rules}
use Rattle.composer.specs.Composed.{composed_begun}
use Rattle.composer.proofs.compose_begun.Goals as goal

pub put2-requires : goal.put2-requires
put2-requires c = simp length-set (omega (arith, c.requires.0))

pub put_operation-end-requires : goal.put_operation-end-requires
put_operation-end-requires c =
    (c.requires.1, simp length-set (omega (arith, simp length-set at c.put2.auto.d, c.requires.0)))

pub bounds-t-end : goal.bounds-t-end
bounds-t-end c =
    omega (arith, c.put_operation-end.ensures.most, simp length-set at c.put_operation-end.auto.t, simp length-set at c.put2.auto.d, c.requires.0)

pub shape_of-t : goal.shape_of-t
shape_of-t c =
    simp length-set (omega (arith, simp length-set at c.put_operation-end.auto.t, simp length-set at c.put2.auto.d))

pub returns : goal.returns
returns c =
    composed_begun c.args.t.now c.put2.new.d c.put_operation-end.new.t c.args.host c.args.process c.args.guard c.put_operation-end.result c.requires.0 (search rules) (search rules) c.put2.ensures c.put_operation-end.ensures
