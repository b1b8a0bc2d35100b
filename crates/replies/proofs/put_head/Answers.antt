-- `replies::put_head` meets its contract. Assumes nothing.
use native.Mathlib.Omega.{arith}
use lib.ListN.{length-set}
use Rattle.replies.specs.WrittenLaws.{head_stored}
use borrow.Author.Rules.{rules}
use Rattle.replies.proofs.put_head.Goals as goal

pub put2-requires : goal.put2-requires
put2-requires c = simp length-set (omega arith)

pub bounds-out-9 : goal.bounds-out-9
bounds-out-9 c = omega (arith, simp length-set at c.put2.auto.d)

pub bounds-out-10 : goal.bounds-out-10
bounds-out-10 c = simp length-set (omega (arith, simp length-set at c.put2.auto.d))

pub bounds-out-11 : goal.bounds-out-11
bounds-out-11 c = simp length-set (omega (arith, simp length-set at c.put2.auto.d))

pub shape_of-out : goal.shape_of-out
shape_of-out c = simp length-set (omega (arith, simp length-set at c.put2.auto.d))

pub returns : goal.returns
returns c = let a = c.args in
    head_stored a.out.now _ _ _ a.position a.host a.process a.outcome a.branch a.count c.requires (search rules)
    c.copy_at.ensures c.put4.ensures c.put2.ensures
