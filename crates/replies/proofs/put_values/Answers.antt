-- `replies::put_values` meets its contract. Assumes nothing.
use native.Mathlib.Omega.{arith}
use Rattle.replies.specs.WrittenLaws.{passed_none, passed_yes, passed_no, put_all}
use Rattle.replies.proofs.put_values.Goals as goal
use Rattle.replies.proofs.put_values.Goals.{in-Some, in_default}

pub loop-x-init : goal.loop-x-init
loop-x-init c = let a = c.args in passed_none a.values.now a.out.now

pub overflow_mul-count : goal.overflow_mul-count
overflow_mul-count c = omega (arith, c.loop-x.invariant.few)

pub overflow_add-count : goal.overflow_add-count
overflow_add-count c = omega (arith, c.loop-x.invariant.few)

pub put_value-requires : goal.put_value-requires
put_value-requires c = omega (arith, c.loop-x.invariant.few)

pub overflow_add-count-in-Some : goal.overflow_add-count-in-Some
overflow_add-count-in-Some c = omega (arith, c.loop-x.invariant.few)

pub loop-x-preserved : goal.loop-x-preserved
loop-x-preserved c =
    let a = c.args in
    let p = c.loop-x.invariant in
    elim c.match-values-x.branch [
      | in-Some w ↦
          rw (w.out-is, w.count-is)
          (passed_yes a.values.now c.loop-x.x w.in-Some.v a.out.now c.loop-x.out w.put_value.new.out c.loop-x.count w.in-Some.is (omega (arith, p.few)) p w.put_value.ensures)
      | in_default w ↦ rw (w.out-is, w.count-is) (passed_no a.values.now c.loop-x.x a.out.now c.loop-x.out c.loop-x.count w.in_default.is p)
    ]

pub returns : goal.returns
returns c = let a = c.args in
    put_all a.values.now c.loop-x.x a.out.now c.loop-x.out c.loop-x.count (omega arith) c.loop-x.invariant
