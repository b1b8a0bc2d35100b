-- `sums::add_whole` meets its contract: for a second operand below zero it is a step down, else a step up. Assumes nothing.
use lib.IntN.{◌+ℤ◌, ◌-ℤ◌}
use Rattle.sums.proofs.Bounds.{Down, Up, add_down, add_up, given, low_fits, low_past, low_kept, high_fits, high_past, high_kept}
use Rattle.sums.proofs.add_whole.Goals as goal
use Rattle.sums.proofs.add_whole.Goals.{Else-b-lt0, Then-b-lt0}

down : (c : Then-b-lt0) → Down ◌+ℤ◌ ◌-ℤ◌ c.args.a c.args.b
down c = add_down c.args.a c.args.b c.ranges.a c.ranges.b c.if-b-lt0.true

up : (c : Else-b-lt0) → Up ◌+ℤ◌ ◌-ℤ◌ c.args.a c.args.b
up c = add_up c.args.a c.args.b c.ranges.a c.ranges.b c.if-b-lt0.false

pub overflow_sub-b : goal.overflow_sub-b
overflow_sub-b c = low_fits (down c)

pub overflow_add-result : goal.overflow_add-result
overflow_add-result c = low_kept (down (goal.at.overflow_add-result c).Then-b-lt0) c.if-a-b.false

pub overflow_sub-b-else-b-lt0 : goal.overflow_sub-b-else-b-lt0
overflow_sub-b-else-b-lt0 c = high_fits (up c)

pub overflow_add-result-else-b-a : goal.overflow_add-result-else-b-a
overflow_add-result-else-b-a c = high_kept (up (goal.at.overflow_add-result-else-b-a c).Else-b-lt0) c.if-b-a.false

pub returns-then-a-b : goal.returns-then-a-b
returns-then-a-b c = low_past (down (goal.at.returns-then-a-b c).Then-b-lt0) c.if-a-b.true

pub returns-else-a-b : goal.returns-else-a-b
returns-else-a-b c = given (down (goal.at.returns-else-a-b c).Then-b-lt0).step (overflow_add-result c)

pub returns-then-b-a : goal.returns-then-b-a
returns-then-b-a c = high_past (up (goal.at.returns-then-b-a c).Else-b-lt0) c.if-b-a.true

pub returns-else-b-a : goal.returns-else-b-a
returns-else-b-a c = given (up (goal.at.returns-else-b-a c).Else-b-lt0).step (overflow_add-result-else-b-a c)
