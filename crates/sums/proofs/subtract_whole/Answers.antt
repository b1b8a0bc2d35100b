-- `sums::subtract_whole` meets its contract: for a second operand below zero it is a step up, else a step down. Assumes nothing.
use lib.IntN.{◌+ℤ◌, ◌-ℤ◌}
use Rattle.sums.proofs.Bounds.{Down, Up, subtract_down, subtract_up, given, low_fits, low_past, low_kept, high_fits, high_past, high_kept}
use Rattle.sums.proofs.subtract_whole.Goals as goal
use Rattle.sums.proofs.subtract_whole.Goals.{Else-b-lt0, Then-b-lt0}

up : (c : Then-b-lt0) → Up ◌-ℤ◌ ◌+ℤ◌ c.args.a c.args.b
up c = subtract_up c.args.a c.args.b c.ranges.a c.ranges.b c.if-b-lt0.true

down : (c : Else-b-lt0) → Down ◌-ℤ◌ ◌+ℤ◌ c.args.a c.args.b
down c = subtract_down c.args.a c.args.b c.ranges.a c.ranges.b c.if-b-lt0.false

pub overflow_add-b : goal.overflow_add-b
overflow_add-b c = high_fits (up c)

pub overflow_sub-result : goal.overflow_sub-result
overflow_sub-result c = high_kept (up (goal.at.overflow_sub-result c).Then-b-lt0) c.if-b-a.false

pub overflow_add-b-else-b-lt0 : goal.overflow_add-b-else-b-lt0
overflow_add-b-else-b-lt0 c = low_fits (down c)

pub overflow_sub-result-else-a-b : goal.overflow_sub-result-else-a-b
overflow_sub-result-else-a-b c = low_kept (down (goal.at.overflow_sub-result-else-a-b c).Else-b-lt0) c.if-a-b.false

pub returns-then-b-a : goal.returns-then-b-a
returns-then-b-a c = high_past (up (goal.at.returns-then-b-a c).Then-b-lt0) c.if-b-a.true

pub returns-else-b-a : goal.returns-else-b-a
returns-else-b-a c = given (up (goal.at.returns-else-b-a c).Then-b-lt0).step (overflow_sub-result c)

pub returns-then-a-b : goal.returns-then-a-b
returns-then-a-b c = low_past (down (goal.at.returns-then-a-b c).Else-b-lt0) c.if-a-b.true

pub returns-else-a-b : goal.returns-else-a-b
returns-else-a-b c = given (down (goal.at.returns-else-a-b c).Else-b-lt0).step (overflow_sub-result-else-a-b c)
