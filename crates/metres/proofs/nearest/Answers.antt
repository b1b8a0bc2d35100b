-- `metres::nearest` meets its contract: the quotient of n and almost a half. Assumes nothing.
use Prim.Native.Nat.{◌-◌, ◌^◌}
use mathlib.Core.Path.{sym}
use native.Mathlib.Omega.{arith}
use Rattle.rounding.specs.Closest.{closest_by}
use Rattle.metres.proofs.Steps.{half}
use Rattle.metres.proofs.nearest.Goals as goal

pub overflow_sub-result-2 : goal.overflow_sub-result-2
overflow_sub-result-2 c = omega (arith, half c.args.drop c.requires.drop_nonzero c.requires.drop_bound)

pub overflow_add-result : goal.overflow_add-result
overflow_add-result c = omega (arith, half c.args.drop c.requires.drop_nonzero c.requires.drop_bound)

pub overflow_add-result-2 : goal.overflow_add-result-2
overflow_add-result-2 c = omega (arith, half c.args.drop c.requires.drop_nonzero c.requires.drop_bound)

pub returns : goal.returns
returns c =
    let h = half c.args.drop c.requires.drop_nonzero c.requires.drop_bound in
    rw (h.shifted, h.twice) (sym (closest_by c.args.n (2 ^ (c.args.drop - 1)) h.some))
