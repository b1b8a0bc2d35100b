-- `sums::finite_metres` meets its contract. Assumes nothing.
use native.Mathlib.Omega.{arith}
use Rattle.values.proofs.Reading.{no_nan_bits}
use Rattle.sums.proofs.Rounded.{finite_given, infinite_refused}
use Rattle.sums.proofs.finite_metres.Goals as goal

pub float_from_bits-result : goal.float_from_bits-result
float_from_bits-result c = no_nan_bits c.args.bits (omega (arith, c.if-bits-lt-INFINITE.true))

pub returns-then-bits-lt-INFINITE : goal.returns-then-bits-lt-INFINITE
returns-then-bits-lt-INFINITE c = finite_given c.args.bits c.if-bits-lt-INFINITE.true

pub returns-else-bits-lt-INFINITE : goal.returns-else-bits-lt-INFINITE
returns-else-bits-lt-INFINITE c = infinite_refused c.args.bits c.if-bits-lt-INFINITE.false
