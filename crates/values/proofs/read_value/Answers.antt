-- `values::read_value` meets its contract: each arm has the tests of its kind. Assumes nothing.
use native.Mathlib.Omega.{arith}
use Rattle.values.proofs.Reading.{no_nan_bits, reads_whole, reads_name, past_names, reads_metres, negative_zero, not_finite, no_kind}
use Rattle.values.proofs.read_value.Goals as goal

pub float_from_bits-result : goal.float_from_bits-result
float_from_bits-result c = no_nan_bits c.args.bits (omega (arith, c.if-bits-lt-INFINITE.true))

pub returns-in-0 : goal.returns-in-0
returns-in-0 c = reads_whole c.args.bits c.ranges.bits c.args.kind c.in-0.is c.cast_signed.result c.cast_signed.ensures

pub returns-then-bits-lt-NAME_NUMBERS : goal.returns-then-bits-lt-NAME_NUMBERS
returns-then-bits-lt-NAME_NUMBERS c = reads_name c.args.bits c.ranges.bits c.args.kind c.in-1.is c.if-bits-lt-NAME_NUMBERS.true

pub returns-else-bits-lt-NAME_NUMBERS : goal.returns-else-bits-lt-NAME_NUMBERS
returns-else-bits-lt-NAME_NUMBERS c = past_names c.args.bits c.ranges.bits c.args.kind c.in-1.is c.if-bits-lt-NAME_NUMBERS.false

pub returns-then-bits-eq-NEGATIVE_ZERO : goal.returns-then-bits-eq-NEGATIVE_ZERO
returns-then-bits-eq-NEGATIVE_ZERO c = negative_zero c.args.bits c.ranges.bits c.args.kind c.in-2.is c.if-bits-eq-NEGATIVE_ZERO.true

pub returns-then-bits-lt-INFINITE : goal.returns-then-bits-lt-INFINITE
returns-then-bits-lt-INFINITE c = reads_metres c.args.bits c.ranges.bits c.args.kind c.in-2.is c.if-bits-eq-NEGATIVE_ZERO.false c.if-bits-lt-INFINITE.true

pub returns-else-bits-lt-INFINITE : goal.returns-else-bits-lt-INFINITE
returns-else-bits-lt-INFINITE c = not_finite c.args.bits c.ranges.bits c.args.kind c.in-2.is c.if-bits-lt-INFINITE.false

pub returns-in_default : goal.returns-in_default
returns-in_default c = no_kind c.args.bits c.ranges.bits c.args.kind (λ z. omega arith) (λ z. omega arith) (λ z. omega arith)
