-- `parts::put_operation` meets its contract. Assumes nothing.
use mathlib.Core.Path.{◌≡◌}
use native.Mathlib.Omega.{arith}
use lib.ListN.{length, length-set}
use borrow.Author.Rules.{rules}
use Rattle.writer.specs.HasParts.{has_parts}
use Rattle.parts.specs.Operations.{operation_true, operation_one, operation_two}
use Rattle.parts.proofs.put_operation.Goals as goal

pub returns-then-op-eq-TRUE : goal.returns-then-op-eq-TRUE
returns-then-op-eq-TRUE c =
    operation_true c.args.op c.args.t.now c.args.at c.if-op-eq-TRUE.true (omega (arith, c.requires.1))

pub put_space_number-requires : goal.put_space_number-requires
put_space_number-requires c = simp length-set (omega (arith, c.requires.1))

pub put_counted-requires : goal.put_counted-requires
put_counted-requires c =
    let parts = has_parts c.args.op c.requires.0 (search rules) (search rules) c.if-op-eq-TRUE.false in
    let same : length c.put_space_number.new.d ≡ length c.args.t.now = simp length-set at c.put_space_number.auto.d in
    (parts.count, parts.forms, omega (arith, c.requires.1))

pub returns-then-op-lt-TWO_SPACES : goal.returns-then-op-lt-TWO_SPACES
returns-then-op-lt-TWO_SPACES c =
    let parts = has_parts c.args.op c.requires.0 (search rules) (search rules) c.if-op-eq-TRUE.false in
    operation_one c.args.op parts c.if-op-eq-TRUE.false (omega arith) c.args.t.now c.args.at c.put_space_number.new.d _ _
    c.if-op-lt-TWO_SPACES.true c.requires.1 c.put_space_number.ensures c.put_counted.ensures

pub put_space_number-requires-2 : goal.put_space_number-requires-2
put_space_number-requires-2 c =
    let same : length c.put_space_number.new.d ≡ length c.args.t.now = simp length-set at c.put_space_number.auto.d in
    omega (arith, c.requires.1)

pub put_counted-requires-2 : goal.put_counted-requires-2
put_counted-requires-2 c =
    let parts = has_parts c.args.op c.requires.0 (search rules) (search rules) c.if-op-eq-TRUE.false in
    let same : length c.put_space_number.new.d ≡ length c.args.t.now = simp length-set at c.put_space_number.auto.d in
    (parts.count, parts.forms, omega (arith, c.put_space_number-2.auto.d, c.requires.1))

pub returns : goal.returns
returns c =
    let parts = has_parts c.args.op c.requires.0 (search rules) (search rules) c.if-op-eq-TRUE.false in
    operation_two c.args.op parts c.if-op-eq-TRUE.false (omega arith) c.args.t.now c.args.at c.put_space_number.new.d c.put_space_number-2.new.d _ _
    c.if-op-lt-TWO_SPACES.false c.requires.1 c.put_space_number.ensures c.put_space_number-2.ensures c.put_counted-2.ensures
