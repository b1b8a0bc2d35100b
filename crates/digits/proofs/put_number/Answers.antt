-- `digits::put_number` meets its contract. Assumes nothing.
use Rattle.std.proofs.Common.{arith}
use Rattle.digits.specs.DecimalLaws.{decimal_few}
use Rattle.digits.specs.PutLaws.{number_length, number_put}
use Rattle.digits.proofs.put_number.Goals as goal

pub copy_at-requires : goal.copy_at-requires
copy_at-requires c =
    let e = c.decimal-k.ensures in
    omega (arith, number_length c.from.result c.decimal-k.result c.decimal-k.new.out e.in_bounds.1 e.len e.digits, decimal_few 9 c.from.result (omega arith), e.in_bounds.1)

pub overflow_add-result : goal.overflow_add-result
overflow_add-result c =
    let e = c.decimal-k.ensures in
    omega (arith, number_length c.from.result c.decimal-k.result c.decimal-k.new.out e.in_bounds.1 e.len e.digits, decimal_few 9 c.from.result (omega arith))

pub returns : goal.returns
returns c =
    let e = c.decimal-k.ensures in
    rw (← c.from.ensures) (number_put c.from.result c.decimal-k.result c.decimal-k.new.out e.in_bounds.1 e.len e.digits c.args.out.now c.copy_at.new.d c.args.at c.copy_at.ensures)
