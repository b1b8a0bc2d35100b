-- `digits::put_byte` meets its contract. Assumes nothing.
use Rattle.digits.specs.PutLaws.{byte_stored}
use Rattle.digits.proofs.put_byte.Goals as goal

pub returns : goal.returns
returns c = byte_stored c.args.out.now c.args.at c.args.b c.hex_digit.result c.hex_digit-2.result c.requires c.hex_digit.ensures c.hex_digit-2.ensures
