-- `digits::put_bits` meets its contract. Assumes nothing.
use Rattle.std.specs.Prelude.{drop}
use Rattle.std.proofs.Common.{arith}
use Rattle.digits.specs.PutLaws.{bits_none, bits_more, bits_all}
use Rattle.digits.proofs.put_bits.Goals as goal

pub loop-i-init : goal.loop-i-init
loop-i-init c = bits_none c.args.out.now c.args.at (drop c.args.from c.args.replies.now)

pub loop-i-preserved : goal.loop-i-preserved
loop-i-preserved c = bits_more c.args.out.now c.loop-i.out c.put_byte.new.out c.args.at c.args.replies.now c.args.from c.loop-i.i (omega arith) (omega arith) c.loop-i.invariant c.put_byte.ensures

pub returns : goal.returns
returns c = bits_all c.args.out.now c.loop-i.out c.args.at (drop c.args.from c.args.replies.now) c.loop-i.i (omega arith) c.loop-i.invariant
