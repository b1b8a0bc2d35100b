-- `digits::put_next` meets its contract. Assumes nothing.
use Rattle.std.specs.Prelude.{[], ◌∷◌, set}
use Rattle.std.proofs.Common.{arith}
use Rattle.text.specs.Lines.{decimal}
use Rattle.digits.specs.PutLaws.{put_one, put_then}
use Rattle.digits.proofs.put_next.Goals as goal

pub returns : goal.returns
returns c =
    put_then (c.args.mark ∷ []) (decimal c.args.n) c.args.out.now (set c.args.out.now c.args.at c.args.mark) c.put_number.new.out c.args.at _ c.put_number.result (omega arith)
    (put_one c.args.out.now c.args.at c.args.mark (omega arith)) c.put_number.ensures
