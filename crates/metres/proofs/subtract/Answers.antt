-- `metres::subtract` meets its contract: the sign that is turned turns the number. Assumes nothing.
use Prim.Native.Nat.{◌+◌, ◌%◌, ◌^◌}
use native.Mathlib.Omega.{arith}
use mathlib.Core.Path.{sym, ap, ◌∙◌}
use Rattle.rounding.specs.Parts.{sign, bits_of}
use Rattle.rounding.specs.Binary32.{add_bits, sub_bits}
use Rattle.metres.proofs.Signs.{sign_turned}
use Rattle.metres.proofs.subtract.Goals as goal

pub returns : goal.returns
returns c =
    let a = c.args.a in
    let b = c.args.b in
    let r = c.requires in
    c.add.ensures
    ∙ add_bits a ((b + sign) % 2 ^ 32) c.ranges.a.fits r.sign_bound (omega arith) r.fact
    ∙ ap bits_of (sign_turned a b c.ranges.b.fits)
    ∙ sym (sub_bits a b c.ranges.a.fits r.sign_bound r.sign_bound_2 r.fact)
