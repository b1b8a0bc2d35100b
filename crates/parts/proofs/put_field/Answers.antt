-- `parts::put_field` meets its contract. Assumes nothing.
use native.Mathlib.Omega.{arith}
use Prim.Native.Nat.{◌^◌, ◌<◌}
use lib.ListN.{length-set}
use borrow.Author.Rules.{rules}
use Rattle.basis.specs.Sizes.{bits_width}
use Rattle.parts.specs.Fields.{put_actual, put_formal, put_reference, put_sum, put_anonymous, put_ranged}
use Rattle.parts.proofs.put_field.Goals as goal

pub put_value-requires : goal.put_value-requires
put_value-requires c = simp length-set (omega (arith, c.requires.1))

pub put_value-requires-in-3 : goal.put_value-requires-in-3
put_value-requires-in-3 c = simp length-set (omega (arith, c.requires.1))

pub put_range-requires : goal.put_range-requires
put_range-requires c = simp length-set (omega (arith, c.requires.1))

pub returns-in-0 : goal.returns-in-0
returns-in-0 c =
    let small : c.args.f.bits < 256 ^ bits_width = search rules in
    let less : c.args.f.highest < 256 ^ bits_width = search rules in
    put_actual c.args.f c.args.t.now c.args.at c.requires.1 small less _ _ c.in-0.is c.put_value.ensures

pub returns-in-1 : goal.returns-in-1
returns-in-1 c =
    let small : c.args.f.bits < 256 ^ bits_width = search rules in
    let less : c.args.f.highest < 256 ^ bits_width = search rules in
    put_formal c.args.f c.args.t.now c.args.at c.requires.1 small less c.in-1.is

pub returns-in-2 : goal.returns-in-2
returns-in-2 c =
    let small : c.args.f.bits < 256 ^ bits_width = search rules in
    let less : c.args.f.highest < 256 ^ bits_width = search rules in
    put_reference c.args.f c.args.t.now c.args.at c.requires.1 small less c.in-2.is

pub returns-in-5 : goal.returns-in-5
returns-in-5 c =
    let small : c.args.f.bits < 256 ^ bits_width = search rules in
    let less : c.args.f.highest < 256 ^ bits_width = search rules in
    put_anonymous c.args.f c.args.t.now c.args.at c.requires.1 small less c.in-5.is

pub returns-in-3 : goal.returns-in-3
returns-in-3 c =
    let small : c.args.f.bits < 256 ^ bits_width = search rules in
    let less : c.args.f.highest < 256 ^ bits_width = search rules in
    put_sum c.args.f c.args.t.now c.args.at c.requires.1 small less _ _ (omega arith) (omega arith) c.put_value-in-3.ensures

pub returns-in_default : goal.returns-in_default
returns-in_default c =
    let small : c.args.f.bits < 256 ^ bits_width = search rules in
    let less : c.args.f.highest < 256 ^ bits_width = search rules in
    put_ranged c.args.f c.args.t.now c.args.at c.requires.1 small less _ _ (omega arith) c.requires.0 c.put_range.ensures
