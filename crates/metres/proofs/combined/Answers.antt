-- `metres::combined` meets its contract: near, by the exact sum or difference; far, `hi` stays. Assumes nothing.
use Prim.Native.Nat.{ℕ, ◌*◌, ◌^◌}
use mathlib.Core.Path.{ap, ◌∙◌}
use native.Mathlib.Omega.{arith}
use Rattle.rounding.specs.Parts.{nearest_bits}
use Rattle.rounding.specs.PartLaws.{place_mono}
use Rattle.metres.proofs.Steps.{near, stays}
use Rattle.metres.proofs.combined.Goals as goal

pub overflow_sub-apart : goal.overflow_sub-apart
overflow_sub-apart c =
    omega (arith, place_mono c.args.lo c.args.hi c.requires.lo_le_hi)

pub joined-requires : goal.joined-requires
joined-requires c =
    let s =
    near c.args.hi c.args.lo c.args.minus c.requires.lo_le_hi c.requires.hi_lt_infinite c.requires.lo_lt_hi c.place_of-low.result c.place_of.result c.digits_of-then-apart-lt-FAR.result c.digits_of.result
    c.place_of-low.ensures c.place_of.ensures c.digits_of-then-apart-lt-FAR.ensures c.digits_of.ensures (omega (arith, c.if-apart-lt-FAR.true)) in
    record { x_bound = s.few; y_bound = s.fewer; y_lt_x = s.above }

pub rounded-requires : goal.rounded-requires
rounded-requires c =
    let s =
    near c.args.hi c.args.lo c.args.minus c.requires.lo_le_hi c.requires.hi_lt_infinite c.requires.lo_lt_hi c.place_of-low.result c.place_of.result c.digits_of-then-apart-lt-FAR.result c.digits_of.result
    c.place_of-low.ensures c.place_of.ensures c.digits_of-then-apart-lt-FAR.ensures c.digits_of.ensures (omega (arith, c.if-apart-lt-FAR.true)) in
    rw c.joined.ensures record { n_bound = s.joined; place_bound = s.lowest; fact = s.some }

pub returns-then-apart-lt-FAR : goal.returns-then-apart-lt-FAR
returns-then-apart-lt-FAR c =
    let s =
    near c.args.hi c.args.lo c.args.minus c.requires.lo_le_hi c.requires.hi_lt_infinite c.requires.lo_lt_hi c.place_of-low.result c.place_of.result c.digits_of-then-apart-lt-FAR.result c.digits_of.result
    c.place_of-low.ensures c.place_of.ensures c.digits_of-then-apart-lt-FAR.ensures c.digits_of.ensures (omega (arith, c.if-apart-lt-FAR.true)) in
    c.rounded.ensures ∙ ap nearest_bits (ap (λ (x : ℕ). x * 2 ^ c.place_of-low.result) c.joined.ensures ∙ s.exact)

pub returns-else-apart-lt-FAR : goal.returns-else-apart-lt-FAR
returns-else-apart-lt-FAR c =
    stays c.args.hi c.args.lo c.args.minus c.requires.lo_le_hi c.requires.hi_lt_infinite c.requires.lo_lt_hi c.place_of-low.result c.place_of.result c.place_of-low.ensures c.place_of.ensures (omega (arith, c.if-apart-lt-FAR.false))
