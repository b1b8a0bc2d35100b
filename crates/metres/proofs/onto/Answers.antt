-- `metres::onto` meets its contract: `Signs` has a law for each case. Assumes nothing.
use Prim.Native.Nat.{ℕ, ◌+◌, ◌-◌, ◌%◌}
use mathlib.Core.Path.{sym, ap, ◌∙◌}
use mathlib.Core.Bool.{true≢false}
use native.Mathlib.Omega.{arith}
use Rattle.rounding.specs.Parts.{sign, magnitude}
use Rattle.rounding.specs.Rounding.{bits_le}
use Rattle.metres.proofs.Signs.{like_signs, unlike_signs, nothing_left}
use Rattle.metres.proofs.onto.Goals as goal

pub combined-requires : goal.combined-requires
combined-requires c = record { lo_le_hi = c.requires.sign_bound; hi_lt_infinite = c.requires.sign_bound_2; lo_lt_hi = λ t. absurd (true≢false (sym t)) }

pub overflow_add-result : goal.overflow_add-result
overflow_add-result c =
    omega (arith, c.combined.ensures, bits_le (magnitude (c.args.a % sign) + magnitude (c.args.b % sign)))

pub overflow_add-result-then-lo-hi : goal.overflow_add-result-then-lo-hi
overflow_add-result-then-lo-hi c =
    omega (arith, c.combined-then-lo-hi.ensures, bits_le (magnitude (c.args.a % sign) - magnitude (c.args.b % sign)))

pub returns-then-a-b : goal.returns-then-a-b
returns-then-a-b c =
    ap (λ (x : ℕ). c.args.a - c.args.a % sign + x) c.combined.ensures ∙ like_signs c.args.a c.args.b c.ranges.a.fits c.ranges.b.fits c.requires.fact c.if-a-b.true

pub returns-then-lo-hi : goal.returns-then-lo-hi
returns-then-lo-hi c =
    ap (λ (x : ℕ). c.args.a - c.args.a % sign + x) c.combined-then-lo-hi.ensures ∙ unlike_signs c.args.a c.args.b c.ranges.a.fits c.ranges.b.fits c.requires.fact c.if-a-b.false c.if-lo-hi.true

pub returns-else-lo-hi : goal.returns-else-lo-hi
returns-else-lo-hi c =
    nothing_left c.args.a c.args.b c.ranges.a.fits c.ranges.b.fits c.requires.fact c.if-a-b.false (omega arith)
