-- The tests of `add_whole` and `subtract_whole`: the result goes down or up by a step, and it is in range unless the first operand is past the limit less that step. Assumes nothing.
use Rattle.std.specs.Prelude.{None, Some}
use Prim.Native.Nat.{ℕ, ◌+◌, ◌-◌, ◌<◌, ◌≤◌}
use mathlib.Core.Path.{◌≡◌, ap}
use mathlib.Core.Bool.{true, false}
use native.Mathlib.Omega.{arith}
use lib.IntN.{ℤ, pos, negsuc, ◌+ℤ◌, ◌-ℤ◌}
use lib.Signed.{lt_z, mag}
use mir.Syntax.{w32}
use mir.Val.{SFits}
use mir.Facts.{to_z-of_z}
use borrow.Author.Tests.{lt-ltb, le-ltb}
use Rattle.basis.specs.Choice.{provided}
use Rattle.model.specs.Value.{exact}
use Rattle.values.specs.Meaning.{answered}
use Rattle.sums.specs.Meaning.{off_range, sum_is}
use Rattle.values.specs.declared.Value.TheVariants.{Whole}
use Rattle.values.proofs.Twos.{again}
use Rattle.sums.proofs.Place.{place, place_add, place_subtract, in_range, range_in, below, above, less, not_less}

held : (z : ℤ) → SFits w32 z → mag (again z) < 2147483648
held z f = rw (to_z-of_z f) f.sfits

-- `forth a b` is a moved by a step that b gives, and `back m b` a limit m moved against it; the step is `to` less 2 ^ 34
pub record Step (forth back : ℤ → ℤ → ℤ) (a b : ℤ) : Type 0 where
  pub first : SFits w32 a
  pub second : SFits w32 b
  pub to : ℕ
  pub least : 15032385536 ≤ to
  pub most : to ≤ 19327352832
  pub moved : place (forth (again a) (again b)) + 17179869184 ≡ place (again a) + to
  pub limited : (m : ℤ) → mag m < 2147483648 → place (back m (again b)) + to ≡ place m + 17179869184

pub record Down (forth back : ℤ → ℤ → ℤ) (a b : ℤ) : Type 0 where
  pub step : Step forth back a b
  pub down : step.to ≤ 17179869184

pub record Up (forth back : ℤ → ℤ → ℤ) (a b : ℤ) : Type 0 where
  pub step : Step forth back a b
  pub up : 17179869184 ≤ step.to

-- ---- the steps of a sum and of a difference, by the sign of the second operand

module _ (a b : ℤ) (f : SFits w32 a) (g : SFits w32 b) where
  abbrev adds : Step ◌+ℤ◌ ◌-ℤ◌ a b
  adds =
      let h = held a f in
      let k = held b g in
      let r = in_range (again b) k in
      record {
        first = f;
        second = g;
        to = place (again b);
        least = r.0;
        most = omega (arith, r.1);
        moved = place_add (again a) (again b) (omega arith) (omega arith);
        limited = λ m l. place_subtract m (again b) l k;
      }

  abbrev subtracts : Step ◌-ℤ◌ ◌+ℤ◌ a b
  subtracts =
      let h = held a f in
      let k = held b g in
      let r = in_range (again b) k in
      record {
        first = f;
        second = g;
        to = 34359738368 - place (again b);
        least = omega (arith, r.0, r.1);
        most = omega (arith, r.0, r.1);
        moved = omega (arith, place_subtract (again a) (again b) h k, r.0, r.1);
        limited = λ m l. omega (arith, place_add m (again b) (omega arith) (omega arith), r.0, r.1);
      }

  negative : lt_z (again b) (pos 0) ≡ true → place (again b) < 17179869184
  negative t = omega (arith, less (again b) (pos 0) (held b g) (omega arith) t)

  not_negative : lt_z (again b) (pos 0) ≡ false → 17179869184 ≤ place (again b)
  not_negative t = omega (arith, not_less (again b) (pos 0) (held b g) (omega arith) t)

  pub add_down : lt_z (again b) (pos 0) ≡ true → Down ◌+ℤ◌ ◌-ℤ◌ a b
  add_down t = record { step = adds; down = omega (arith, negative t) }

  pub add_up : lt_z (again b) (pos 0) ≡ false → Up ◌+ℤ◌ ◌-ℤ◌ a b
  add_up t = record { step = adds; up = not_negative t }

  pub subtract_up : lt_z (again b) (pos 0) ≡ true → Up ◌-ℤ◌ ◌+ℤ◌ a b
  subtract_up t = record { step = subtracts; up = omega (arith, negative t) }

  pub subtract_down : lt_z (again b) (pos 0) ≡ false → Down ◌-ℤ◌ ◌+ℤ◌ a b
  subtract_down t = record { step = subtracts; down = omega (arith, not_negative t) }

-- ---- what is returned

exact_in : (z : ℤ) → mag z < 2147483648 → sum_is (Some (Whole z)) ≡ answered off_range (exact z)
unfolding exact provided
exact_in z h = rw (lt-ltb (mag z) 2147483648 h)

exact_off : (z : ℤ) → 2147483648 ≤ mag z → sum_is None ≡ answered off_range (exact z)
unfolding exact provided
exact_off z h = rw (le-ltb (mag z) 2147483648 h)

module _ {forth back : ℤ → ℤ → ℤ} {a b : ℤ} (s : Step forth back a b) where
  pub given : SFits w32 (forth (again a) (again b)) → sum_is (Some (Whole (again (forth (again a) (again b))))) ≡ answered off_range (exact (forth a b))
  given f = rw (to_z-of_z f, to_z-of_z s.first, to_z-of_z s.second) (exact_in (forth a b) (rw (to_z-of_z s.first, to_z-of_z s.second) at f.sfits))

  refused : 2147483648 ≤ mag (forth (again a) (again b)) → sum_is None ≡ answered off_range (exact (forth a b))
  refused h = exact_off (forth a b) (rw (to_z-of_z s.first, to_z-of_z s.second) at h)

-- ---- a step down: the limit, moved back from the lowest number, is a number of 32 bits; below it the result is off the range, and from it on in range

module _ {forth back : ℤ → ℤ → ℤ} {a b : ℤ} (d : Down forth back a b) where
  abbrev low : ℤ
  low = back (negsuc 2147483647) (again b)

  at_low : place low + d.step.to ≡ 32212254720
  at_low = omega (arith, d.step.limited (negsuc 2147483647) (omega arith))

  pub low_fits : SFits w32 low
  low_fits = record { sfits = range_in low (omega (arith, at_low, d.down)) (omega (arith, at_low, d.step.least)) }

  pub low_past : lt_z (again a) (again low) ≡ true → sum_is None ≡ answered off_range (exact (forth a b))
  low_past t =
      refused d.step (below (forth (again a) (again b)) (omega (arith, less (again a) (again low) (held a d.step.first) (held low low_fits) t, ap place (to_z-of_z low_fits), at_low, d.step.moved)))

  pub low_kept : lt_z (again a) (again low) ≡ false → SFits w32 (forth (again a) (again b))
  low_kept t =
      let h = held a d.step.first in
      record {
        sfits = range_in (forth (again a) (again b)) (omega (arith, not_less (again a) (again low) h (held low low_fits) t, ap place (to_z-of_z low_fits), at_low, d.step.moved))
            (omega (arith, (in_range (again a) h).1, d.step.moved, d.down));
      }

-- ---- a step up: likewise, from the highest number

module _ {forth back : ℤ → ℤ → ℤ} {a b : ℤ} (u : Up forth back a b) where
  abbrev high : ℤ
  high = back (pos 2147483647) (again b)

  at_high : place high + u.step.to ≡ 36507222015
  at_high = omega (arith, u.step.limited (pos 2147483647) (omega arith))

  pub high_fits : SFits w32 high
  high_fits = record { sfits = range_in high (omega (arith, at_high, u.step.most)) (omega (arith, at_high, u.up)) }

  pub high_past : lt_z (again high) (again a) ≡ true → sum_is None ≡ answered off_range (exact (forth a b))
  high_past t =
      refused u.step (above (forth (again a) (again b)) (omega (arith, less (again high) (again a) (held high high_fits) (held a u.step.first) t, ap place (to_z-of_z high_fits), at_high, u.step.moved)))

  pub high_kept : lt_z (again high) (again a) ≡ false → SFits w32 (forth (again a) (again b))
  high_kept t =
      let h = held a u.step.first in
      record {
        sfits = range_in (forth (again a) (again b)) (omega (arith, (in_range (again a) h).0, u.step.moved, u.up))
            (omega (arith, not_less (again high) (again a) (held high high_fits) h t, ap place (to_z-of_z high_fits), at_high, u.step.moved));
      }
