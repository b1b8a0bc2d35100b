-- The steps of `nearest`, `rounded` and `combined`: a half as a shift, a number moved up to 63 digits, two values in one place. Assumes nothing.
use Prim.Native.Nat.{ℕ, zero, suc, ◌+◌, ◌-◌, ◌*◌, ◌/◌, ◌%◌, ◌^◌, ◌<◌, ◌≤◌, min, max, compare, Ordering}
use mathlib.Core.Path.{◌≡◌, refl, sym, ap, ◌∙◌, subst}
use mathlib.Core.Logic.{◌⊎◌, inl, inr}
use mathlib.Core.Bool.{Bool, true, false, cond, true≢false}
use native.Mathlib.Nat.{le_trans, le_of_eq, lt_of_lt_of_le, lt_of_le_of_lt, mul_assoc, mul-le-mul_left, mul-le-mul_right, div-lt_iff_lt-mul, mod-eq_of_lt, pow-suc}
use native.Mathlib.Omega.{arith}
use lib.Count.{count_leading_zeros, leading_of_zero, leading_top}
use lib.Pow.{pow-add, pow_pos, pow_mono, shl_lt}
use lib.Ieee.Fits.{nearest-le}
use lib.Ieee.Nearest.{closest}
use Rattle.rounding.specs.Parts.{infinite, lead, full, place, digits, magnitude, nearest_bits}
use Rattle.rounding.specs.PartLaws.{far, parts, place_lt, leading, aligned, aligned_lt, aligned_above, exact_plus, exact_minus, quarter, magnitude_mono}
use Rattle.rounding.specs.Closest.{Told, told}
use Rattle.rounding.specs.Rounding.{pow_lt_back, nearest_of, unmoved}

-- half of 2 ^ drop
pub record Half (drop : ℕ) : Type 0 where
  pub shifted : 1 * 2 ^ (drop - 1) % 18446744073709551616 ≡ 2 ^ (drop - 1)
  pub twice : 2 ^ drop ≡ 2 * 2 ^ (drop - 1)
  pub some : 0 < 2 ^ (drop - 1)
  pub most : 2 ^ (drop - 1) ≤ 4611686018427387904

pub half : (drop : ℕ) → 0 < drop → drop < 64 → Half drop
half zero h l = absurd (omega arith)
half (suc d) h l =
    let e : suc d - 1 ≡ d = omega arith in
    let r : d ≤ 62 = omega arith in
    let m : 2 ^ d ≤ 4611686018427387904 = pow_mono r in
    record {
      shifted = rw e (mod-eq_of_lt {n = 1 * 2 ^ d} (omega arith) ∙ omega arith);
      twice = rw e (pow-suc 2 d ∙ omega arith);
      some = rw e (pow_pos d);
      most = rw e m;
    }

-- n is moved up by `up`, and loses `drop` digits of 63
pub record Step (n place up drop : ℕ) : Type 0 where
  pub shift : up < 64
  pub exact : n * 2 ^ up % 18446744073709551616 ≡ n * 2 ^ up
  pub most : n * 2 ^ up < 9223372036854775808
  pub some : 0 < drop
  pub few : drop < 64
  pub reach : up ≤ place + drop
  pub below : place + drop - up < 282
  pub whole : closest (n * 2 ^ up) (2 ^ drop) ≤ full
  pub is : nearest_bits (n * 2 ^ place) ≡ min ((place + drop - up) * lead + closest (n * 2 ^ up) (2 ^ drop)) infinite

moved : (n place up drop : ℕ) → n * 2 ^ up < 2 ^ 63 → 11 ≤ up → up < 64 → 39 ≤ drop → drop < 64 → up ≤ place + drop → place < 254 → (place + drop ≡ up) ⊎ ((drop ≡ 39) × (2 ^ 62 ≤ n * 2 ^ up)) → Step n place up drop
moved n place up drop l a u b d r p o =
    let k = place + drop - up in
    let sums : up + k ≡ place + drop = omega arith in
    let same : n * 2 ^ up * 2 ^ k ≡ n * 2 ^ place * 2 ^ drop =
    mul_assoc n (2 ^ up) (2 ^ k) ∙ ap (λ (x : ℕ). n * x) (sym (pow-add 2 up k) ∙ ap (λ (x : ℕ). 2 ^ x) sums ∙ pow-add 2 place drop) ∙ sym (mul_assoc n (2 ^ place) (2 ^ drop)) in
    let room : full * 2 ^ 39 ≤ full * 2 ^ drop = mul-le-mul_left full (pow_mono b) in
    let fits : n * 2 ^ up < full * 2 ^ drop = lt_of_lt_of_le l room in
    record {
      shift = u;
      exact = mod-eq_of_lt (omega arith);
      most = l;
      some = omega arith;
      few = d;
      reach = r;
      below = low o;
      whole = le_trans (nearest-le (n * 2 ^ up / 2 ^ drop) (compare (n * 2 ^ up % 2 ^ drop * 2) (2 ^ drop))) ((div-lt_iff_lt-mul (pow_pos drop)).1 fits);
      is = nearest_of (n * 2 ^ place) k (n * 2 ^ up) (2 ^ drop) same (pow_pos drop) fits (kept o);
    }
  where
    low : (place + drop ≡ up) ⊎ ((drop ≡ 39) × (2 ^ 62 ≤ n * 2 ^ up)) → place + drop - up < 282
    low (inl e) = omega arith
    low (inr e) = omega (arith, e.0)

    kept : (place + drop ≡ up) ⊎ ((drop ≡ 39) × (2 ^ 62 ≤ n * 2 ^ up)) → (place + drop - up ≡ 0) ⊎ (lead * 2 ^ drop ≤ n * 2 ^ up)
    kept (inl e) = inl (omega arith)
    kept (inr e) = inr (subst (λ (x : ℕ). lead * 2 ^ x ≤ n * 2 ^ up) (sym e.0) e.1)

raised : (n place : ℕ) → n < 2 ^ 50 → place < 254 → (0 < n) ⊎ (place ≡ 0) → (0 < count_leading_zeros 64 n) × Step n place (count_leading_zeros 64 n - 1) (max 39 (count_leading_zeros 64 n - 1 - place))
raised zero place l p (inl h) = absurd (omega arith)
raised zero place l p (inr e) =
    let z = leading_of_zero 64 in
    rw (z, e) (omega arith, moved 0 0 63 63 (omega arith) (omega arith) (omega arith) (omega arith) (omega arith) (omega arith) (omega arith) (inl refl))
raised (suc n) place l p o =
    let t = leading_top 64 (suc n) (omega arith) (omega arith) in
    go (count_leading_zeros 64 (suc n)) t.0 t.1 t.2 t.3
  where
    go : (z j : ℕ) → z + suc j ≡ 64 → 2 ^ j ≤ suc n → suc n < 2 ^ suc j → (0 < z) × Step (suc n) place (z - 1) (max 39 (z - 1 - place))
    go z j e h u =
        let few : j < 50 = pow_lt_back j 50 (lt_of_le_of_lt h l) in
        let up = z - 1 in
        let all : suc j + up ≡ 63 = omega arith in
        let high : j + up ≡ 62 = omega arith in
        let most : suc n * 2 ^ up < 2 ^ 63 = lt_of_lt_of_le (shl_lt (suc j) up u) (le_of_eq (ap (λ (x : ℕ). 2 ^ x) all)) in
        let least : 2 ^ 62 ≤ suc n * 2 ^ up = le_trans (le_of_eq (ap (λ (x : ℕ). 2 ^ x) (sym high) ∙ pow-add 2 j up)) (mul-le-mul_right (2 ^ up) h) in
        (omega arith, moved (suc n) place up (max 39 (up - place)) most (omega arith) (omega arith) (omega arith) (omega arith) (omega arith) p (either up least))
      where
        either : (up : ℕ) → 2 ^ 62 ≤ suc n * 2 ^ up → (place + max 39 (up - place) ≡ up) ⊎ ((max 39 (up - place) ≡ 39) × (2 ^ 62 ≤ suc n * 2 ^ up))
        either up least = by (compare up (place + 39)) (told up (place + 39))
          where
            by : (o : Ordering) → Told o up (place + 39) → (place + max 39 (up - place) ≡ up) ⊎ ((max 39 (up - place) ≡ 39) × (2 ^ 62 ≤ suc n * 2 ^ up))
            by Ordering.lt b = inr (omega arith, least)
            by Ordering.eq b = inl (omega arith)
            by Ordering.gt b = inl (omega arith)

pub some_zeros : (n : ℕ) → n < 2 ^ 50 → 0 < count_leading_zeros 64 n
some_zeros n l = (raised n 0 l (omega arith) (inr refl)).0

pub step : (n place past drop : ℕ) → n < 2 ^ 50 → place < 254 → (0 < n) ⊎ (place ≡ 0) → past ≡ count_leading_zeros 64 n - 1 - place → drop ≡ max 39 past → Step n place (count_leading_zeros 64 n - 1) drop
step n place past drop l p o d e = subst (Step n place (count_leading_zeros 64 n - 1)) (sym (e ∙ ap (max 39) d)) (raised n place l p o).1

-- ---- two values without their signs, the digits of the larger one moved to the place of the smaller

-- near: `low` and d are the place and the digits of lo, x is the digits of hi in that place
pub record Near (hi lo : ℕ) (minus : Bool) (low d x : ℕ) : Type 0 where
  pub few : x < 2 ^ 49
  pub fewer : d < 2 ^ 24
  pub above : minus ≡ true → d < x
  pub joined : cond minus (x - d) (x + d) < 2 ^ 50
  pub lowest : low < 254
  pub some : (0 < cond minus (x - d) (x + d)) ⊎ (low ≡ 0)
  pub exact : cond minus (x - d) (x + d) * 2 ^ low ≡ cond minus (magnitude hi - magnitude lo) (magnitude hi + magnitude lo)

module _ (hi lo : ℕ) (minus : Bool) (h : lo ≤ hi) (f : hi < infinite) (n : minus ≡ true → lo < hi) where
  at_places : place hi - place lo < far → Near hi lo minus (place lo) (digits lo) (digits hi * 2 ^ (place hi - place lo) % 18446744073709551616)
  at_places a =
      let x = aligned hi lo in
      let few : x < 2 ^ 49 = aligned_lt hi lo 25 (omega arith) in
      rw (mod-eq_of_lt {n = x} {m = 18446744073709551616} (omega arith))
      (go minus refl few)
    where
      go : (t : Bool) → minus ≡ t → aligned hi lo < 2 ^ 49 → Near hi lo t (place lo) (digits lo) (aligned hi lo)
      go true e few =
          let l : digits lo < aligned hi lo = aligned_above hi lo (n e) in
          record { few = omega arith; fewer = (parts lo).few; above = λ t. l; joined = omega arith; lowest = place_lt lo (omega arith); some = inl (omega arith); exact = exact_minus hi lo h }
      go false e few =
          record { few = omega arith; fewer = (parts lo).few; above = λ t. absurd (true≢false (sym t)); joined = omega (arith, (parts lo).few); lowest = place_lt lo (omega arith); some = some (parts lo).high; exact = exact_plus hi lo h }
        where
          some : (place lo ≡ 0) ⊎ (lead ≤ digits lo) → (0 < aligned hi lo + digits lo) ⊎ (place lo ≡ 0)
          some (inl z) = inr z
          some (inr l) = inl (omega arith)

  pub near : (low high d e : ℕ) → low ≡ place lo → high ≡ place hi → d ≡ digits lo → e ≡ digits hi → high - low < far → Near hi lo minus low d (e * 2 ^ (high - low) % 18446744073709551616)
  near low high d e p q r s a = rw (p, q, r, s) (at_places (rw (sym p, sym q) a))

  -- far: hi stays
  pub stays : (low high : ℕ) → low ≡ place lo → high ≡ place hi → far ≤ high - low → hi ≡ nearest_bits (cond minus (magnitude hi - magnitude lo) (magnitude hi + magnitude lo))
  unfolding magnitude
  stays low high p q a = go minus
    where
      b : far ≤ place hi - place lo
      b = rw (sym p, sym q) a

      at : (w : ℕ) → 4 * w < 4 * magnitude hi + 2 ^ place hi → 4 * magnitude hi < 4 * w + 2 ^ place hi → hi ≡ nearest_bits w
      at w x y = omega (arith, (parts hi).both, unmoved (digits hi) (place hi) w (leading hi (omega (arith, b))) (parts hi).few x y)

      go : (t : Bool) → hi ≡ nearest_bits (cond t (magnitude hi - magnitude lo) (magnitude hi + magnitude lo))
      go true = at (magnitude hi - magnitude lo) (omega (arith, quarter hi lo b, magnitude_mono lo hi h)) (omega (arith, quarter hi lo b, magnitude_mono lo hi h))
      go false = at (magnitude hi + magnitude lo) (omega (arith, quarter hi lo b)) (omega (arith, quarter hi lo b))
