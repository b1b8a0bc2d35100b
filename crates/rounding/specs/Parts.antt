-- Metres as whole numbers. Each finite binary32 value is a whole number of times 2 ^ -149, the smallest above zero: `scaled` of its bits. `bits_of` goes back: the bits of the value nearest to a whole number
-- of times 2 ^ -149. That this is IEEE's format and rounding is proved (`Binary32`), as is what "nearest" means (`Nearest`). Assumes nothing.
use Rattle.std.specs.Prelude.{ℕ, suc, ◌+◌, ◌-◌, ◌*◌, ◌/◌, ◌%◌, ◌^◌, min, Bool, cond, leb, ℤ, pos, negsuc, neg_ℤ}
use Rattle.std.specs.Float.{binary32}
use Rattle.std.specs.Float.Ieee.{prec, hid, ones, top, size}
use Rattle.std.specs.Float.Ieee.Nearest.{closest}

-- the sign's bit, 80000000: the bits below it are a remainder by it
abbrev pub sign : ℕ
sign = top binary32

-- the bits of an infinity, 7F800000: those of a finite value are, without the sign, below it
abbrev pub infinite : ℕ
infinite = ones binary32 * hid binary32

-- numbers of 24 digits, which a normal value has, are from `lead` on and below `full`; `lead` is the weight of the exponent too
abbrev pub lead : ℕ
lead = hid binary32

abbrev pub full : ℕ
full = 2 ^ prec binary32

-- ---- bits to a number

-- Bits without the sign, p, stand for digits p * 2 ^ place p. The leading digit is added by the exponent, which is one more than the place but for subnormal values: so p is place p * 2 ^ 23 + digits p.
unfoldable pub place : ℕ → ℕ
place p = p / lead - 1

unfoldable pub digits : ℕ → ℕ
unfolding place
digits p = p - place p * lead

unfoldable pub magnitude : ℕ → ℕ
unfolding place digits
magnitude p = digits p * 2 ^ place p

abbrev pub signed : Bool → ℕ → ℤ
signed minus w = cond minus (neg_ℤ (pos w)) (pos w)

-- the number that bits stand for
unfoldable pub scaled : ℕ → ℤ
unfolding magnitude
scaled a = signed (leb sign a) (magnitude (a % sign))

-- ---- a number to bits

-- w keeps its 24 leading digits, the last one rounded to nearest, a tie to even, and drops k. Digits that are carried to 2 ^ 24 raise the exponent; from an infinity's bits on the value is infinite.
unfoldable pub nearest_bits : ℕ → ℕ
unfolding size
nearest_bits w = let k = size w - 24 in min (k * lead + closest w (2 ^ k)) infinite

unfoldable pub bits_of : ℤ → ℕ
unfolding nearest_bits
bits_of (pos w) = nearest_bits w
bits_of (negsuc w) = sign + nearest_bits (suc w)
