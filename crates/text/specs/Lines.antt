-- "Cases": what the program prints, in ASCII codes. Assumes nothing.
use Rattle.std.specs.Prelude.{ℕ, zero, suc, ◌+◌, ◌-◌, ◌/◌, ◌%◌, cond, ltb}
use Prim.Native.Char.{code}
use Prim.Native.String.{String, [] as empty, ◌∷◌ as ◌then◌}
use mathlib.Core.List.{List, [], ◌∷◌, ◌++◌, map, flat_map}
use Rattle.basis.specs.Numbers.{big_endian}
use Rattle.basis.specs.Sizes.{bits_width}
use Rattle.model.specs.Value.{Value}
use Rattle.model.specs.Run.{Reply}

-- the codes of a text
unfoldable pub codes : String → List ℕ
codes empty = []
codes (c then t) = code c ∷ codes t

abbrev pub space : ℕ
space = code " "

abbrev pub colon : ℕ
colon = code ":"

abbrev pub newline : ℕ
newline = code "\n"

-- `0` to `9`
abbrev pub digit : ℕ → ℕ
digit d = code "0" + d

-- `0` to `9`, `A` to `F`
unfoldable pub hex_digit : ℕ → ℕ
hex_digit d = cond (ltb d 10) (digit d) (code "A" + (d - 10))

-- the decimal digits of a number, none of 0; as many as the number are enough
unfoldable pub digits_within : (most n : ℕ) → List ℕ
digits_within zero n = []
digits_within (suc most) zero = []
digits_within (suc most) (suc n) = digits_within most (suc n / 10) ++ (digit (suc n % 10) ∷ [])

-- a number in decimal: the digits of its tenth, and its last
unfoldable pub decimal : ℕ → List ℕ
decimal n = digits_within n (n / 10) ++ (digit (n % 10) ∷ [])

-- the two hexadecimal digits of a byte
unfoldable pub hex_byte : ℕ → List ℕ
hex_byte b = hex_digit (b / 16) ∷ hex_digit (b % 16) ∷ []

-- "variable:kind:eight capital hexadecimal digits"
unfoldable pub value_text : ℕ × Value → List ℕ
value_text v = decimal v.0 ++ (colon ∷ decimal v.1.kind ++ (colon ∷ flat_map hex_byte (big_endian bits_width v.1.bits)))

-- "position, host, process, outcome, branch, then" the values, "all else decimal"
unfoldable pub parts_of : Reply → List (List ℕ)
parts_of r = map decimal (r.position ∷ r.host ∷ r.process ∷ r.outcome ∷ r.branch ∷ []) ++ map value_text r.values

-- "single spaces between"
unfoldable pub spaced : List (List ℕ) → List ℕ
spaced [] = []
spaced (t ∷ ts) = t ++ flat_map (λ u. space ∷ u) ts

unfoldable pub line_of : Reply → List ℕ
line_of r = spaced (parts_of r) ++ (newline ∷ [])

-- "a line per reply"
unfoldable pub lines_of : List Reply → List ℕ
lines_of rs = flat_map line_of rs

-- "`refused n`"
unfoldable pub refused_line : ℕ → List ℕ
refused_line n = codes "refused " ++ (decimal n ++ (newline ∷ []))
