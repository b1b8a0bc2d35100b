-- The lines of document 01's "Cases", of the greatest numbers and of a refusal, by computing. Assumes nothing.
use Rattle.std.specs.Prelude.{◌≡◌, refl, ℕ}
use mathlib.Core.List.{List, [], ◌∷◌, flat_map}
use Rattle.basis.specs.Computes.{computes}
use Rattle.model.specs.Value.{Value, value}
use Rattle.model.specs.Run.{Reply}
use Rattle.text.specs.Lines.{codes, hex_digit, digits_within, decimal, hex_byte, value_text, parts_of, spaced, line_of, lines_of, refused_line}

abbrev reply : (position host process outcome branch : ℕ) → List (ℕ × Value) → Reply
reply position host process outcome branch values = record { position = position; host = host; process = process; outcome = outcome; branch = branch; values = values }

-- "Whole output"
pub paper : lines_of (reply 1 2 0 0 0 ((0, value 0 1) ∷ []) ∷ reply 3 2 6 0 1 [] ∷ reply 2 2 5 0 1 ((0, value 0 41) ∷ []) ∷ [])
    ≡ codes "1 2 0 0 0 0:0:00000001\n3 2 6 0 1\n2 2 5 0 1 0:0:00000029\n"
unfolding computes flat_map codes hex_digit digits_within decimal hex_byte value_text parts_of spaced line_of lines_of
paper = refl

-- the greatest of each part, and two values
pub greatest : line_of (reply 4294967295 255 65535 255 255 ((14, value 2 0x7f7fffff) ∷ (255, value 255 0xffffffff) ∷ []))
    ≡ codes "4294967295 255 65535 255 255 14:2:7F7FFFFF 255:255:FFFFFFFF\n"
unfolding computes flat_map codes hex_digit digits_within decimal hex_byte value_text parts_of spaced line_of
greatest = refl

-- zeros inside a number, and every hexadecimal digit
pub digits : line_of (reply 1000000000 10 100 9 0 ((0, value 1 0x01234567) ∷ (9, value 0 0x89abcdef) ∷ []))
    ≡ codes "1000000000 10 100 9 0 0:1:01234567 9:0:89ABCDEF\n"
unfolding computes flat_map codes hex_digit digits_within decimal hex_byte value_text parts_of spaced line_of
digits = refl

pub refusal : refused_line 3 ≡ codes "refused 3\n"
unfolding codes digits_within decimal refused_line
refusal = refl
