-- What answers records on the fresh state, and document 01's whole output, by computing. Assumes nothing.
use Rattle.std.specs.Prelude.{◌≡◌, refl, Bool, true, false, cond}
use mathlib.Core.List.{List, [], ◌∷◌, ◌++◌, map, flat_map}
use Rattle.basis.specs.Lists.{zeros}
use Rattle.basis.specs.Sizes.{reply_size}
use Rattle.model.specs.Run.{fresh}
use Rattle.layout.specs.States.{encode}
use Rattle.calls.proofs.Computes.{computes}
use Rattle.calls.specs.Calls.{Bytes, lent}
use Rattle.text.specs.Lines.{codes, hex_digit, digits_within, decimal, hex_byte, value_text, parts_of, spaced, line_of, lines_of, refused_line}
use Rattle.cabinet.specs.Printed.{text_of, goes_on, answered}

-- the text of a stream of records, one after the other
unfoldable pub text_from : (state : Bytes) → List Bytes → Bytes
text_from state [] = []
text_from state (x ∷ xs) = let p = answered (lent state x (zeros reply_size)) in p.text ++ cond p.more (text_from p.state xs) []

-- the text, and whether the stream goes on
unfoldable pub shown : Bytes → Bytes × Bool
shown input = let p = answered (lent (encode fresh) input (zeros reply_size)) in (p.text, p.more)

-- RV of host 2 at 1; at 2; at 0; cut; nothing
pub cases : map shown ((82 ∷ 86 ∷ 0 ∷ 1 ∷ 0 ∷ 0 ∷ 0 ∷ 1 ∷ 2 ∷ []) ∷ (82 ∷ 86 ∷ 0 ∷ 1 ∷ 0 ∷ 0 ∷ 0 ∷ 2 ∷ 2 ∷ []) ∷ (82 ∷ 86 ∷ 0 ∷ 1 ∷ 0 ∷ 0 ∷ 0 ∷ 0 ∷ 2 ∷ []) ∷ (82 ∷ 86 ∷ 0 ∷ 1 ∷ 0 ∷ 0 ∷ 0 ∷ 1 ∷ []) ∷ [] ∷ [])
    ≡ (codes "1 2 0 0 0 0:0:00000001\n", true) ∷ (codes "refused 5\n", true) ∷ (codes "refused 4\n", true) ∷ (codes "refused 3\n", false) ∷ ([], false) ∷ []
unfolding computes flat_map codes hex_digit digits_within decimal hex_byte value_text parts_of spaced line_of lines_of refused_line text_of goes_on answered shown
cases = refl

-- "Input: RV 2 at 1; at 2, process 5, ..; at 3, process 6, ..", and its end: "Whole output"
pub paper : text_from (encode fresh) ((82 ∷ 86 ∷ 0 ∷ 1 ∷ 0 ∷ 0 ∷ 0 ∷ 1 ∷ 2 ∷ []) ∷ (65 ∷ 71 ∷ 0 ∷ 35 ∷ 0 ∷ 0 ∷ 0 ∷ 2 ∷ 2 ∷ 0 ∷ 5 ∷ 1 ∷ 1 ∷ 0 ∷ 0 ∷ 2 ∷ 0 ∷ 1 ∷ 0 ∷ 0 ∷ 0 ∷ 7 ∷ 1 ∷ 0 ∷ 0 ∷ 1 ∷ 5 ∷ 0 ∷ 0 ∷ 2 ∷ 0 ∷ 1 ∷ 0 ∷ 0 ∷ 0 ∷ 7 ∷ 3 ∷ 0 ∷ 0 ∷ 0 ∷ 0 ∷ 0 ∷ 1 ∷ []) ∷ (65 ∷ 71 ∷ 0 ∷ 22 ∷ 0 ∷ 0 ∷ 0 ∷ 3 ∷ 2 ∷ 0 ∷ 6 ∷ 1 ∷ 0 ∷ 1 ∷ 5 ∷ 0 ∷ 0 ∷ 2 ∷ 0 ∷ 1 ∷ 0 ∷ 0 ∷ 0 ∷ 7 ∷ 0 ∷ 0 ∷ 0 ∷ 0 ∷ 0 ∷ 41 ∷ []) ∷ [] ∷ [])
    ≡ codes "1 2 0 0 0 0:0:00000001\n3 2 6 0 1\n2 2 5 0 1 0:0:00000029\n"
unfolding computes flat_map codes hex_digit digits_within decimal hex_byte value_text parts_of spaced line_of lines_of refused_line text_of goes_on answered text_from
paper = refl
