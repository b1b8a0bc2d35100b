-- Worked answers of whether two templates can meet: each the bytes of one operation, 1 or 0, or why there is no answer, 6 before 19. Assumes nothing.
use Rattle.std.specs.Prelude.{ℕ, ◌≡◌, refl, List, [], ◌∷◌, map}
use Rattle.model.specs.Value.{value, whole, name, metres, range}
use Rattle.model.specs.Statement.{actual, formal, anonymous, ranged}
use Rattle.model.specs.Matching.{Tuple, unbound, template}
use Rattle.model.specs.Meeting.{can_meet}
use Rattle.model.proofs.MeetingLaws.{meeting_tuple}
use Rattle.calls.proofs.Computes.{computes}

-- two operations as bytes (code, space, field count, fields), and the answer that the papers give
pub record Pair : Type 0 where
  pub first : List ℕ
  pub second : List ℕ
  pub answer : ℕ

abbrev row : List ℕ → List ℕ → ℕ → Pair
row a b n = record { first = a; second = b; answer = n }

unfoldable pub pairs : List Pair
pairs =
    -- 1: two ranges of one kind share a value
    -- whole 1 to 5, and 5 to 9: they touch at one value
    row (1 ∷ 0 ∷ 0 ∷ 1 ∷ 6 ∷ 0 ∷ 0 ∷ 0 ∷ 0 ∷ 1 ∷ 0 ∷ 0 ∷ 0 ∷ 5 ∷ 0 ∷ []) (1 ∷ 0 ∷ 0 ∷ 1 ∷ 6 ∷ 0 ∷ 0 ∷ 0 ∷ 0 ∷ 5 ∷ 0 ∷ 0 ∷ 0 ∷ 9 ∷ 0 ∷ []) 1
    -- the same in the other order
    ∷ row (1 ∷ 0 ∷ 0 ∷ 1 ∷ 6 ∷ 0 ∷ 0 ∷ 0 ∷ 0 ∷ 5 ∷ 0 ∷ 0 ∷ 0 ∷ 9 ∷ 0 ∷ []) (1 ∷ 0 ∷ 0 ∷ 1 ∷ 6 ∷ 0 ∷ 0 ∷ 0 ∷ 0 ∷ 1 ∷ 0 ∷ 0 ∷ 0 ∷ 5 ∷ 0 ∷ []) 1
    -- whole 1 to 5, and 3 to 9: they overlap
    ∷ row (1 ∷ 0 ∷ 0 ∷ 1 ∷ 6 ∷ 0 ∷ 0 ∷ 0 ∷ 0 ∷ 1 ∷ 0 ∷ 0 ∷ 0 ∷ 5 ∷ 0 ∷ []) (1 ∷ 0 ∷ 0 ∷ 1 ∷ 6 ∷ 0 ∷ 0 ∷ 0 ∷ 0 ∷ 3 ∷ 0 ∷ 0 ∷ 0 ∷ 9 ∷ 1 ∷ []) 1
    -- whole 1 to 9, and 3 to 5, which lies within
    ∷ row (1 ∷ 0 ∷ 0 ∷ 1 ∷ 6 ∷ 0 ∷ 0 ∷ 0 ∷ 0 ∷ 1 ∷ 0 ∷ 0 ∷ 0 ∷ 9 ∷ 0 ∷ []) (1 ∷ 0 ∷ 0 ∷ 1 ∷ 6 ∷ 0 ∷ 0 ∷ 0 ∷ 0 ∷ 3 ∷ 0 ∷ 0 ∷ 0 ∷ 5 ∷ 0 ∷ []) 1
    -- whole -2 to 1, and -5 to -2: by their signs they touch at -2
    ∷ row (1 ∷ 0 ∷ 0 ∷ 1 ∷ 6 ∷ 0 ∷ 255 ∷ 255 ∷ 255 ∷ 254 ∷ 0 ∷ 0 ∷ 0 ∷ 1 ∷ 0 ∷ []) (1 ∷ 0 ∷ 0 ∷ 1 ∷ 6 ∷ 0 ∷ 255 ∷ 255 ∷ 255 ∷ 251 ∷ 255 ∷ 255 ∷ 255 ∷ 254 ∷ 0 ∷ []) 1
    -- whole from the least to the greatest, and from the greatest to the greatest
    ∷ row (1 ∷ 0 ∷ 0 ∷ 1 ∷ 6 ∷ 0 ∷ 128 ∷ 0 ∷ 0 ∷ 0 ∷ 127 ∷ 255 ∷ 255 ∷ 255 ∷ 0 ∷ []) (1 ∷ 0 ∷ 0 ∷ 1 ∷ 6 ∷ 0 ∷ 127 ∷ 255 ∷ 255 ∷ 255 ∷ 127 ∷ 255 ∷ 255 ∷ 255 ∷ 0 ∷ []) 1
    -- metres 3.0 to 3.5, and 3.5 to 4.0: they touch
    ∷ row (1 ∷ 0 ∷ 0 ∷ 1 ∷ 6 ∷ 2 ∷ 64 ∷ 64 ∷ 0 ∷ 0 ∷ 64 ∷ 96 ∷ 0 ∷ 0 ∷ 0 ∷ []) (1 ∷ 0 ∷ 0 ∷ 1 ∷ 6 ∷ 2 ∷ 64 ∷ 96 ∷ 0 ∷ 0 ∷ 64 ∷ 128 ∷ 0 ∷ 0 ∷ 0 ∷ []) 1
    -- metres -2.0 to -1.0, and -1.0 to -0.5: they touch
    ∷ row (1 ∷ 0 ∷ 0 ∷ 1 ∷ 6 ∷ 2 ∷ 192 ∷ 0 ∷ 0 ∷ 0 ∷ 191 ∷ 128 ∷ 0 ∷ 0 ∷ 0 ∷ []) (1 ∷ 0 ∷ 0 ∷ 1 ∷ 6 ∷ 2 ∷ 191 ∷ 128 ∷ 0 ∷ 0 ∷ 191 ∷ 0 ∷ 0 ∷ 0 ∷ 0 ∷ []) 1
    -- metres from next below 0 to 0, and from 0 to next above: they touch at 0
    ∷ row (1 ∷ 0 ∷ 0 ∷ 1 ∷ 6 ∷ 2 ∷ 128 ∷ 0 ∷ 0 ∷ 1 ∷ 0 ∷ 0 ∷ 0 ∷ 0 ∷ 0 ∷ []) (1 ∷ 0 ∷ 0 ∷ 1 ∷ 6 ∷ 2 ∷ 0 ∷ 0 ∷ 0 ∷ 0 ∷ 0 ∷ 0 ∷ 0 ∷ 1 ∷ 0 ∷ []) 1
    -- metres from the least to the greatest, and the least alone
    ∷ row (1 ∷ 0 ∷ 0 ∷ 1 ∷ 6 ∷ 2 ∷ 255 ∷ 127 ∷ 255 ∷ 255 ∷ 127 ∷ 127 ∷ 255 ∷ 255 ∷ 0 ∷ []) (1 ∷ 0 ∷ 0 ∷ 1 ∷ 0 ∷ 2 ∷ 255 ∷ 127 ∷ 255 ∷ 255 ∷ []) 1
    -- 1: a formal has every value of its kind, in a range or given
    -- whole into variable 3, and whole 1 to 5
    ∷ row (1 ∷ 0 ∷ 0 ∷ 1 ∷ 1 ∷ 0 ∷ 3 ∷ []) (1 ∷ 0 ∷ 0 ∷ 1 ∷ 6 ∷ 0 ∷ 0 ∷ 0 ∷ 0 ∷ 1 ∷ 0 ∷ 0 ∷ 0 ∷ 5 ∷ 0 ∷ []) 1
    -- metres -2.0 to -1.0, and any metres
    ∷ row (1 ∷ 0 ∷ 0 ∷ 1 ∷ 6 ∷ 2 ∷ 192 ∷ 0 ∷ 0 ∷ 0 ∷ 191 ∷ 128 ∷ 0 ∷ 0 ∷ 0 ∷ []) (1 ∷ 0 ∷ 0 ∷ 1 ∷ 5 ∷ 2 ∷ []) 1
    -- any name, and name 65535
    ∷ row (1 ∷ 0 ∷ 0 ∷ 1 ∷ 5 ∷ 1 ∷ []) (1 ∷ 0 ∷ 0 ∷ 1 ∷ 0 ∷ 1 ∷ 0 ∷ 0 ∷ 255 ∷ 255 ∷ []) 1
    -- two formals: whole into variable 0, and any whole
    ∷ row (1 ∷ 0 ∷ 0 ∷ 1 ∷ 1 ∷ 0 ∷ 0 ∷ []) (1 ∷ 0 ∷ 0 ∷ 1 ∷ 5 ∷ 0 ∷ []) 1
    -- 1: a given value in a range, and at its ends
    -- 3, and 1 to 5
    ∷ row (1 ∷ 0 ∷ 0 ∷ 1 ∷ 0 ∷ 0 ∷ 0 ∷ 0 ∷ 0 ∷ 3 ∷ []) (1 ∷ 0 ∷ 0 ∷ 1 ∷ 6 ∷ 0 ∷ 0 ∷ 0 ∷ 0 ∷ 1 ∷ 0 ∷ 0 ∷ 0 ∷ 5 ∷ 0 ∷ []) 1
    -- 1, and 1 to 5
    ∷ row (1 ∷ 0 ∷ 0 ∷ 1 ∷ 0 ∷ 0 ∷ 0 ∷ 0 ∷ 0 ∷ 1 ∷ []) (1 ∷ 0 ∷ 0 ∷ 1 ∷ 6 ∷ 0 ∷ 0 ∷ 0 ∷ 0 ∷ 1 ∷ 0 ∷ 0 ∷ 0 ∷ 5 ∷ 0 ∷ []) 1
    -- 1 to 5, and 5
    ∷ row (1 ∷ 0 ∷ 0 ∷ 1 ∷ 6 ∷ 0 ∷ 0 ∷ 0 ∷ 0 ∷ 1 ∷ 0 ∷ 0 ∷ 0 ∷ 5 ∷ 0 ∷ []) (1 ∷ 0 ∷ 0 ∷ 1 ∷ 0 ∷ 0 ∷ 0 ∷ 0 ∷ 0 ∷ 5 ∷ []) 1
    -- -1, and -2 to 1
    ∷ row (1 ∷ 0 ∷ 0 ∷ 1 ∷ 0 ∷ 0 ∷ 255 ∷ 255 ∷ 255 ∷ 255 ∷ []) (1 ∷ 0 ∷ 0 ∷ 1 ∷ 6 ∷ 0 ∷ 255 ∷ 255 ∷ 255 ∷ 254 ∷ 0 ∷ 0 ∷ 0 ∷ 1 ∷ 0 ∷ []) 1
    -- -1.5, and -2.0 to -1.0
    ∷ row (1 ∷ 0 ∷ 0 ∷ 1 ∷ 0 ∷ 2 ∷ 191 ∷ 192 ∷ 0 ∷ 0 ∷ []) (1 ∷ 0 ∷ 0 ∷ 1 ∷ 6 ∷ 2 ∷ 192 ∷ 0 ∷ 0 ∷ 0 ∷ 191 ∷ 128 ∷ 0 ∷ 0 ∷ 0 ∷ []) 1
    -- 7, and 7 to 7
    ∷ row (1 ∷ 0 ∷ 0 ∷ 1 ∷ 0 ∷ 0 ∷ 0 ∷ 0 ∷ 0 ∷ 7 ∷ []) (1 ∷ 0 ∷ 0 ∷ 1 ∷ 6 ∷ 0 ∷ 0 ∷ 0 ∷ 0 ∷ 7 ∷ 0 ∷ 0 ∷ 0 ∷ 7 ∷ 0 ∷ []) 1
    -- name 7 twice
    ∷ row (1 ∷ 0 ∷ 0 ∷ 1 ∷ 0 ∷ 1 ∷ 0 ∷ 0 ∷ 0 ∷ 7 ∷ []) (1 ∷ 0 ∷ 0 ∷ 1 ∷ 0 ∷ 1 ∷ 0 ∷ 0 ∷ 0 ∷ 7 ∷ []) 1
    -- 1: the code plays no part
    -- in and rd
    ∷ row (1 ∷ 0 ∷ 0 ∷ 1 ∷ 6 ∷ 0 ∷ 0 ∷ 0 ∷ 0 ∷ 1 ∷ 0 ∷ 0 ∷ 0 ∷ 5 ∷ 0 ∷ []) (3 ∷ 0 ∷ 0 ∷ 1 ∷ 6 ∷ 0 ∷ 0 ∷ 0 ∷ 0 ∷ 5 ∷ 0 ∷ 0 ∷ 0 ∷ 9 ∷ 0 ∷ []) 1
    -- inp and rdp
    ∷ row (2 ∷ 0 ∷ 0 ∷ 1 ∷ 0 ∷ 1 ∷ 0 ∷ 0 ∷ 0 ∷ 7 ∷ []) (4 ∷ 0 ∷ 0 ∷ 1 ∷ 0 ∷ 1 ∷ 0 ∷ 0 ∷ 0 ∷ 7 ∷ []) 1
    -- 1: nor does the variable, nor whether the space is open
    -- in either one a variable is bound once, so both may have the same
    ∷ row (1 ∷ 0 ∷ 0 ∷ 2 ∷ 1 ∷ 0 ∷ 15 ∷ 5 ∷ 1 ∷ []) (1 ∷ 0 ∷ 0 ∷ 2 ∷ 6 ∷ 0 ∷ 0 ∷ 0 ∷ 0 ∷ 1 ∷ 0 ∷ 0 ∷ 0 ∷ 5 ∷ 15 ∷ 0 ∷ 1 ∷ 0 ∷ 0 ∷ 0 ∷ 7 ∷ []) 1
    -- space 65535
    ∷ row (1 ∷ 255 ∷ 255 ∷ 1 ∷ 5 ∷ 0 ∷ []) (1 ∷ 255 ∷ 255 ∷ 1 ∷ 5 ∷ 0 ∷ []) 1
    -- six fields: in each place another pair of forms
    ∷ row (1 ∷ 0 ∷ 0 ∷ 6 ∷ 0 ∷ 1 ∷ 0 ∷ 0 ∷ 0 ∷ 7 ∷ 1 ∷ 0 ∷ 0 ∷ 5 ∷ 2 ∷ 6 ∷ 0 ∷ 0 ∷ 0 ∷ 0 ∷ 1 ∷ 0 ∷ 0 ∷ 0 ∷ 5 ∷ 1 ∷ 0 ∷ 0 ∷ 0 ∷ 0 ∷ 0 ∷ 3 ∷ 6 ∷ 2 ∷ 0 ∷ 0 ∷ 0 ∷ 0 ∷ 63 ∷ 128 ∷ 0 ∷ 0 ∷ 2 ∷ []) (1 ∷ 0 ∷ 0 ∷ 6 ∷ 5 ∷ 1 ∷ 6 ∷ 0 ∷ 0 ∷ 0 ∷ 0 ∷ 1 ∷ 0 ∷ 0 ∷ 0 ∷ 5 ∷ 0 ∷ 0 ∷ 2 ∷ 64 ∷ 96 ∷ 0 ∷ 0 ∷ 6 ∷ 0 ∷ 0 ∷ 0 ∷ 0 ∷ 5 ∷ 0 ∷ 0 ∷ 0 ∷ 9 ∷ 1 ∷ 1 ∷ 0 ∷ 2 ∷ 6 ∷ 2 ∷ 63 ∷ 128 ∷ 0 ∷ 0 ∷ 64 ∷ 0 ∷ 0 ∷ 0 ∷ 3 ∷ []) 1
    -- 0: there is no tuple that both match
    -- other spaces: 0 and 1
    ∷ row (1 ∷ 0 ∷ 0 ∷ 1 ∷ 1 ∷ 0 ∷ 0 ∷ []) (1 ∷ 0 ∷ 1 ∷ 1 ∷ 1 ∷ 0 ∷ 0 ∷ []) 0
    -- 1 and 257
    ∷ row (1 ∷ 0 ∷ 1 ∷ 1 ∷ 1 ∷ 0 ∷ 0 ∷ []) (1 ∷ 1 ∷ 1 ∷ 1 ∷ 1 ∷ 0 ∷ 0 ∷ []) 0
    -- other field counts: one and two
    ∷ row (1 ∷ 0 ∷ 0 ∷ 1 ∷ 1 ∷ 0 ∷ 0 ∷ []) (1 ∷ 0 ∷ 0 ∷ 2 ∷ 1 ∷ 0 ∷ 0 ∷ 1 ∷ 0 ∷ 1 ∷ []) 0
    -- six and five
    ∷ row (1 ∷ 0 ∷ 0 ∷ 6 ∷ 5 ∷ 0 ∷ 5 ∷ 0 ∷ 5 ∷ 0 ∷ 5 ∷ 0 ∷ 5 ∷ 0 ∷ 5 ∷ 0 ∷ []) (1 ∷ 0 ∷ 0 ∷ 5 ∷ 5 ∷ 0 ∷ 5 ∷ 0 ∷ 5 ∷ 0 ∷ 5 ∷ 0 ∷ 5 ∷ 0 ∷ []) 0
    -- other kinds: whole and metres
    ∷ row (1 ∷ 0 ∷ 0 ∷ 1 ∷ 1 ∷ 0 ∷ 0 ∷ []) (1 ∷ 0 ∷ 0 ∷ 1 ∷ 1 ∷ 2 ∷ 0 ∷ []) 0
    -- whole and name
    ∷ row (1 ∷ 0 ∷ 0 ∷ 1 ∷ 5 ∷ 0 ∷ []) (1 ∷ 0 ∷ 0 ∷ 1 ∷ 5 ∷ 1 ∷ []) 0
    -- ranges of other kinds with the same bits
    ∷ row (1 ∷ 0 ∷ 0 ∷ 1 ∷ 6 ∷ 0 ∷ 0 ∷ 0 ∷ 0 ∷ 1 ∷ 0 ∷ 0 ∷ 0 ∷ 5 ∷ 0 ∷ []) (1 ∷ 0 ∷ 0 ∷ 1 ∷ 6 ∷ 2 ∷ 0 ∷ 0 ∷ 0 ∷ 1 ∷ 0 ∷ 0 ∷ 0 ∷ 5 ∷ 0 ∷ []) 0
    -- name 7, and whole 7
    ∷ row (1 ∷ 0 ∷ 0 ∷ 1 ∷ 0 ∷ 1 ∷ 0 ∷ 0 ∷ 0 ∷ 7 ∷ []) (1 ∷ 0 ∷ 0 ∷ 1 ∷ 0 ∷ 0 ∷ 0 ∷ 0 ∷ 0 ∷ 7 ∷ []) 0
    -- name 3, and whole 1 to 5
    ∷ row (1 ∷ 0 ∷ 0 ∷ 1 ∷ 0 ∷ 1 ∷ 0 ∷ 0 ∷ 0 ∷ 3 ∷ []) (1 ∷ 0 ∷ 0 ∷ 1 ∷ 6 ∷ 0 ∷ 0 ∷ 0 ∷ 0 ∷ 1 ∷ 0 ∷ 0 ∷ 0 ∷ 5 ∷ 0 ∷ []) 0
    -- whole 1 to 4, and 5 to 9: apart by one
    ∷ row (1 ∷ 0 ∷ 0 ∷ 1 ∷ 6 ∷ 0 ∷ 0 ∷ 0 ∷ 0 ∷ 1 ∷ 0 ∷ 0 ∷ 0 ∷ 4 ∷ 0 ∷ []) (1 ∷ 0 ∷ 0 ∷ 1 ∷ 6 ∷ 0 ∷ 0 ∷ 0 ∷ 0 ∷ 5 ∷ 0 ∷ 0 ∷ 0 ∷ 9 ∷ 0 ∷ []) 0
    -- the same in the other order
    ∷ row (1 ∷ 0 ∷ 0 ∷ 1 ∷ 6 ∷ 0 ∷ 0 ∷ 0 ∷ 0 ∷ 5 ∷ 0 ∷ 0 ∷ 0 ∷ 9 ∷ 0 ∷ []) (1 ∷ 0 ∷ 0 ∷ 1 ∷ 6 ∷ 0 ∷ 0 ∷ 0 ∷ 0 ∷ 1 ∷ 0 ∷ 0 ∷ 0 ∷ 4 ∷ 0 ∷ []) 0
    -- whole -5 to -1, and 0 to 5: apart by one
    ∷ row (1 ∷ 0 ∷ 0 ∷ 1 ∷ 6 ∷ 0 ∷ 255 ∷ 255 ∷ 255 ∷ 251 ∷ 255 ∷ 255 ∷ 255 ∷ 255 ∷ 0 ∷ []) (1 ∷ 0 ∷ 0 ∷ 1 ∷ 6 ∷ 0 ∷ 0 ∷ 0 ∷ 0 ∷ 0 ∷ 0 ∷ 0 ∷ 0 ∷ 5 ∷ 0 ∷ []) 0
    -- the least whole number alone, and the greatest alone
    ∷ row (1 ∷ 0 ∷ 0 ∷ 1 ∷ 6 ∷ 0 ∷ 128 ∷ 0 ∷ 0 ∷ 0 ∷ 128 ∷ 0 ∷ 0 ∷ 0 ∷ 0 ∷ []) (1 ∷ 0 ∷ 0 ∷ 1 ∷ 6 ∷ 0 ∷ 127 ∷ 255 ∷ 255 ∷ 255 ∷ 127 ∷ 255 ∷ 255 ∷ 255 ∷ 0 ∷ []) 0
    -- metres up to 3.5, and from the next value on
    ∷ row (1 ∷ 0 ∷ 0 ∷ 1 ∷ 6 ∷ 2 ∷ 64 ∷ 64 ∷ 0 ∷ 0 ∷ 64 ∷ 96 ∷ 0 ∷ 0 ∷ 0 ∷ []) (1 ∷ 0 ∷ 0 ∷ 1 ∷ 6 ∷ 2 ∷ 64 ∷ 96 ∷ 0 ∷ 1 ∷ 64 ∷ 128 ∷ 0 ∷ 0 ∷ 0 ∷ []) 0
    -- metres up to next below 0, and from 0 on: apart across 0
    ∷ row (1 ∷ 0 ∷ 0 ∷ 1 ∷ 6 ∷ 2 ∷ 191 ∷ 128 ∷ 0 ∷ 0 ∷ 128 ∷ 0 ∷ 0 ∷ 1 ∷ 0 ∷ []) (1 ∷ 0 ∷ 0 ∷ 1 ∷ 6 ∷ 2 ∷ 0 ∷ 0 ∷ 0 ∷ 0 ∷ 63 ∷ 128 ∷ 0 ∷ 0 ∷ 0 ∷ []) 0
    -- metres -4.0 to -3.0, and -2.0 to -1.0
    ∷ row (1 ∷ 0 ∷ 0 ∷ 1 ∷ 6 ∷ 2 ∷ 192 ∷ 128 ∷ 0 ∷ 0 ∷ 192 ∷ 64 ∷ 0 ∷ 0 ∷ 0 ∷ []) (1 ∷ 0 ∷ 0 ∷ 1 ∷ 6 ∷ 2 ∷ 192 ∷ 0 ∷ 0 ∷ 0 ∷ 191 ∷ 128 ∷ 0 ∷ 0 ∷ 0 ∷ []) 0
    -- metres -2.0 to -1.0, and 1.0 to 2.0
    ∷ row (1 ∷ 0 ∷ 0 ∷ 1 ∷ 6 ∷ 2 ∷ 192 ∷ 0 ∷ 0 ∷ 0 ∷ 191 ∷ 128 ∷ 0 ∷ 0 ∷ 0 ∷ []) (1 ∷ 0 ∷ 0 ∷ 1 ∷ 6 ∷ 2 ∷ 63 ∷ 128 ∷ 0 ∷ 0 ∷ 64 ∷ 0 ∷ 0 ∷ 0 ∷ 0 ∷ []) 0
    -- 6, and 1 to 5
    ∷ row (1 ∷ 0 ∷ 0 ∷ 1 ∷ 0 ∷ 0 ∷ 0 ∷ 0 ∷ 0 ∷ 6 ∷ []) (1 ∷ 0 ∷ 0 ∷ 1 ∷ 6 ∷ 0 ∷ 0 ∷ 0 ∷ 0 ∷ 1 ∷ 0 ∷ 0 ∷ 0 ∷ 5 ∷ 0 ∷ []) 0
    -- 1 to 5, and 0
    ∷ row (1 ∷ 0 ∷ 0 ∷ 1 ∷ 6 ∷ 0 ∷ 0 ∷ 0 ∷ 0 ∷ 1 ∷ 0 ∷ 0 ∷ 0 ∷ 5 ∷ 0 ∷ []) (1 ∷ 0 ∷ 0 ∷ 1 ∷ 0 ∷ 0 ∷ 0 ∷ 0 ∷ 0 ∷ 0 ∷ []) 0
    -- -2.5, and -2.0 to -1.0
    ∷ row (1 ∷ 0 ∷ 0 ∷ 1 ∷ 0 ∷ 2 ∷ 192 ∷ 32 ∷ 0 ∷ 0 ∷ []) (1 ∷ 0 ∷ 0 ∷ 1 ∷ 6 ∷ 2 ∷ 192 ∷ 0 ∷ 0 ∷ 0 ∷ 191 ∷ 128 ∷ 0 ∷ 0 ∷ 0 ∷ []) 0
    -- whole 7 and whole 8
    ∷ row (1 ∷ 0 ∷ 0 ∷ 1 ∷ 0 ∷ 0 ∷ 0 ∷ 0 ∷ 0 ∷ 7 ∷ []) (1 ∷ 0 ∷ 0 ∷ 1 ∷ 0 ∷ 0 ∷ 0 ∷ 0 ∷ 0 ∷ 8 ∷ []) 0
    -- 7 to 7, and 8 to 8
    ∷ row (1 ∷ 0 ∷ 0 ∷ 1 ∷ 6 ∷ 0 ∷ 0 ∷ 0 ∷ 0 ∷ 7 ∷ 0 ∷ 0 ∷ 0 ∷ 7 ∷ 0 ∷ []) (1 ∷ 0 ∷ 0 ∷ 1 ∷ 6 ∷ 0 ∷ 0 ∷ 0 ∷ 0 ∷ 8 ∷ 0 ∷ 0 ∷ 0 ∷ 8 ∷ 0 ∷ []) 0
    -- the sixth field alone: 1 to 4, and 5
    ∷ row (1 ∷ 0 ∷ 0 ∷ 6 ∷ 5 ∷ 1 ∷ 5 ∷ 1 ∷ 5 ∷ 1 ∷ 5 ∷ 1 ∷ 5 ∷ 1 ∷ 6 ∷ 0 ∷ 0 ∷ 0 ∷ 0 ∷ 1 ∷ 0 ∷ 0 ∷ 0 ∷ 4 ∷ 0 ∷ []) (1 ∷ 0 ∷ 0 ∷ 6 ∷ 5 ∷ 1 ∷ 5 ∷ 1 ∷ 5 ∷ 1 ∷ 5 ∷ 1 ∷ 5 ∷ 1 ∷ 0 ∷ 0 ∷ 0 ∷ 0 ∷ 0 ∷ 5 ∷ []) 0
    -- two fields: the first ranges share a value, the second do not
    ∷ row (1 ∷ 0 ∷ 0 ∷ 2 ∷ 6 ∷ 0 ∷ 0 ∷ 0 ∷ 0 ∷ 1 ∷ 0 ∷ 0 ∷ 0 ∷ 5 ∷ 0 ∷ 6 ∷ 0 ∷ 0 ∷ 0 ∷ 0 ∷ 1 ∷ 0 ∷ 0 ∷ 0 ∷ 4 ∷ 1 ∷ []) (1 ∷ 0 ∷ 0 ∷ 2 ∷ 6 ∷ 0 ∷ 0 ∷ 0 ∷ 0 ∷ 5 ∷ 0 ∷ 0 ∷ 0 ∷ 9 ∷ 0 ∷ 6 ∷ 0 ∷ 0 ∷ 0 ∷ 0 ∷ 5 ∷ 0 ∷ 0 ∷ 0 ∷ 9 ∷ 1 ∷ []) 0
    -- the second do, the first do not
    ∷ row (1 ∷ 0 ∷ 0 ∷ 2 ∷ 6 ∷ 0 ∷ 0 ∷ 0 ∷ 0 ∷ 1 ∷ 0 ∷ 0 ∷ 0 ∷ 4 ∷ 0 ∷ 6 ∷ 0 ∷ 0 ∷ 0 ∷ 0 ∷ 1 ∷ 0 ∷ 0 ∷ 0 ∷ 5 ∷ 1 ∷ []) (1 ∷ 0 ∷ 0 ∷ 2 ∷ 6 ∷ 0 ∷ 0 ∷ 0 ∷ 0 ∷ 5 ∷ 0 ∷ 0 ∷ 0 ∷ 9 ∷ 0 ∷ 6 ∷ 0 ∷ 0 ∷ 0 ∷ 0 ∷ 5 ∷ 0 ∷ 0 ∷ 0 ∷ 9 ∷ 1 ∷ []) 0
    -- the first alone: name 7, and name 8
    ∷ row (1 ∷ 0 ∷ 0 ∷ 6 ∷ 0 ∷ 1 ∷ 0 ∷ 0 ∷ 0 ∷ 7 ∷ 5 ∷ 0 ∷ 5 ∷ 0 ∷ 5 ∷ 0 ∷ 5 ∷ 0 ∷ 5 ∷ 0 ∷ []) (1 ∷ 0 ∷ 0 ∷ 6 ∷ 0 ∷ 1 ∷ 0 ∷ 0 ∷ 0 ∷ 8 ∷ 5 ∷ 0 ∷ 5 ∷ 0 ∷ 5 ∷ 0 ∷ 5 ∷ 0 ∷ 5 ∷ 0 ∷ []) 0
    -- 6: not the bytes of one operation of codes 1 to 4, and nothing more
    -- no bytes, first
    ∷ row [] (1 ∷ 0 ∷ 0 ∷ 1 ∷ 1 ∷ 0 ∷ 0 ∷ []) 6
    -- second
    ∷ row (1 ∷ 0 ∷ 0 ∷ 1 ∷ 1 ∷ 0 ∷ 0 ∷ []) [] 6
    -- both
    ∷ row [] [] 6
    -- code 0
    ∷ row (0 ∷ []) (1 ∷ 0 ∷ 0 ∷ 1 ∷ 1 ∷ 0 ∷ 0 ∷ []) 6
    -- code 0 with a space and fields behind it
    ∷ row (0 ∷ 0 ∷ 0 ∷ 1 ∷ 1 ∷ 0 ∷ 0 ∷ []) (1 ∷ 0 ∷ 0 ∷ 1 ∷ 1 ∷ 0 ∷ 0 ∷ []) 6
    -- code 5: an out
    ∷ row (1 ∷ 0 ∷ 0 ∷ 1 ∷ 1 ∷ 0 ∷ 0 ∷ []) (5 ∷ 0 ∷ 0 ∷ 1 ∷ 0 ∷ 0 ∷ 0 ∷ 0 ∷ 0 ∷ 1 ∷ []) 6
    -- code 6: a move
    ∷ row (6 ∷ 0 ∷ 0 ∷ 0 ∷ 0 ∷ 1 ∷ 5 ∷ 0 ∷ []) (1 ∷ 0 ∷ 0 ∷ 1 ∷ 1 ∷ 0 ∷ 0 ∷ []) 6
    -- code 7: a copy
    ∷ row (1 ∷ 0 ∷ 0 ∷ 1 ∷ 1 ∷ 0 ∷ 0 ∷ []) (7 ∷ 0 ∷ 0 ∷ 0 ∷ 0 ∷ 1 ∷ 5 ∷ 0 ∷ []) 6
    -- code 8
    ∷ row (8 ∷ 0 ∷ 0 ∷ 1 ∷ 1 ∷ 0 ∷ 0 ∷ []) (1 ∷ 0 ∷ 0 ∷ 1 ∷ 1 ∷ 0 ∷ 0 ∷ []) 6
    -- no fields
    ∷ row (1 ∷ 0 ∷ 0 ∷ 0 ∷ []) (1 ∷ 0 ∷ 0 ∷ 0 ∷ []) 6
    -- seven fields
    ∷ row (1 ∷ 0 ∷ 0 ∷ 7 ∷ 5 ∷ 0 ∷ 5 ∷ 0 ∷ 5 ∷ 0 ∷ 5 ∷ 0 ∷ 5 ∷ 0 ∷ 5 ∷ 0 ∷ 5 ∷ 0 ∷ []) (1 ∷ 0 ∷ 0 ∷ 7 ∷ 5 ∷ 0 ∷ 5 ∷ 0 ∷ 5 ∷ 0 ∷ 5 ∷ 0 ∷ 5 ∷ 0 ∷ 5 ∷ 0 ∷ 5 ∷ 0 ∷ []) 6
    -- a spare byte
    ∷ row (1 ∷ 0 ∷ 0 ∷ 1 ∷ 1 ∷ 0 ∷ 0 ∷ 0 ∷ []) (1 ∷ 0 ∷ 0 ∷ 1 ∷ 1 ∷ 0 ∷ 0 ∷ []) 6
    -- one byte short: a form 1 with no variable
    ∷ row (1 ∷ 0 ∷ 0 ∷ 1 ∷ 1 ∷ 0 ∷ 0 ∷ []) (1 ∷ 0 ∷ 0 ∷ 1 ∷ 1 ∷ 0 ∷ []) 6
    -- a form 6 with no variable
    ∷ row (1 ∷ 0 ∷ 0 ∷ 1 ∷ 6 ∷ 0 ∷ 0 ∷ 0 ∷ 0 ∷ 1 ∷ 0 ∷ 0 ∷ 0 ∷ 5 ∷ []) (1 ∷ 0 ∷ 0 ∷ 1 ∷ 1 ∷ 0 ∷ 0 ∷ []) 6
    -- one field counted, and two there
    ∷ row (1 ∷ 0 ∷ 0 ∷ 1 ∷ 5 ∷ 0 ∷ 5 ∷ 0 ∷ []) (1 ∷ 0 ∷ 0 ∷ 1 ∷ 1 ∷ 0 ∷ 0 ∷ []) 6
    -- a code and a byte of its space
    ∷ row (1 ∷ 0 ∷ []) (1 ∷ 0 ∷ 0 ∷ 1 ∷ 1 ∷ 0 ∷ 0 ∷ []) 6
    -- 6: forms, kinds, values and variables
    -- form 3
    ∷ row (1 ∷ 0 ∷ 0 ∷ 1 ∷ 3 ∷ 0 ∷ 0 ∷ 0 ∷ 0 ∷ 0 ∷ 1 ∷ []) (1 ∷ 0 ∷ 0 ∷ 1 ∷ 1 ∷ 0 ∷ 0 ∷ []) 6
    -- form 4
    ∷ row (1 ∷ 0 ∷ 0 ∷ 1 ∷ 1 ∷ 0 ∷ 0 ∷ []) (1 ∷ 0 ∷ 0 ∷ 1 ∷ 4 ∷ 0 ∷ 0 ∷ 0 ∷ 0 ∷ 0 ∷ 1 ∷ []) 6
    -- form 7
    ∷ row (1 ∷ 0 ∷ 0 ∷ 1 ∷ 7 ∷ 0 ∷ 0 ∷ []) (1 ∷ 0 ∷ 0 ∷ 1 ∷ 1 ∷ 0 ∷ 0 ∷ []) 6
    -- name 65536
    ∷ row (1 ∷ 0 ∷ 0 ∷ 1 ∷ 0 ∷ 1 ∷ 0 ∷ 1 ∷ 0 ∷ 0 ∷ []) (1 ∷ 0 ∷ 0 ∷ 1 ∷ 5 ∷ 1 ∷ []) 6
    -- metres negative zero
    ∷ row (1 ∷ 0 ∷ 0 ∷ 1 ∷ 5 ∷ 2 ∷ []) (1 ∷ 0 ∷ 0 ∷ 1 ∷ 0 ∷ 2 ∷ 128 ∷ 0 ∷ 0 ∷ 0 ∷ []) 6
    -- metres infinite
    ∷ row (1 ∷ 0 ∷ 0 ∷ 1 ∷ 0 ∷ 2 ∷ 127 ∷ 128 ∷ 0 ∷ 0 ∷ []) (1 ∷ 0 ∷ 0 ∷ 1 ∷ 5 ∷ 2 ∷ []) 6
    -- kind 3 in form 0
    ∷ row (1 ∷ 0 ∷ 0 ∷ 1 ∷ 0 ∷ 3 ∷ 0 ∷ 0 ∷ 0 ∷ 0 ∷ []) (1 ∷ 0 ∷ 0 ∷ 1 ∷ 1 ∷ 0 ∷ 0 ∷ []) 6
    -- in form 1
    ∷ row (1 ∷ 0 ∷ 0 ∷ 1 ∷ 1 ∷ 3 ∷ 0 ∷ []) (1 ∷ 0 ∷ 0 ∷ 1 ∷ 1 ∷ 3 ∷ 0 ∷ []) 6
    -- in form 5
    ∷ row (1 ∷ 0 ∷ 0 ∷ 1 ∷ 1 ∷ 0 ∷ 0 ∷ []) (1 ∷ 0 ∷ 0 ∷ 1 ∷ 5 ∷ 3 ∷ []) 6
    -- in form 6
    ∷ row (1 ∷ 0 ∷ 0 ∷ 1 ∷ 6 ∷ 3 ∷ 0 ∷ 0 ∷ 0 ∷ 1 ∷ 0 ∷ 0 ∷ 0 ∷ 5 ∷ 0 ∷ []) (1 ∷ 0 ∷ 0 ∷ 1 ∷ 1 ∷ 0 ∷ 0 ∷ []) 6
    -- a range of names
    ∷ row (1 ∷ 0 ∷ 0 ∷ 1 ∷ 6 ∷ 1 ∷ 0 ∷ 0 ∷ 0 ∷ 1 ∷ 0 ∷ 0 ∷ 0 ∷ 5 ∷ 0 ∷ []) (1 ∷ 0 ∷ 0 ∷ 1 ∷ 5 ∷ 1 ∷ []) 6
    -- whole, lowest 5 above highest 1
    ∷ row (1 ∷ 0 ∷ 0 ∷ 1 ∷ 6 ∷ 0 ∷ 0 ∷ 0 ∷ 0 ∷ 5 ∷ 0 ∷ 0 ∷ 0 ∷ 1 ∷ 0 ∷ []) (1 ∷ 0 ∷ 0 ∷ 1 ∷ 1 ∷ 0 ∷ 0 ∷ []) 6
    -- whole, lowest 1 above highest -1, which has the higher bits
    ∷ row (1 ∷ 0 ∷ 0 ∷ 1 ∷ 6 ∷ 0 ∷ 0 ∷ 0 ∷ 0 ∷ 1 ∷ 255 ∷ 255 ∷ 255 ∷ 255 ∷ 0 ∷ []) (1 ∷ 0 ∷ 0 ∷ 1 ∷ 1 ∷ 0 ∷ 0 ∷ []) 6
    -- metres, lowest 1.0 above highest 0.5
    ∷ row (1 ∷ 0 ∷ 0 ∷ 1 ∷ 5 ∷ 2 ∷ []) (1 ∷ 0 ∷ 0 ∷ 1 ∷ 6 ∷ 2 ∷ 63 ∷ 128 ∷ 0 ∷ 0 ∷ 63 ∷ 0 ∷ 0 ∷ 0 ∷ 0 ∷ []) 6
    -- metres, lowest -1.0 above highest -2.0 by number, though not by bytes
    ∷ row (1 ∷ 0 ∷ 0 ∷ 1 ∷ 6 ∷ 2 ∷ 191 ∷ 128 ∷ 0 ∷ 0 ∷ 192 ∷ 0 ∷ 0 ∷ 0 ∷ 0 ∷ []) (1 ∷ 0 ∷ 0 ∷ 1 ∷ 5 ∷ 2 ∷ []) 6
    -- metres, lowest next above 0, highest next below, by number too
    ∷ row (1 ∷ 0 ∷ 0 ∷ 1 ∷ 6 ∷ 2 ∷ 0 ∷ 0 ∷ 0 ∷ 1 ∷ 128 ∷ 0 ∷ 0 ∷ 1 ∷ 0 ∷ []) (1 ∷ 0 ∷ 0 ∷ 1 ∷ 5 ∷ 2 ∷ []) 6
    -- negative zero as the lowest
    ∷ row (1 ∷ 0 ∷ 0 ∷ 1 ∷ 6 ∷ 2 ∷ 128 ∷ 0 ∷ 0 ∷ 0 ∷ 63 ∷ 128 ∷ 0 ∷ 0 ∷ 0 ∷ []) (1 ∷ 0 ∷ 0 ∷ 1 ∷ 5 ∷ 2 ∷ []) 6
    -- as the highest
    ∷ row (1 ∷ 0 ∷ 0 ∷ 1 ∷ 5 ∷ 2 ∷ []) (1 ∷ 0 ∷ 0 ∷ 1 ∷ 6 ∷ 2 ∷ 191 ∷ 128 ∷ 0 ∷ 0 ∷ 128 ∷ 0 ∷ 0 ∷ 0 ∷ 0 ∷ []) 6
    -- from 0 to infinity
    ∷ row (1 ∷ 0 ∷ 0 ∷ 1 ∷ 6 ∷ 2 ∷ 0 ∷ 0 ∷ 0 ∷ 0 ∷ 127 ∷ 128 ∷ 0 ∷ 0 ∷ 0 ∷ []) (1 ∷ 0 ∷ 0 ∷ 1 ∷ 5 ∷ 2 ∷ []) 6
    -- from not a number on
    ∷ row (1 ∷ 0 ∷ 0 ∷ 1 ∷ 6 ∷ 2 ∷ 255 ∷ 192 ∷ 0 ∷ 0 ∷ 0 ∷ 0 ∷ 0 ∷ 0 ∷ 0 ∷ []) (1 ∷ 0 ∷ 0 ∷ 1 ∷ 5 ∷ 2 ∷ []) 6
    -- form 1 of variable 16
    ∷ row (1 ∷ 0 ∷ 0 ∷ 1 ∷ 1 ∷ 0 ∷ 16 ∷ []) (1 ∷ 0 ∷ 0 ∷ 1 ∷ 1 ∷ 0 ∷ 0 ∷ []) 6
    -- form 6 of variable 16
    ∷ row (1 ∷ 0 ∷ 0 ∷ 1 ∷ 1 ∷ 0 ∷ 0 ∷ []) (1 ∷ 0 ∷ 0 ∷ 1 ∷ 6 ∷ 0 ∷ 0 ∷ 0 ∷ 0 ∷ 1 ∷ 0 ∷ 0 ∷ 0 ∷ 5 ∷ 16 ∷ []) 6
    -- form 2 of variable 16
    ∷ row (1 ∷ 0 ∷ 0 ∷ 1 ∷ 2 ∷ 16 ∷ []) (1 ∷ 0 ∷ 0 ∷ 1 ∷ 1 ∷ 0 ∷ 0 ∷ []) 6
    -- 6: a variable bound twice in one operation
    -- by forms 1
    ∷ row (1 ∷ 0 ∷ 0 ∷ 2 ∷ 1 ∷ 0 ∷ 0 ∷ 1 ∷ 1 ∷ 0 ∷ []) (1 ∷ 0 ∷ 0 ∷ 2 ∷ 5 ∷ 0 ∷ 5 ∷ 1 ∷ []) 6
    -- by forms 6
    ∷ row (1 ∷ 0 ∷ 0 ∷ 2 ∷ 6 ∷ 0 ∷ 0 ∷ 0 ∷ 0 ∷ 1 ∷ 0 ∷ 0 ∷ 0 ∷ 5 ∷ 2 ∷ 6 ∷ 0 ∷ 0 ∷ 0 ∷ 0 ∷ 1 ∷ 0 ∷ 0 ∷ 0 ∷ 5 ∷ 2 ∷ []) (1 ∷ 0 ∷ 0 ∷ 2 ∷ 5 ∷ 0 ∷ 5 ∷ 0 ∷ []) 6
    -- by a form 1 and then a form 6
    ∷ row (1 ∷ 0 ∷ 0 ∷ 2 ∷ 5 ∷ 0 ∷ 5 ∷ 0 ∷ []) (1 ∷ 0 ∷ 0 ∷ 2 ∷ 1 ∷ 0 ∷ 2 ∷ 6 ∷ 0 ∷ 0 ∷ 0 ∷ 0 ∷ 1 ∷ 0 ∷ 0 ∷ 0 ∷ 5 ∷ 2 ∷ []) 6
    -- by a form 6 and then a form 1
    ∷ row (1 ∷ 0 ∷ 0 ∷ 3 ∷ 6 ∷ 0 ∷ 0 ∷ 0 ∷ 0 ∷ 1 ∷ 0 ∷ 0 ∷ 0 ∷ 5 ∷ 15 ∷ 5 ∷ 1 ∷ 1 ∷ 0 ∷ 15 ∷ []) (1 ∷ 0 ∷ 0 ∷ 3 ∷ 5 ∷ 0 ∷ 5 ∷ 1 ∷ 5 ∷ 0 ∷ []) 6
    -- "Any form 2 is refused 19"
    -- in the first
    ∷ row (1 ∷ 0 ∷ 0 ∷ 1 ∷ 2 ∷ 0 ∷ []) (1 ∷ 0 ∷ 0 ∷ 1 ∷ 1 ∷ 0 ∷ 0 ∷ []) 19
    -- in the second
    ∷ row (1 ∷ 0 ∷ 0 ∷ 1 ∷ 1 ∷ 0 ∷ 0 ∷ []) (1 ∷ 0 ∷ 0 ∷ 1 ∷ 2 ∷ 15 ∷ []) 19
    -- in both
    ∷ row (1 ∷ 0 ∷ 0 ∷ 1 ∷ 2 ∷ 0 ∷ []) (1 ∷ 0 ∷ 0 ∷ 1 ∷ 2 ∷ 0 ∷ []) 19
    -- a form 1 of the same variable before it
    ∷ row (1 ∷ 0 ∷ 0 ∷ 2 ∷ 1 ∷ 0 ∷ 0 ∷ 2 ∷ 0 ∷ []) (1 ∷ 0 ∷ 0 ∷ 2 ∷ 5 ∷ 0 ∷ 5 ∷ 0 ∷ []) 19
    -- behind it
    ∷ row (1 ∷ 0 ∷ 0 ∷ 2 ∷ 5 ∷ 0 ∷ 5 ∷ 0 ∷ []) (1 ∷ 0 ∷ 0 ∷ 2 ∷ 2 ∷ 0 ∷ 1 ∷ 0 ∷ 0 ∷ []) 19
    -- a form 6 of the same variable
    ∷ row (1 ∷ 0 ∷ 0 ∷ 2 ∷ 6 ∷ 0 ∷ 0 ∷ 0 ∷ 0 ∷ 1 ∷ 0 ∷ 0 ∷ 0 ∷ 5 ∷ 0 ∷ 2 ∷ 0 ∷ []) (1 ∷ 0 ∷ 0 ∷ 2 ∷ 5 ∷ 0 ∷ 5 ∷ 0 ∷ []) 19
    -- in the sixth field
    ∷ row (1 ∷ 0 ∷ 0 ∷ 6 ∷ 5 ∷ 0 ∷ 5 ∷ 0 ∷ 5 ∷ 0 ∷ 5 ∷ 0 ∷ 5 ∷ 0 ∷ 5 ∷ 0 ∷ []) (1 ∷ 0 ∷ 0 ∷ 6 ∷ 5 ∷ 0 ∷ 5 ∷ 0 ∷ 5 ∷ 0 ∷ 5 ∷ 0 ∷ 5 ∷ 0 ∷ 2 ∷ 7 ∷ []) 19
    -- though the spaces are not the same
    ∷ row (1 ∷ 0 ∷ 0 ∷ 1 ∷ 2 ∷ 0 ∷ []) (1 ∷ 0 ∷ 1 ∷ 1 ∷ 5 ∷ 0 ∷ []) 19
    -- nor the field counts
    ∷ row (1 ∷ 0 ∷ 0 ∷ 1 ∷ 2 ∷ 0 ∷ []) (1 ∷ 0 ∷ 0 ∷ 2 ∷ 5 ∷ 0 ∷ 5 ∷ 0 ∷ []) 19
    -- nor the kinds of another field
    ∷ row (1 ∷ 0 ∷ 0 ∷ 2 ∷ 2 ∷ 0 ∷ 5 ∷ 0 ∷ []) (1 ∷ 0 ∷ 0 ∷ 2 ∷ 5 ∷ 0 ∷ 5 ∷ 2 ∷ []) 19
    -- "after 6, which tests of it only that its variable is 0 to 15"
    -- a form 2 in the first, and the second malformed: a range of names
    ∷ row (1 ∷ 0 ∷ 0 ∷ 1 ∷ 2 ∷ 0 ∷ []) (1 ∷ 0 ∷ 0 ∷ 1 ∷ 6 ∷ 1 ∷ 0 ∷ 0 ∷ 0 ∷ 1 ∷ 0 ∷ 0 ∷ 0 ∷ 5 ∷ 0 ∷ []) 6
    -- the first malformed, and a form 2 in the second
    ∷ row (1 ∷ 0 ∷ 0 ∷ 1 ∷ 6 ∷ 0 ∷ 0 ∷ 0 ∷ 0 ∷ 5 ∷ 0 ∷ 0 ∷ 0 ∷ 1 ∷ 0 ∷ []) (1 ∷ 0 ∷ 0 ∷ 1 ∷ 2 ∷ 0 ∷ []) 6
    -- a form 2, and no bytes
    ∷ row (1 ∷ 0 ∷ 0 ∷ 1 ∷ 2 ∷ 0 ∷ []) [] 6
    -- no bytes, and a form 2
    ∷ row [] (1 ∷ 0 ∷ 0 ∷ 1 ∷ 2 ∷ 0 ∷ []) 6
    -- a form 2 and a variable bound twice in one operation
    ∷ row (1 ∷ 0 ∷ 0 ∷ 3 ∷ 2 ∷ 0 ∷ 1 ∷ 0 ∷ 0 ∷ 1 ∷ 0 ∷ 0 ∷ []) (1 ∷ 0 ∷ 0 ∷ 3 ∷ 5 ∷ 0 ∷ 5 ∷ 0 ∷ 5 ∷ 0 ∷ []) 6
    -- form 2 of variable 15, then of 16
    ∷ row (1 ∷ 0 ∷ 0 ∷ 2 ∷ 5 ∷ 0 ∷ 5 ∷ 0 ∷ []) (1 ∷ 0 ∷ 0 ∷ 2 ∷ 2 ∷ 15 ∷ 2 ∷ 16 ∷ []) 6
    -- a form 2 in an out
    ∷ row (5 ∷ 0 ∷ 0 ∷ 1 ∷ 2 ∷ 0 ∷ []) (1 ∷ 0 ∷ 0 ∷ 1 ∷ 1 ∷ 0 ∷ 0 ∷ []) 6
    -- a form 2 and a spare byte
    ∷ row (1 ∷ 0 ∷ 0 ∷ 1 ∷ 5 ∷ 0 ∷ []) (1 ∷ 0 ∷ 0 ∷ 1 ∷ 2 ∷ 0 ∷ 0 ∷ []) 6
    ∷ []

unfoldable pub told : Pair → ℕ
told p = can_meet p.first p.second

pub meetings_told : map told pairs ≡ map (λ (p : Pair). p.answer) pairs
unfolding computes told pairs
meetings_told = refl

-- ---- the tuple that both match

-- in(name 7, metres 3.0 to 3.5 into 0, whole into 1, any name, whole 3, any metres) and in(any name, metres 3.25 to 4.0 into 0, whole -2 to 1 into 1, any name, whole 1 to 5 into 2, metres -1.0): in each place the higher of the two lowest values, the lowest of one, or 0
pub built : meeting_tuple (template unbound 9 (actual (value name 7) ∷ ranged metres (range 0x40400000 0x40600000) 0 ∷ formal whole 1 ∷ anonymous name ∷ actual (value whole 3) ∷ anonymous metres ∷ []))
    (template unbound 9 (anonymous name ∷ ranged metres (range 0x40500000 0x40800000) 0 ∷ ranged whole (range 4294967294 1) 1 ∷ anonymous name ∷ ranged whole (range 1 5) 2 ∷ actual (value metres 0xBF800000) ∷ []))
    ≡ record { space = 9; values = value name 7 ∷ value metres 0x40500000 ∷ value whole 4294967294 ∷ value name 0 ∷ value whole 3 ∷ value metres 0xBF800000 ∷ [] }
unfolding computes
built = refl

-- metres -2.0 to -1.0 and -4.0 to -1.5: of the two lowest the higher number, which has the lower bytes
pub built_below : meeting_tuple (template unbound 0 (ranged metres (range 0xC0000000 0xBF800000) 0 ∷ [])) (template unbound 0 (ranged metres (range 0xC0800000 0xBFC00000) 0 ∷ [])) ≡ record { space = 0; values = value metres 0xC0000000 ∷ [] }
unfolding computes
built_below = refl
