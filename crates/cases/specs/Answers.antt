-- Worked answers of matching: which condition of document 003, section 5.1, fails first. Assumes nothing.
use Rattle.std.specs.Prelude.{ℕ, ◌≡◌, refl, List, [], ◌∷◌, map, set}
use Rattle.std.proofs.Math.Option.{some}
use Rattle.model.specs.Value.{Value, value, whole, name, metres, range}
use Rattle.model.specs.Statement.{Field, actual, formal, reference, anonymous, ranged}
use Rattle.model.specs.Matching.{Bindings, unbound, template, mismatch_number, first_mismatch}
use Rattle.calls.proofs.Computes.{computes}

-- fields of a template with the variables that are bound, a tuple's values, and the answer that the papers give
pub record Answer : Type 0 where
  pub bound : Bindings
  pub fields : List Field
  pub values : List Value
  pub answer : ℕ

abbrev row : List Field → List Value → ℕ → Answer
row fs vs n = record { bound = unbound; fields = fs; values = vs; answer = n }

-- variable 0 has this value
abbrev row_with : Value → List Field → List Value → ℕ → Answer
row_with v fs vs n = record { bound = set unbound 0 (some v); fields = fs; values = vs; answer = n }

-- form 6 into variable 0, alone
abbrev row_in : (kind lowest highest : ℕ) → Value → ℕ → Answer
row_in k a b v n = row (ranged k (range a b) 0 ∷ []) (v ∷ []) n

unfoldable pub answers : List Answer
answers =
    -- the first four of docs/MATCHING.md: in(name 7, whole into variable 0, whole 2)
    row (actual (value name 7) ∷ formal whole 0 ∷ actual (value whole 2) ∷ []) (value name 7 ∷ value whole 41 ∷ value whole 2 ∷ []) 0
    ∷ row (actual (value name 7) ∷ formal whole 0 ∷ actual (value whole 2) ∷ []) (value name 7 ∷ value whole 41 ∷ []) 1
    ∷ row (actual (value name 7) ∷ formal whole 0 ∷ actual (value whole 2) ∷ []) (value name 8 ∷ value metres 1077936128 ∷ value whole 2 ∷ []) 2
    ∷ row (actual (value name 7) ∷ formal whole 0 ∷ actual (value whole 2) ∷ []) (value name 7 ∷ value whole 41 ∷ value whole 3 ∷ []) 3
    -- 0 or 1: the values there are agree, and one is missing or too many
    ∷ row (actual (value whole 1) ∷ anonymous whole ∷ []) (value whole 1 ∷ []) 1
    ∷ row (actual (value whole 1) ∷ actual (value whole 0) ∷ []) (value whole 1 ∷ []) 1
    ∷ row (actual (value whole 1) ∷ []) (value whole 1 ∷ value whole 1 ∷ []) 1
    ∷ row (actual (value whole 1) ∷ []) (value whole 1 ∷ []) 0
    -- 0 or 2: a formal of another kind; an actual of another kind with the same four bytes
    ∷ row (anonymous name ∷ []) (value whole 7 ∷ []) 2
    ∷ row (formal metres 3 ∷ []) (value whole 0 ∷ []) 2
    ∷ row (actual (value name 7) ∷ []) (value whole 7 ∷ []) 2
    ∷ row (anonymous name ∷ []) (value name 7 ∷ []) 0
    -- 0 or 3: one bit of the first byte, of the last
    ∷ row (actual (value whole 7) ∷ []) (value whole 2147483655 ∷ []) 3
    ∷ row (actual (value metres 1077936128) ∷ []) (value metres 1077936129 ∷ []) 3
    ∷ row (actual (value metres 1077936128) ∷ []) (value metres 1077936128 ∷ []) 0
    -- 1 or 2, 1 or 3: the number comes first
    ∷ row (anonymous name ∷ anonymous whole ∷ []) (value whole 7 ∷ []) 1
    ∷ row (actual (value whole 1) ∷ anonymous whole ∷ []) (value whole 2 ∷ []) 1
    -- 2 or 3: all kinds come before any value, of an earlier field, of a later one, of the same one
    ∷ row (actual (value whole 1) ∷ anonymous name ∷ []) (value whole 2 ∷ value whole 3 ∷ []) 2
    ∷ row (anonymous name ∷ actual (value whole 1) ∷ []) (value whole 3 ∷ value whole 2 ∷ []) 2
    ∷ row (actual (value whole 1) ∷ []) (value name 2 ∷ []) 2
    ∷ row (actual (value whole 1) ∷ anonymous name ∷ []) (value whole 2 ∷ value name 3 ∷ []) 3
    -- the sixth field
    ∷ row (anonymous whole ∷ anonymous whole ∷ anonymous whole ∷ anonymous whole ∷ anonymous whole ∷ actual (value whole 6) ∷ [])
    (value whole 1 ∷ value whole 2 ∷ value whole 3 ∷ value whole 4 ∷ value whole 5 ∷ value name 6 ∷ []) 2
    ∷ row (anonymous whole ∷ anonymous whole ∷ anonymous whole ∷ anonymous whole ∷ anonymous whole ∷ actual (value whole 6) ∷ [])
    (value whole 1 ∷ value whole 2 ∷ value whole 3 ∷ value whole 4 ∷ value whole 5 ∷ value whole 7 ∷ []) 3
    -- form 2 has kind and bytes of its variable's value
    ∷ row_with (value name 7) (reference 0 ∷ []) (value name 7 ∷ []) 0
    ∷ row_with (value name 7) (reference 0 ∷ []) (value whole 7 ∷ []) 2
    ∷ row_with (value name 7) (reference 0 ∷ []) (value name 8 ∷ []) 3
    ∷ row_with (value name 7) (reference 0 ∷ reference 0 ∷ []) (value name 8 ∷ value whole 7 ∷ []) 2
    -- those with a range of docs/MATCHING.md: in(name 7, metres 3.49 to 3.51 into variable 0), and 3.5, 3.6
    ∷ row (actual (value name 7) ∷ ranged metres (range 0x405F5C29 0x4060A3D7) 0 ∷ []) (value name 7 ∷ value metres 0x40600000 ∷ []) 0
    ∷ row (actual (value name 7) ∷ ranged metres (range 0x405F5C29 0x4060A3D7) 0 ∷ []) (value name 7 ∷ value metres 0x40666666 ∷ []) 3
    -- form 6, "both included": whole 3 to 5; one below, one above
    ∷ row_in whole 3 5 (value whole 3) 0
    ∷ row_in whole 3 5 (value whole 4) 0
    ∷ row_in whole 3 5 (value whole 5) 0
    ∷ row_in whole 3 5 (value whole 2) 3
    ∷ row_in whole 3 5 (value whole 6) 3
    -- whole numbers go by their signs: -2 to 1, and -2, -1, 0, 1, -3, 2
    ∷ row_in whole 4294967294 1 (value whole 4294967294) 0
    ∷ row_in whole 4294967294 1 (value whole 4294967295) 0
    ∷ row_in whole 4294967294 1 (value whole 0) 0
    ∷ row_in whole 4294967294 1 (value whole 1) 0
    ∷ row_in whole 4294967294 1 (value whole 4294967293) 3
    ∷ row_in whole 4294967294 1 (value whole 2) 3
    -- -5 to -3, and -4, -6, -2, 4
    ∷ row_in whole 4294967291 4294967293 (value whole 4294967292) 0
    ∷ row_in whole 4294967291 4294967293 (value whole 4294967290) 3
    ∷ row_in whole 4294967291 4294967293 (value whole 4294967294) 3
    ∷ row_in whole 4294967291 4294967293 (value whole 4) 3
    -- the least to the greatest whole number has every one; up to the next to last the greatest is out, from the second on the least
    ∷ row_in whole 2147483648 2147483647 (value whole 2147483648) 0
    ∷ row_in whole 2147483648 2147483647 (value whole 4294967295) 0
    ∷ row_in whole 2147483648 2147483647 (value whole 0) 0
    ∷ row_in whole 2147483648 2147483647 (value whole 2147483647) 0
    ∷ row_in whole 2147483648 2147483646 (value whole 2147483647) 3
    ∷ row_in whole 2147483649 2147483647 (value whole 2147483648) 3
    -- metres 3.49 to 3.51: both ends, and the next bits below and above
    ∷ row_in metres 0x405F5C29 0x4060A3D7 (value metres 0x405F5C29) 0
    ∷ row_in metres 0x405F5C29 0x4060A3D7 (value metres 0x4060A3D7) 0
    ∷ row_in metres 0x405F5C29 0x4060A3D7 (value metres 0x405F5C28) 3
    ∷ row_in metres 0x405F5C29 0x4060A3D7 (value metres 0x4060A3D8) 3
    -- metres go by their number, negative ones not by their bytes: -2.0 to -1.0, and both ends, -1.5, -2.5, -0.5, 1.5
    ∷ row_in metres 0xC0000000 0xBF800000 (value metres 0xC0000000) 0
    ∷ row_in metres 0xC0000000 0xBF800000 (value metres 0xBF800000) 0
    ∷ row_in metres 0xC0000000 0xBF800000 (value metres 0xBFC00000) 0
    ∷ row_in metres 0xC0000000 0xBF800000 (value metres 0xC0200000) 3
    ∷ row_in metres 0xC0000000 0xBF800000 (value metres 0xBF000000) 3
    ∷ row_in metres 0xC0000000 0xBF800000 (value metres 0x3FC00000) 3
    -- -2.0 to 1.0, and -1.5, 0, 1.0, -2.5, 1.5
    ∷ row_in metres 0xC0000000 0x3F800000 (value metres 0xBFC00000) 0
    ∷ row_in metres 0xC0000000 0x3F800000 (value metres 0) 0
    ∷ row_in metres 0xC0000000 0x3F800000 (value metres 0x3F800000) 0
    ∷ row_in metres 0xC0000000 0x3F800000 (value metres 0xC0200000) 3
    ∷ row_in metres 0xC0000000 0x3F800000 (value metres 0x3FC00000) 3
    -- the values next to 0: from the negative one to the other there are three, and those beside them are out
    ∷ row_in metres 0x80000001 1 (value metres 0x80000001) 0
    ∷ row_in metres 0x80000001 1 (value metres 0) 0
    ∷ row_in metres 0x80000001 1 (value metres 1) 0
    ∷ row_in metres 0x80000001 1 (value metres 0x80000002) 3
    ∷ row_in metres 0x80000001 1 (value metres 2) 3
    -- small negative ones alone, up to 0, from 0 on
    ∷ row_in metres 0x80000003 0x80000001 (value metres 0x80000002) 0
    ∷ row_in metres 0x80000003 0x80000001 (value metres 0x80000004) 3
    ∷ row_in metres 0x80000003 0x80000001 (value metres 0) 3
    ∷ row_in metres 0x807FFFFF 0 (value metres 0) 0
    ∷ row_in metres 0x807FFFFF 0 (value metres 0x80800000) 3
    ∷ row_in metres 0x807FFFFF 0 (value metres 1) 3
    ∷ row_in metres 0 0x007FFFFF (value metres 0x007FFFFF) 0
    ∷ row_in metres 0 0x007FFFFF (value metres 0x00800000) 3
    ∷ row_in metres 0 0x007FFFFF (value metres 0x80000001) 3
    -- the least to the greatest metres value has every one; the ends are out where the range ends next to them
    ∷ row_in metres 0xFF7FFFFF 0x7F7FFFFF (value metres 0xFF7FFFFF) 0
    ∷ row_in metres 0xFF7FFFFF 0x7F7FFFFF (value metres 0x80000001) 0
    ∷ row_in metres 0xFF7FFFFF 0x7F7FFFFF (value metres 0) 0
    ∷ row_in metres 0xFF7FFFFF 0x7F7FFFFF (value metres 0x7F7FFFFF) 0
    ∷ row_in metres 0xFF7FFFFE 0x7F7FFFFE (value metres 0xFF7FFFFF) 3
    ∷ row_in metres 0xFF7FFFFE 0x7F7FFFFE (value metres 0x7F7FFFFF) 3
    -- equal ends ask for the value itself, as form 0 does
    ∷ row_in whole 7 7 (value whole 7) 0
    ∷ row_in whole 7 7 (value whole 6) 3
    ∷ row_in whole 7 7 (value whole 8) 3
    ∷ row_in whole 4294967295 4294967295 (value whole 4294967295) 0
    ∷ row_in whole 4294967295 4294967295 (value whole 2147483647) 3
    ∷ row_in metres 0xBF800000 0xBF800000 (value metres 0xBF800000) 0
    ∷ row_in metres 0xBF800000 0xBF800000 (value metres 0x3F800000) 3
    ∷ row_in metres 0 0 (value metres 0) 0
    ∷ row_in metres 0 0 (value metres 0x80000001) 3
    -- 2 and not 3: another kind, with bits that are in the range, and that are not
    ∷ row_in whole 3 5 (value metres 4) 2
    ∷ row_in whole 3 5 (value name 4) 2
    ∷ row_in whole 3 5 (value name 6) 2
    ∷ row_in metres 0 0x3F800000 (value whole 0x3F000000) 2
    ∷ row_in whole 7 7 (value name 7) 2
    -- beside other fields: the number first, then all kinds, then the values, in any field
    ∷ row (ranged whole (range 3 5) 0 ∷ []) (value whole 6 ∷ value whole 4 ∷ []) 1
    ∷ row (ranged whole (range 3 5) 0 ∷ anonymous name ∷ []) (value whole 6 ∷ []) 1
    ∷ row (ranged whole (range 3 5) 0 ∷ anonymous name ∷ []) (value whole 6 ∷ value whole 1 ∷ []) 2
    ∷ row (actual (value name 7) ∷ ranged whole (range 3 5) 0 ∷ []) (value name 8 ∷ value metres 4 ∷ []) 2
    ∷ row (actual (value name 7) ∷ ranged whole (range 3 5) 0 ∷ []) (value name 8 ∷ value whole 4 ∷ []) 3
    ∷ row (actual (value name 7) ∷ ranged whole (range 3 5) 0 ∷ []) (value name 7 ∷ value whole 4 ∷ []) 0
    ∷ row (ranged whole (range 3 5) 0 ∷ ranged metres (range 0 0x3F800000) 1 ∷ []) (value whole 4 ∷ value metres 0x3F000000 ∷ []) 0
    ∷ row (ranged whole (range 3 5) 0 ∷ ranged metres (range 0 0x3F800000) 1 ∷ []) (value whole 4 ∷ value metres 0x3FC00000 ∷ []) 3
    ∷ row (ranged whole (range 3 5) 0 ∷ ranged metres (range 0 0x3F800000) 1 ∷ []) (value whole 6 ∷ value metres 0x3F000000 ∷ []) 3
    ∷ row (ranged whole (range 3 5) 0 ∷ ranged metres (range 0 0x3F800000) 1 ∷ []) (value whole 6 ∷ value whole 0x3F000000 ∷ []) 2
    -- the sixth field
    ∷ row (anonymous whole ∷ anonymous whole ∷ anonymous whole ∷ anonymous whole ∷ anonymous whole ∷ ranged whole (range 5 6) 15 ∷ [])
    (value whole 1 ∷ value whole 2 ∷ value whole 3 ∷ value whole 4 ∷ value whole 5 ∷ value whole 6 ∷ []) 0
    ∷ row (anonymous whole ∷ anonymous whole ∷ anonymous whole ∷ anonymous whole ∷ anonymous whole ∷ ranged whole (range 5 6) 15 ∷ [])
    (value whole 1 ∷ value whole 2 ∷ value whole 3 ∷ value whole 4 ∷ value whole 5 ∷ value whole 7 ∷ []) 3
    -- beside form 2, whose variable has whole 4
    ∷ row_with (value whole 4) (reference 0 ∷ ranged whole (range 3 5) 1 ∷ []) (value whole 4 ∷ value whole 5 ∷ []) 0
    ∷ row_with (value whole 4) (reference 0 ∷ ranged whole (range 3 5) 1 ∷ []) (value whole 4 ∷ value whole 6 ∷ []) 3
    ∷ row_with (value whole 4) (reference 0 ∷ ranged whole (range 3 5) 1 ∷ []) (value whole 5 ∷ value whole 4 ∷ []) 3
    -- with the lowest above the highest, which is malformed, nothing lies between
    ∷ row_in whole 5 3 (value whole 4) 3
    ∷ row_in whole 5 3 (value whole 5) 3
    ∷ row_in whole 5 3 (value whole 3) 3
    ∷ []

unfoldable pub told : Answer → ℕ
told a = mismatch_number (first_mismatch (template a.bound 0 a.fields) (record { space = 0; values = a.values }))

pub answers_told : map told answers ≡ map (λ (a : Answer). a.answer) answers
unfolding computes told answers
answers_told = refl
