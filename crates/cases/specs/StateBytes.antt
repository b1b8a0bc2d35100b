-- Written by tools/states: states as literal bytes, worked out by hand from "The state buffer" of document 01 and the space numbers and owed hosts of document 02; of its conditions, those on length, header and spaces (the others: `contents`). Assumes nothing.
use Rattle.std.specs.Prelude.{◌≡◌, refl, ℕ, true, false, replicate}
use mathlib.Core.List.{List, [], ◌∷◌, ◌++◌, map, flat_map}
use Rattle.basis.specs.Lists.{zeros}
use Rattle.model.specs.Run.{Run, fresh, Turn}
use Rattle.layout.specs.Replies.{replies_bytes}
use Rattle.layout.specs.States.{encode, decode}
use Rattle.layout.specs.IsState.{is_state}
use Rattle.calls.specs.Calls.{Bytes, FreshAnswer, fresh_call, Lent, Answer, take_call, step_bytes}
use Rattle.calls.proofs.Computes.{computes}
use Rattle.cases.specs.Shown.{owed_pairs}

-- the run after records, one after the other
unfoldable pub run_of : Run → List Bytes → Run
run_of s [] = s
run_of s (x ∷ xs) = run_of (step_bytes s x).run xs

-- what answers each of them
unfoldable pub replies_of : Run → List Bytes → List Bytes
replies_of s [] = []
replies_of s (x ∷ xs) = replies_bytes (step_bytes s x).replies ∷ replies_of (step_bytes s x).run xs

-- the bytes of one tuple, n times
unfoldable pub rows : ℕ → List ℕ → List ℕ
rows n row = flat_map (λ (b : List ℕ). b) (replicate n row)

-- the fresh-state call in a buffer of any bytes of the right length, and in a shorter one
pub fresh_bytes : fresh_call (replicate 25312 165) ≡ record { returned = 0; state = (84 ∷ 83 ∷ (zeros 10 ++ (1 ∷ 1 ∷ zeros 25298))) }
unfolding computes
fresh_bytes = refl

pub fresh_short : fresh_call (7 ∷ []) ≡ record { returned = 1; state = 7 ∷ [] }
unfolding computes
fresh_short = refl

-- two hosts up, a monitor, a private and a shared space, two tuples, a waiting statement
pub left_bytes : encode (run_of fresh ((82 ∷ 86 ∷ 0 ∷ 1 ∷ 0 ∷ 0 ∷ 0 ∷ 1 ∷ 2 ∷ []) ∷ (82 ∷ 86 ∷ 0 ∷ 1 ∷ 0 ∷ 0 ∷ 0 ∷ 2 ∷ 15 ∷ []) ∷ (77 ∷ 79 ∷ 0 ∷ 3 ∷ 0 ∷ 0 ∷ 0 ∷ 3 ∷ 2 ∷ 0 ∷ 5 ∷ []) ∷ (77 ∷ 83 ∷ 0 ∷ 4 ∷ 0 ∷ 0 ∷ 0 ∷ 4 ∷ 2 ∷ 0 ∷ 5 ∷ 1 ∷ []) ∷ (77 ∷ 83 ∷ 0 ∷ 3 ∷ 0 ∷ 0 ∷ 0 ∷ 5 ∷ 2 ∷ 0 ∷ 6 ∷ []) ∷ (65 ∷ 71 ∷ 0 ∷ 38 ∷ 0 ∷ 0 ∷ 0 ∷ 6 ∷ 2 ∷ 0 ∷ 6 ∷ 1 ∷ 0 ∷ 2 ∷ 5 ∷ 0 ∷ 2 ∷ 3 ∷ 0 ∷ 1 ∷ 0 ∷ 0 ∷ 0 ∷ 7 ∷ 0 ∷ 0 ∷ 255 ∷ 255 ∷ 255 ∷ 254 ∷ 0 ∷ 2 ∷ 63 ∷ 128 ∷ 0 ∷ 0 ∷ 5 ∷ 0 ∷ 0 ∷ 1 ∷ 0 ∷ 0 ∷ 0 ∷ 0 ∷ 0 ∷ 1 ∷ []) ∷ (65 ∷ 71 ∷ 0 ∷ 25 ∷ 0 ∷ 0 ∷ 0 ∷ 7 ∷ 15 ∷ 0 ∷ 9 ∷ 1 ∷ 1 ∷ 0 ∷ 0 ∷ 1 ∷ 0 ∷ 1 ∷ 0 ∷ 0 ∷ 0 ∷ 8 ∷ 1 ∷ 5 ∷ 0 ∷ 0 ∷ 1 ∷ 0 ∷ 1 ∷ 0 ∷ 0 ∷ 0 ∷ 8 ∷ []) ∷ [])) ≡ (84 ∷ 83 ∷ 0 ∷ 0 ∷ 0 ∷ 7 ∷ 128 ∷ 4 ∷ 1 ∷ 0 ∷ 0 ∷ 0 ∷ 3 ∷ 3 ∷ 0 ∷ 2 ∷ 1 ∷ (zeros 53 ++ (1 ∷ 1 ∷ 0 ∷ 5 ∷ 0 ∷ 2 ∷ (zeros 149 ++ (2 ∷ 3 ∷ 1 ∷ 0 ∷ 0 ∷ 0 ∷ 7 ∷ 0 ∷ 255 ∷ 255 ∷ 255 ∷ 254 ∷ 2 ∷ 63 ∷ 128 ∷ (zeros 19 ++ (1 ∷ 0 ∷ 0 ∷ 0 ∷ 0 ∷ 1 ∷ (zeros 16858 ++ (7 ∷ 0 ∷ 25 ∷ 15 ∷ 0 ∷ 9 ∷ 1 ∷ 1 ∷ 0 ∷ 0 ∷ 1 ∷ 0 ∷ 1 ∷ 0 ∷ 0 ∷ 0 ∷ 8 ∷ 1 ∷ 5 ∷ 0 ∷ 0 ∷ 1 ∷ 0 ∷ 1 ∷ 0 ∷ 0 ∷ 0 ∷ 8 ∷ zeros 8161)))))))))
unfolding computes run_of
left_bytes = refl

-- 1: an empty buffer; 2: a reply buffer of 3,563; and 3,564 is enough
unfoldable pub returned_for : (state : Bytes) (room : ℕ) → ℕ
returned_for state room = (take_call (record { state = state; input = (82 ∷ 86 ∷ 0 ∷ 1 ∷ 0 ∷ 0 ∷ 0 ∷ 1 ∷ 2 ∷ []); reply = zeros room })).returned

pub refused_1_2 : returned_for [] 3564 ∷ returned_for (84 ∷ 83 ∷ (zeros 10 ++ (1 ∷ 1 ∷ zeros 25298))) 3563 ∷ returned_for (84 ∷ 83 ∷ (zeros 10 ++ (1 ∷ 1 ∷ zeros 25298))) 3564 ∷ [] ≡ 1 ∷ 2 ∷ 18 ∷ []
unfolding computes returned_for
refused_1_2 = refl

-- 256 and 512 open beside 0, and 65,535 the next number
unfoldable pub last_numbers : Bytes
last_numbers = (84 ∷ 83 ∷ 0 ∷ 0 ∷ 0 ∷ 9 ∷ 0 ∷ 36 ∷ 2 ∷ 0 ∷ 0 ∷ 255 ∷ 255 ∷ 3 ∷ 0 ∷ 2 ∷ (zeros 53 ++ (1 ∷ 0 ∷ 1 ∷ 0 ∷ 5 ∷ 2 ∷ (zeros 149 ++ (1 ∷ 0 ∷ 1 ∷ 1 ∷ 0 ∷ 0 ∷ 0 ∷ 9 ∷ (zeros 27 ++ (1 ∷ 1 ∷ 0 ∷ 0 ∷ 0 ∷ 8 ∷ zeros 25047)))))))

unfoldable pub last_stream : List Bytes
last_stream =
    -- a tuple of 256 is not one of 0
    (65 ∷ 71 ∷ 0 ∷ 15 ∷ 0 ∷ 0 ∷ 0 ∷ 10 ∷ 2 ∷ 0 ∷ 5 ∷ 1 ∷ 2 ∷ 0 ∷ 0 ∷ 1 ∷ 0 ∷ 1 ∷ 0 ∷ 0 ∷ 0 ∷ 9 ∷ 0 ∷ [])
    -- a tuple of 0 is not one of 256
    ∷ (65 ∷ 71 ∷ 0 ∷ 15 ∷ 0 ∷ 0 ∷ 0 ∷ 11 ∷ 2 ∷ 0 ∷ 5 ∷ 1 ∷ 2 ∷ 1 ∷ 0 ∷ 1 ∷ 0 ∷ 1 ∷ 0 ∷ 0 ∷ 0 ∷ 8 ∷ 0 ∷ [])
    -- nor of 512, which is open beside them
    ∷ (65 ∷ 71 ∷ 0 ∷ 15 ∷ 0 ∷ 0 ∷ 0 ∷ 12 ∷ 2 ∷ 0 ∷ 5 ∷ 1 ∷ 2 ∷ 2 ∷ 0 ∷ 1 ∷ 0 ∷ 1 ∷ 0 ∷ 0 ∷ 0 ∷ 8 ∷ 0 ∷ [])
    -- 256 is private to 5
    ∷ (65 ∷ 71 ∷ 0 ∷ 15 ∷ 0 ∷ 0 ∷ 0 ∷ 13 ∷ 2 ∷ 0 ∷ 6 ∷ 1 ∷ 2 ∷ 1 ∷ 0 ∷ 1 ∷ 0 ∷ 1 ∷ 0 ∷ 0 ∷ 0 ∷ 9 ∷ 0 ∷ [])
    -- and 0 is not
    ∷ (65 ∷ 71 ∷ 0 ∷ 15 ∷ 0 ∷ 0 ∷ 0 ∷ 14 ∷ 2 ∷ 0 ∷ 6 ∷ 1 ∷ 2 ∷ 0 ∷ 0 ∷ 1 ∷ 0 ∷ 1 ∷ 0 ∷ 0 ∷ 0 ∷ 8 ∷ 0 ∷ [])
    -- the owner finds what is in 256
    ∷ (65 ∷ 71 ∷ 0 ∷ 15 ∷ 0 ∷ 0 ∷ 0 ∷ 15 ∷ 2 ∷ 0 ∷ 5 ∷ 1 ∷ 2 ∷ 1 ∷ 0 ∷ 1 ∷ 0 ∷ 1 ∷ 0 ∷ 0 ∷ 0 ∷ 9 ∷ 0 ∷ [])
    -- 768 is not open
    ∷ (65 ∷ 71 ∷ 0 ∷ 16 ∷ 0 ∷ 0 ∷ 0 ∷ 16 ∷ 2 ∷ 0 ∷ 5 ∷ 1 ∷ 0 ∷ 1 ∷ 5 ∷ 3 ∷ 0 ∷ 1 ∷ 0 ∷ 1 ∷ 0 ∷ 0 ∷ 0 ∷ 1 ∷ [])
    -- 65,535 is not open yet
    ∷ (65 ∷ 71 ∷ 0 ∷ 16 ∷ 0 ∷ 0 ∷ 0 ∷ 17 ∷ 2 ∷ 0 ∷ 5 ∷ 1 ∷ 0 ∷ 1 ∷ 5 ∷ 255 ∷ 255 ∷ 1 ∷ 0 ∷ 1 ∷ 0 ∷ 0 ∷ 0 ∷ 1 ∷ [])
    -- the last number
    ∷ (77 ∷ 83 ∷ 0 ∷ 4 ∷ 0 ∷ 0 ∷ 0 ∷ 18 ∷ 2 ∷ 0 ∷ 5 ∷ 1 ∷ [])
    -- an out to it
    ∷ (65 ∷ 71 ∷ 0 ∷ 16 ∷ 0 ∷ 0 ∷ 0 ∷ 19 ∷ 2 ∷ 0 ∷ 5 ∷ 1 ∷ 0 ∷ 1 ∷ 5 ∷ 255 ∷ 255 ∷ 1 ∷ 0 ∷ 1 ∷ 0 ∷ 0 ∷ 0 ∷ 1 ∷ [])
    -- there is no further number
    ∷ (77 ∷ 83 ∷ 0 ∷ 4 ∷ 0 ∷ 0 ∷ 0 ∷ 20 ∷ 2 ∷ 0 ∷ 5 ∷ 1 ∷ [])
    -- 65,535 is private too
    ∷ (68 ∷ 83 ∷ 0 ∷ 5 ∷ 0 ∷ 0 ∷ 0 ∷ 21 ∷ 2 ∷ 0 ∷ 6 ∷ 255 ∷ 255 ∷ [])
    -- it is closed with its tuple
    ∷ (68 ∷ 83 ∷ 0 ∷ 5 ∷ 0 ∷ 0 ∷ 0 ∷ 22 ∷ 2 ∷ 0 ∷ 5 ∷ 255 ∷ 255 ∷ [])
    -- its number is not given again
    ∷ (77 ∷ 83 ∷ 0 ∷ 4 ∷ 0 ∷ 0 ∷ 0 ∷ 23 ∷ 2 ∷ 0 ∷ 5 ∷ 1 ∷ [])
    -- an out to each of 0, 256 and 512
    ∷ (65 ∷ 71 ∷ 0 ∷ 36 ∷ 0 ∷ 0 ∷ 0 ∷ 24 ∷ 2 ∷ 0 ∷ 5 ∷ 1 ∷ 0 ∷ 3 ∷ 5 ∷ 0 ∷ 0 ∷ 1 ∷ 0 ∷ 1 ∷ 0 ∷ 0 ∷ 0 ∷ 1 ∷ 5 ∷ 1 ∷ 0 ∷ 1 ∷ 0 ∷ 1 ∷ 0 ∷ 0 ∷ 0 ∷ 2 ∷ 5 ∷ 2 ∷ 0 ∷ 1 ∷ 0 ∷ 1 ∷ 0 ∷ 0 ∷ 0 ∷ 3 ∷ [])
    -- a move of all that is in 0
    ∷ (65 ∷ 71 ∷ 0 ∷ 12 ∷ 0 ∷ 0 ∷ 0 ∷ 25 ∷ 2 ∷ 0 ∷ 5 ∷ 1 ∷ 0 ∷ 1 ∷ 6 ∷ 0 ∷ 0 ∷ 2 ∷ 0 ∷ 0 ∷ [])
    -- a copy of all that is in 512
    ∷ (65 ∷ 71 ∷ 0 ∷ 12 ∷ 0 ∷ 0 ∷ 0 ∷ 26 ∷ 2 ∷ 0 ∷ 5 ∷ 1 ∷ 0 ∷ 1 ∷ 7 ∷ 2 ∷ 0 ∷ 0 ∷ 0 ∷ 0 ∷ [])
    -- a statement that waits, and names 512
    ∷ (65 ∷ 71 ∷ 0 ∷ 15 ∷ 0 ∷ 0 ∷ 0 ∷ 27 ∷ 2 ∷ 0 ∷ 6 ∷ 1 ∷ 1 ∷ 2 ∷ 0 ∷ 1 ∷ 0 ∷ 1 ∷ 0 ∷ 0 ∷ 0 ∷ 9 ∷ 0 ∷ [])
    -- DS of 256, which nobody names, leaves the tuples of 0 and 512
    ∷ (68 ∷ 83 ∷ 0 ∷ 5 ∷ 0 ∷ 0 ∷ 0 ∷ 28 ∷ 2 ∷ 0 ∷ 5 ∷ 1 ∷ 0 ∷ [])
    ∷ []

pub last_state : is_state last_numbers ≡ true
unfolding computes last_numbers
last_state = refl

pub last_replies : replies_of (decode last_numbers) last_stream ≡ ((82 ∷ 80 ∷ 0 ∷ 0 ∷ 0 ∷ 10 ∷ 2 ∷ 0 ∷ 5 ∷ 18 ∷ 0 ∷ 0 ∷ []) ∷ (82 ∷ 80 ∷ 0 ∷ 0 ∷ 0 ∷ 11 ∷ 2 ∷ 0 ∷ 5 ∷ 18 ∷ 0 ∷ 0 ∷ []) ∷ (82 ∷ 80 ∷ 0 ∷ 0 ∷ 0 ∷ 12 ∷ 2 ∷ 0 ∷ 5 ∷ 18 ∷ 0 ∷ 0 ∷ []) ∷ (82 ∷ 80 ∷ 0 ∷ 0 ∷ 0 ∷ 13 ∷ 2 ∷ 0 ∷ 6 ∷ 11 ∷ 0 ∷ 0 ∷ []) ∷ (82 ∷ 80 ∷ 0 ∷ 0 ∷ 0 ∷ 14 ∷ 2 ∷ 0 ∷ 6 ∷ 0 ∷ 1 ∷ 0 ∷ []) ∷ (82 ∷ 80 ∷ 0 ∷ 0 ∷ 0 ∷ 15 ∷ 2 ∷ 0 ∷ 5 ∷ 0 ∷ 1 ∷ 0 ∷ []) ∷ (82 ∷ 80 ∷ 0 ∷ 0 ∷ 0 ∷ 16 ∷ 2 ∷ 0 ∷ 5 ∷ 10 ∷ 0 ∷ 0 ∷ []) ∷ (82 ∷ 80 ∷ 0 ∷ 0 ∷ 0 ∷ 17 ∷ 2 ∷ 0 ∷ 5 ∷ 10 ∷ 0 ∷ 0 ∷ []) ∷ (82 ∷ 80 ∷ 0 ∷ 0 ∷ 0 ∷ 18 ∷ 2 ∷ 0 ∷ 5 ∷ 0 ∷ 0 ∷ 1 ∷ 0 ∷ 0 ∷ 0 ∷ 0 ∷ 255 ∷ 255 ∷ []) ∷ (82 ∷ 80 ∷ 0 ∷ 0 ∷ 0 ∷ 19 ∷ 2 ∷ 0 ∷ 5 ∷ 0 ∷ 1 ∷ 0 ∷ []) ∷ (82 ∷ 80 ∷ 0 ∷ 0 ∷ 0 ∷ 20 ∷ 2 ∷ 0 ∷ 5 ∷ 14 ∷ 0 ∷ 0 ∷ []) ∷ (82 ∷ 80 ∷ 0 ∷ 0 ∷ 0 ∷ 21 ∷ 2 ∷ 0 ∷ 6 ∷ 11 ∷ 0 ∷ 0 ∷ []) ∷ (82 ∷ 80 ∷ 0 ∷ 0 ∷ 0 ∷ 22 ∷ 2 ∷ 0 ∷ 5 ∷ 0 ∷ 0 ∷ 0 ∷ []) ∷ (82 ∷ 80 ∷ 0 ∷ 0 ∷ 0 ∷ 23 ∷ 2 ∷ 0 ∷ 5 ∷ 14 ∷ 0 ∷ 0 ∷ []) ∷ (82 ∷ 80 ∷ 0 ∷ 0 ∷ 0 ∷ 24 ∷ 2 ∷ 0 ∷ 5 ∷ 0 ∷ 1 ∷ 0 ∷ []) ∷ (82 ∷ 80 ∷ 0 ∷ 0 ∷ 0 ∷ 25 ∷ 2 ∷ 0 ∷ 5 ∷ 0 ∷ 1 ∷ 0 ∷ []) ∷ (82 ∷ 80 ∷ 0 ∷ 0 ∷ 0 ∷ 26 ∷ 2 ∷ 0 ∷ 5 ∷ 0 ∷ 1 ∷ 0 ∷ []) ∷ ([]) ∷ (82 ∷ 80 ∷ 0 ∷ 0 ∷ 0 ∷ 28 ∷ 2 ∷ 0 ∷ 5 ∷ 0 ∷ 0 ∷ 0 ∷ []) ∷ [])
unfolding computes replies_of last_numbers last_stream
last_replies = refl

pub last_left : encode (run_of (decode last_numbers) last_stream) ≡ (84 ∷ 83 ∷ 0 ∷ 0 ∷ 0 ∷ 28 ∷ 0 ∷ 36 ∷ 2 ∷ 0 ∷ 1 ∷ 0 ∷ 0 ∷ 2 ∷ 0 ∷ 4 ∷ 1 ∷ (zeros 52 ++ (2 ∷ (zeros 154 ++ (2 ∷ 0 ∷ 1 ∷ 1 ∷ 0 ∷ 0 ∷ 0 ∷ 3 ∷ (zeros 25 ++ (2 ∷ 0 ∷ 1 ∷ 1 ∷ 0 ∷ 0 ∷ 0 ∷ 1 ∷ (zeros 27 ++ (1 ∷ 1 ∷ 0 ∷ 0 ∷ 0 ∷ 3 ∷ (zeros 27 ++ (1 ∷ 1 ∷ 0 ∷ 0 ∷ 0 ∷ 1 ∷ (zeros 16792 ++ (27 ∷ 0 ∷ 15 ∷ 2 ∷ 0 ∷ 6 ∷ 1 ∷ 1 ∷ 2 ∷ 0 ∷ 1 ∷ 0 ∷ 1 ∷ 0 ∷ 0 ∷ 0 ∷ 9 ∷ zeros 8172)))))))))))))
unfolding computes run_of last_numbers last_stream
last_left = refl

-- a drive waits for (name 7, metres 3.49 to 3.51), and 3.6 is there
unfoldable pub drive_waits : Bytes
drive_waits = (84 ∷ 83 ∷ 0 ∷ 0 ∷ 0 ∷ 3 ∷ 0 ∷ 4 ∷ 0 ∷ 0 ∷ 0 ∷ 0 ∷ 1 ∷ 1 ∷ 0 ∷ 1 ∷ 1 ∷ (zeros 209 ++ (2 ∷ 1 ∷ 0 ∷ 0 ∷ 0 ∷ 7 ∷ 2 ∷ 64 ∷ 102 ∷ 102 ∷ 102 ∷ (zeros 16886 ++ (2 ∷ 0 ∷ 26 ∷ 2 ∷ 0 ∷ 5 ∷ 1 ∷ 1 ∷ 0 ∷ 0 ∷ 2 ∷ 0 ∷ 1 ∷ 0 ∷ 0 ∷ 0 ∷ 7 ∷ 6 ∷ 2 ∷ 64 ∷ 95 ∷ 92 ∷ 41 ∷ 64 ∷ 96 ∷ 163 ∷ 215 ∷ zeros 8162)))))

pub drive_left : encode (run_of fresh ((82 ∷ 86 ∷ 0 ∷ 1 ∷ 0 ∷ 0 ∷ 0 ∷ 1 ∷ 2 ∷ []) ∷ (65 ∷ 71 ∷ 0 ∷ 26 ∷ 0 ∷ 0 ∷ 0 ∷ 2 ∷ 2 ∷ 0 ∷ 5 ∷ 1 ∷ 1 ∷ 0 ∷ 0 ∷ 2 ∷ 0 ∷ 1 ∷ 0 ∷ 0 ∷ 0 ∷ 7 ∷ 6 ∷ 2 ∷ 64 ∷ 95 ∷ 92 ∷ 41 ∷ 64 ∷ 96 ∷ 163 ∷ 215 ∷ 0 ∷ 0 ∷ []) ∷ (65 ∷ 71 ∷ 0 ∷ 22 ∷ 0 ∷ 0 ∷ 0 ∷ 3 ∷ 2 ∷ 0 ∷ 6 ∷ 1 ∷ 0 ∷ 1 ∷ 5 ∷ 0 ∷ 0 ∷ 2 ∷ 0 ∷ 1 ∷ 0 ∷ 0 ∷ 0 ∷ 7 ∷ 0 ∷ 2 ∷ 64 ∷ 102 ∷ 102 ∷ 102 ∷ []) ∷ [])) ≡ drive_waits
unfolding computes run_of drive_waits
drive_left = refl

pub drive_state : is_state drive_waits ≡ true
unfolding computes drive_waits
drive_state = refl

-- 3.5 wakes it: both replies, the second with the value, and the state without it
pub drive_call : take_call (record { state = drive_waits; input = (65 ∷ 71 ∷ 0 ∷ 22 ∷ 0 ∷ 0 ∷ 0 ∷ 4 ∷ 2 ∷ 0 ∷ 6 ∷ 1 ∷ 0 ∷ 1 ∷ 5 ∷ 0 ∷ 0 ∷ 2 ∷ 0 ∷ 1 ∷ 0 ∷ 0 ∷ 0 ∷ 7 ∷ 0 ∷ 2 ∷ 64 ∷ 96 ∷ 0 ∷ 0 ∷ []); reply = replicate 3564 165 }) ≡ record { returned = 30; state = (84 ∷ 83 ∷ 0 ∷ 0 ∷ 0 ∷ 4 ∷ 0 ∷ 4 ∷ 0 ∷ 0 ∷ 0 ∷ 0 ∷ 1 ∷ 1 ∷ 0 ∷ 1 ∷ (zeros 210 ++ (2 ∷ 1 ∷ 0 ∷ 0 ∷ 0 ∷ 7 ∷ 2 ∷ 64 ∷ 102 ∷ 102 ∷ 102 ∷ zeros 25075))); reply = (82 ∷ 80 ∷ 0 ∷ 0 ∷ 0 ∷ 4 ∷ 2 ∷ 0 ∷ 6 ∷ 0 ∷ 1 ∷ 0 ∷ 82 ∷ 80 ∷ 0 ∷ 0 ∷ 0 ∷ 2 ∷ 2 ∷ 0 ∷ 5 ∷ 0 ∷ 1 ∷ 1 ∷ 0 ∷ 2 ∷ 64 ∷ 96 ∷ 0 ∷ 0 ∷ []) ++ replicate 3534 165 }
unfolding computes drive_waits
drive_call = refl

-- 512 tuples, three hosts up, two monitors, two waiting statements
unfoldable pub full : Bytes
full = (84 ∷ 83 ∷ 0 ∷ 0 ∷ 0 ∷ 9 ∷ 128 ∷ 5 ∷ 2 ∷ 0 ∷ 0 ∷ 0 ∷ 4 ∷ 3 ∷ 2 ∷ 0 ∷ 2 ∷ (zeros 53 ++ (2 ∷ 1 ∷ 0 ∷ 5 ∷ 0 ∷ 3 ∷ (zeros 148 ++ (rows 512 (0 ∷ 0 ∷ 1 ∷ 1 ∷ 0 ∷ 0 ∷ 0 ∷ 7 ∷ zeros 25) ++ (0 ∷ 0 ∷ 0 ∷ 3 ∷ 0 ∷ 15 ∷ 2 ∷ 0 ∷ 5 ∷ 1 ∷ 1 ∷ 0 ∷ 2 ∷ 1 ∷ 0 ∷ 1 ∷ 0 ∷ 0 ∷ 0 ∷ 9 ∷ (zeros 239 ++ (7 ∷ 0 ∷ 15 ∷ 15 ∷ 0 ∷ 6 ∷ 1 ∷ 1 ∷ 0 ∷ 0 ∷ 1 ∷ 0 ∷ 1 ∷ 0 ∷ 0 ∷ 0 ∷ 9 ∷ zeros 7916))))))))

-- both monitors are owed hosts 0 and 15: 80 01 at offset 17 and at 19
unfoldable pub owing : Bytes
owing = (84 ∷ 83 ∷ 0 ∷ 0 ∷ 0 ∷ 11 ∷ 0 ∷ 4 ∷ 2 ∷ 0 ∷ 0 ∷ 0 ∷ 4 ∷ 3 ∷ 2 ∷ 0 ∷ 1 ∷ 128 ∷ 1 ∷ 128 ∷ 1 ∷ (zeros 49 ++ (2 ∷ 1 ∷ 0 ∷ 5 ∷ 0 ∷ 3 ∷ (zeros 148 ++ (rows 512 (0 ∷ 0 ∷ 1 ∷ 1 ∷ 0 ∷ 0 ∷ 0 ∷ 7 ∷ zeros 25) ++ (0 ∷ 0 ∷ 0 ∷ 3 ∷ 0 ∷ 15 ∷ 2 ∷ 0 ∷ 5 ∷ 1 ∷ 1 ∷ 0 ∷ 2 ∷ 1 ∷ 0 ∷ 1 ∷ 0 ∷ 0 ∷ 0 ∷ 9 ∷ zeros 8172))))))

-- monitor 2 is owed hosts 0 and 15: 80 01 at offset 19
unfoldable pub partly : Bytes
partly = (84 ∷ 83 ∷ 0 ∷ 0 ∷ 0 ∷ 12 ∷ 0 ∷ 4 ∷ 2 ∷ 0 ∷ 0 ∷ 0 ∷ 4 ∷ 3 ∷ 2 ∷ 0 ∷ 1 ∷ 0 ∷ 0 ∷ 128 ∷ 1 ∷ (zeros 49 ++ (2 ∷ 1 ∷ 0 ∷ 5 ∷ 0 ∷ 3 ∷ (zeros 148 ++ (rows 510 (0 ∷ 0 ∷ 1 ∷ 1 ∷ 0 ∷ 0 ∷ 0 ∷ 7 ∷ zeros 25) ++ (0 ∷ 0 ∷ 3 ∷ 1 ∷ 0 ∷ 0 ∷ 0 ∷ 1 ∷ 0 ∷ 0 ∷ 0 ∷ 0 ∷ 1 ∷ (zeros 22 ++ (3 ∷ 1 ∷ 0 ∷ 0 ∷ 0 ∷ 1 ∷ 0 ∷ 0 ∷ 0 ∷ 0 ∷ 1 ∷ 0 ∷ 0 ∷ 0 ∷ 0 ∷ 15 ∷ (zeros 18 ++ (3 ∷ 0 ∷ 15 ∷ 2 ∷ 0 ∷ 5 ∷ 1 ∷ 1 ∷ 0 ∷ 2 ∷ 1 ∷ 0 ∷ 1 ∷ 0 ∷ 0 ∷ 0 ∷ 9 ∷ zeros 8172))))))))))

-- 511 tuples, and nothing owed
unfoldable pub paid : Bytes
paid = (84 ∷ 83 ∷ 0 ∷ 0 ∷ 0 ∷ 14 ∷ 128 ∷ 4 ∷ 2 ∷ 0 ∷ 0 ∷ 0 ∷ 4 ∷ 3 ∷ 1 ∷ 255 ∷ 1 ∷ (zeros 53 ++ (2 ∷ 1 ∷ 0 ∷ 5 ∷ 0 ∷ 3 ∷ (zeros 148 ++ (rows 507 (0 ∷ 0 ∷ 1 ∷ 1 ∷ 0 ∷ 0 ∷ 0 ∷ 7 ∷ zeros 25) ++ (0 ∷ 0 ∷ 3 ∷ 1 ∷ 0 ∷ 0 ∷ 0 ∷ 1 ∷ 0 ∷ 0 ∷ 0 ∷ 0 ∷ 1 ∷ (zeros 22 ++ (3 ∷ 1 ∷ 0 ∷ 0 ∷ 0 ∷ 1 ∷ 0 ∷ 0 ∷ 0 ∷ 0 ∷ 1 ∷ 0 ∷ 0 ∷ 0 ∷ 0 ∷ 15 ∷ (zeros 17 ++ (3 ∷ 1 ∷ 0 ∷ 0 ∷ 0 ∷ 1 ∷ 0 ∷ 0 ∷ 0 ∷ 0 ∷ 2 ∷ (zeros 22 ++ (3 ∷ 1 ∷ 0 ∷ 0 ∷ 0 ∷ 1 ∷ 0 ∷ 0 ∷ 0 ∷ 0 ∷ 2 ∷ 0 ∷ 0 ∷ 0 ∷ 0 ∷ 15 ∷ (zeros 51 ++ (3 ∷ 0 ∷ 15 ∷ 2 ∷ 0 ∷ 5 ∷ 1 ∷ 1 ∷ 0 ∷ 2 ∷ 1 ∷ 0 ∷ 1 ∷ 0 ∷ 0 ∷ 0 ∷ 9 ∷ zeros 8172))))))))))))))

pub owing_read : owed_pairs (decode owing) ≡ (1, 0) ∷ (1, 15) ∷ (2, 0) ∷ (2, 15) ∷ []
unfolding computes rows owed_pairs owing
owing_read = refl

pub partly_read : owed_pairs (decode partly) ≡ (2, 0) ∷ (2, 15) ∷ []
unfolding computes rows owed_pairs partly
partly_read = refl

-- hosts 0 and 15 crash: one of three is up, and both are owed to both monitors
pub owing_replies : replies_of (decode full) ((67 ∷ 82 ∷ 0 ∷ 1 ∷ 0 ∷ 0 ∷ 0 ∷ 10 ∷ 0 ∷ []) ∷ (67 ∷ 82 ∷ 0 ∷ 1 ∷ 0 ∷ 0 ∷ 0 ∷ 11 ∷ 15 ∷ []) ∷ []) ≡ ((82 ∷ 80 ∷ 0 ∷ 0 ∷ 0 ∷ 10 ∷ 0 ∷ 0 ∷ 0 ∷ 0 ∷ 0 ∷ 1 ∷ 0 ∷ 0 ∷ 0 ∷ 0 ∷ 0 ∷ 2 ∷ []) ∷ (82 ∷ 80 ∷ 0 ∷ 0 ∷ 0 ∷ 11 ∷ 15 ∷ 0 ∷ 0 ∷ 0 ∷ 0 ∷ 1 ∷ 0 ∷ 0 ∷ 0 ∷ 0 ∷ 0 ∷ 1 ∷ []) ∷ [])
unfolding computes replies_of rows full
owing_replies = refl

pub owing_left : encode (run_of (decode full) ((67 ∷ 82 ∷ 0 ∷ 1 ∷ 0 ∷ 0 ∷ 0 ∷ 10 ∷ 0 ∷ []) ∷ (67 ∷ 82 ∷ 0 ∷ 1 ∷ 0 ∷ 0 ∷ 0 ∷ 11 ∷ 15 ∷ []) ∷ [])) ≡ owing
unfolding computes run_of rows full owing
owing_left = refl

-- a statement takes two tuples: monitor 1 is told of both
pub partly_replies : replies_of (decode owing) ((65 ∷ 71 ∷ 0 ∷ 25 ∷ 0 ∷ 0 ∷ 0 ∷ 12 ∷ 2 ∷ 0 ∷ 7 ∷ 1 ∷ 1 ∷ 0 ∷ 0 ∷ 1 ∷ 0 ∷ 1 ∷ 0 ∷ 0 ∷ 0 ∷ 7 ∷ 1 ∷ 1 ∷ 0 ∷ 0 ∷ 1 ∷ 0 ∷ 1 ∷ 0 ∷ 0 ∷ 0 ∷ 7 ∷ []) ∷ []) ≡ ((82 ∷ 80 ∷ 0 ∷ 0 ∷ 0 ∷ 12 ∷ 2 ∷ 0 ∷ 7 ∷ 0 ∷ 1 ∷ 0 ∷ []) ∷ [])
unfolding computes replies_of rows owing
partly_replies = refl

pub partly_left : encode (run_of (decode owing) ((65 ∷ 71 ∷ 0 ∷ 25 ∷ 0 ∷ 0 ∷ 0 ∷ 12 ∷ 2 ∷ 0 ∷ 7 ∷ 1 ∷ 1 ∷ 0 ∷ 0 ∷ 1 ∷ 0 ∷ 1 ∷ 0 ∷ 0 ∷ 0 ∷ 7 ∷ 1 ∷ 1 ∷ 0 ∷ 0 ∷ 1 ∷ 0 ∷ 1 ∷ 0 ∷ 0 ∷ 0 ∷ 7 ∷ []) ∷ [])) ≡ partly
unfolding computes run_of rows owing partly
partly_left = refl

-- host 15 comes up again, and a statement takes three tuples: monitor 2 is told of both
pub paid_replies : replies_of (decode partly) ((82 ∷ 86 ∷ 0 ∷ 1 ∷ 0 ∷ 0 ∷ 0 ∷ 13 ∷ 15 ∷ []) ∷ (65 ∷ 71 ∷ 0 ∷ 35 ∷ 0 ∷ 0 ∷ 0 ∷ 14 ∷ 2 ∷ 0 ∷ 7 ∷ 1 ∷ 1 ∷ 0 ∷ 0 ∷ 1 ∷ 0 ∷ 1 ∷ 0 ∷ 0 ∷ 0 ∷ 7 ∷ 2 ∷ 1 ∷ 0 ∷ 0 ∷ 1 ∷ 0 ∷ 1 ∷ 0 ∷ 0 ∷ 0 ∷ 7 ∷ 1 ∷ 0 ∷ 0 ∷ 1 ∷ 0 ∷ 1 ∷ 0 ∷ 0 ∷ 0 ∷ 7 ∷ []) ∷ []) ≡ ((82 ∷ 80 ∷ 0 ∷ 0 ∷ 0 ∷ 13 ∷ 15 ∷ 0 ∷ 0 ∷ 0 ∷ 0 ∷ 1 ∷ 0 ∷ 0 ∷ 0 ∷ 0 ∷ 0 ∷ 2 ∷ []) ∷ (82 ∷ 80 ∷ 0 ∷ 0 ∷ 0 ∷ 14 ∷ 2 ∷ 0 ∷ 7 ∷ 0 ∷ 1 ∷ 0 ∷ []) ∷ [])
unfolding computes replies_of rows partly
paid_replies = refl

pub paid_left : encode (run_of (decode partly) ((82 ∷ 86 ∷ 0 ∷ 1 ∷ 0 ∷ 0 ∷ 0 ∷ 13 ∷ 15 ∷ []) ∷ (65 ∷ 71 ∷ 0 ∷ 35 ∷ 0 ∷ 0 ∷ 0 ∷ 14 ∷ 2 ∷ 0 ∷ 7 ∷ 1 ∷ 1 ∷ 0 ∷ 0 ∷ 1 ∷ 0 ∷ 1 ∷ 0 ∷ 0 ∷ 0 ∷ 7 ∷ 2 ∷ 1 ∷ 0 ∷ 0 ∷ 1 ∷ 0 ∷ 1 ∷ 0 ∷ 0 ∷ 0 ∷ 7 ∷ 1 ∷ 0 ∷ 0 ∷ 1 ∷ 0 ∷ 1 ∷ 0 ∷ 0 ∷ 0 ∷ 7 ∷ []) ∷ [])) ≡ paid
unfolding computes run_of rows partly paid
paid_left = refl

-- the call that pays a part: what it returns and leaves in both buffers
pub owing_call : take_call (record { state = owing; input = (65 ∷ 71 ∷ 0 ∷ 25 ∷ 0 ∷ 0 ∷ 0 ∷ 12 ∷ 2 ∷ 0 ∷ 7 ∷ 1 ∷ 1 ∷ 0 ∷ 0 ∷ 1 ∷ 0 ∷ 1 ∷ 0 ∷ 0 ∷ 0 ∷ 7 ∷ 1 ∷ 1 ∷ 0 ∷ 0 ∷ 1 ∷ 0 ∷ 1 ∷ 0 ∷ 0 ∷ 0 ∷ 7 ∷ []); reply = replicate 3564 165 }) ≡ record { returned = 12; state = partly; reply = (82 ∷ 80 ∷ 0 ∷ 0 ∷ 0 ∷ 12 ∷ 2 ∷ 0 ∷ 7 ∷ 0 ∷ 1 ∷ 0 ∷ []) ++ replicate 3552 165 }
unfolding computes rows owing partly
owing_call = refl

-- 1: the mask of a number that was not given; a mask that is not zero beside 511 tuples; the byte behind the masks
pub refused_owing : returned_for (84 ∷ 83 ∷ 0 ∷ 0 ∷ 0 ∷ 9 ∷ 0 ∷ 36 ∷ 2 ∷ 0 ∷ 0 ∷ 0 ∷ 4 ∷ 3 ∷ 2 ∷ 0 ∷ 0 ∷ 0 ∷ 0 ∷ 0 ∷ 0 ∷ 128 ∷ 1 ∷ (zeros 47 ++ (2 ∷ 1 ∷ 0 ∷ 5 ∷ 0 ∷ 3 ∷ (zeros 148 ++ (rows 512 (0 ∷ 0 ∷ 1 ∷ 1 ∷ 0 ∷ 0 ∷ 0 ∷ 7 ∷ zeros 25) ++ (zeros 8192)))))) 3564 ∷ returned_for (84 ∷ 83 ∷ 0 ∷ 0 ∷ 0 ∷ 9 ∷ 0 ∷ 36 ∷ 2 ∷ 0 ∷ 0 ∷ 0 ∷ 4 ∷ 3 ∷ 1 ∷ 255 ∷ 0 ∷ 0 ∷ 0 ∷ 128 ∷ 1 ∷ (zeros 49 ++ (2 ∷ 1 ∷ 0 ∷ 5 ∷ 0 ∷ 3 ∷ (zeros 148 ++ (rows 511 (0 ∷ 0 ∷ 1 ∷ 1 ∷ 0 ∷ 0 ∷ 0 ∷ 7 ∷ zeros 25) ++ (zeros 8225)))))) 3564 ∷ returned_for (84 ∷ 83 ∷ 0 ∷ 0 ∷ 0 ∷ 9 ∷ 0 ∷ 36 ∷ 2 ∷ 0 ∷ 0 ∷ 0 ∷ 4 ∷ 3 ∷ 2 ∷ 0 ∷ 0 ∷ 0 ∷ 0 ∷ 128 ∷ 1 ∷ (zeros 12 ++ (1 ∷ (zeros 36 ++ (2 ∷ 1 ∷ 0 ∷ 5 ∷ 0 ∷ 3 ∷ (zeros 148 ++ (rows 512 (0 ∷ 0 ∷ 1 ∷ 1 ∷ 0 ∷ 0 ∷ 0 ∷ 7 ∷ zeros 25) ++ (zeros 8192)))))))) 3564 ∷ [] ≡ 1 ∷ 1 ∷ 1 ∷ []
unfolding computes rows returned_for
refused_owing = refl

-- "It is a state exactly if .."

unfoldable pub buffers0 : List (List ℕ)
buffers0 =
    -- all conditions
    (84 ∷ 83 ∷ 0 ∷ 0 ∷ 0 ∷ 9 ∷ 0 ∷ 36 ∷ 2 ∷ 0 ∷ 0 ∷ 0 ∷ 4 ∷ 3 ∷ 0 ∷ 1 ∷ 2 ∷ (zeros 53 ++ (2 ∷ 1 ∷ 0 ∷ 5 ∷ 0 ∷ 3 ∷ (zeros 150 ++ (2 ∷ 1 ∷ 0 ∷ 0 ∷ 0 ∷ 7 ∷ 0 ∷ 255 ∷ 255 ∷ 255 ∷ 255 ∷ (zeros 16886 ++ (3 ∷ 0 ∷ 15 ∷ 2 ∷ 0 ∷ 5 ∷ 1 ∷ 1 ∷ 0 ∷ 2 ∷ 1 ∷ 0 ∷ 1 ∷ 0 ∷ 0 ∷ 0 ∷ 9 ∷ (zeros 239 ++ (7 ∷ 0 ∷ 15 ∷ 5 ∷ 0 ∷ 6 ∷ 1 ∷ 1 ∷ 0 ∷ 0 ∷ 1 ∷ 0 ∷ 1 ∷ 0 ∷ 0 ∷ 0 ∷ 9 ∷ zeros 7916)))))))))
    -- nothing waits
    ∷ (84 ∷ 83 ∷ 0 ∷ 0 ∷ 0 ∷ 9 ∷ 0 ∷ 36 ∷ 2 ∷ 0 ∷ 0 ∷ 0 ∷ 4 ∷ 3 ∷ 0 ∷ 1 ∷ (zeros 54 ++ (2 ∷ 1 ∷ 0 ∷ 5 ∷ 0 ∷ 3 ∷ (zeros 150 ++ (2 ∷ 1 ∷ 0 ∷ 0 ∷ 0 ∷ 7 ∷ 0 ∷ 255 ∷ 255 ∷ 255 ∷ 255 ∷ zeros 25075)))))
    -- mark
    ∷ (83 ∷ 84 ∷ 0 ∷ 0 ∷ 0 ∷ 9 ∷ 0 ∷ 36 ∷ 2 ∷ 0 ∷ 0 ∷ 0 ∷ 4 ∷ 3 ∷ 0 ∷ 1 ∷ 2 ∷ (zeros 53 ++ (2 ∷ 1 ∷ 0 ∷ 5 ∷ 0 ∷ 3 ∷ (zeros 150 ++ (2 ∷ 1 ∷ 0 ∷ 0 ∷ 0 ∷ 7 ∷ 0 ∷ 255 ∷ 255 ∷ 255 ∷ 255 ∷ (zeros 16886 ++ (3 ∷ 0 ∷ 15 ∷ 2 ∷ 0 ∷ 5 ∷ 1 ∷ 1 ∷ 0 ∷ 2 ∷ 1 ∷ 0 ∷ 1 ∷ 0 ∷ 0 ∷ 0 ∷ 9 ∷ (zeros 239 ++ (7 ∷ 0 ∷ 15 ∷ 5 ∷ 0 ∷ 6 ∷ 1 ∷ 1 ∷ 0 ∷ 0 ∷ 1 ∷ 0 ∷ 1 ∷ 0 ∷ 0 ∷ 0 ∷ 9 ∷ zeros 7916)))))))))
    -- 8 monitors
    ∷ (84 ∷ 83 ∷ 0 ∷ 0 ∷ 0 ∷ 9 ∷ 0 ∷ 36 ∷ 8 ∷ 0 ∷ 0 ∷ 0 ∷ 4 ∷ 3 ∷ 0 ∷ 1 ∷ 2 ∷ (zeros 53 ++ (2 ∷ 1 ∷ 0 ∷ 5 ∷ 0 ∷ 3 ∷ (zeros 150 ++ (2 ∷ 1 ∷ 0 ∷ 0 ∷ 0 ∷ 7 ∷ 0 ∷ 255 ∷ 255 ∷ 255 ∷ 255 ∷ (zeros 16886 ++ (3 ∷ 0 ∷ 15 ∷ 2 ∷ 0 ∷ 5 ∷ 1 ∷ 1 ∷ 0 ∷ 2 ∷ 1 ∷ 0 ∷ 1 ∷ 0 ∷ 0 ∷ 0 ∷ 9 ∷ (zeros 239 ++ (7 ∷ 0 ∷ 15 ∷ 5 ∷ 0 ∷ 6 ∷ 1 ∷ 1 ∷ 0 ∷ 0 ∷ 1 ∷ 0 ∷ 1 ∷ 0 ∷ 0 ∷ 0 ∷ 9 ∷ zeros 7916)))))))))
    -- 9 monitors
    ∷ (84 ∷ 83 ∷ 0 ∷ 0 ∷ 0 ∷ 9 ∷ 0 ∷ 36 ∷ 9 ∷ 0 ∷ 0 ∷ 0 ∷ 4 ∷ 3 ∷ 0 ∷ 1 ∷ 2 ∷ (zeros 53 ++ (2 ∷ 1 ∷ 0 ∷ 5 ∷ 0 ∷ 3 ∷ (zeros 150 ++ (2 ∷ 1 ∷ 0 ∷ 0 ∷ 0 ∷ 7 ∷ 0 ∷ 255 ∷ 255 ∷ 255 ∷ 255 ∷ (zeros 16886 ++ (3 ∷ 0 ∷ 15 ∷ 2 ∷ 0 ∷ 5 ∷ 1 ∷ 1 ∷ 0 ∷ 2 ∷ 1 ∷ 0 ∷ 1 ∷ 0 ∷ 0 ∷ 0 ∷ 9 ∷ (zeros 239 ++ (7 ∷ 0 ∷ 15 ∷ 5 ∷ 0 ∷ 6 ∷ 1 ∷ 1 ∷ 0 ∷ 0 ∷ 1 ∷ 0 ∷ 1 ∷ 0 ∷ 0 ∷ 0 ∷ 9 ∷ zeros 7916)))))))))
    -- next number 65,536
    ∷ (84 ∷ 83 ∷ 0 ∷ 0 ∷ 0 ∷ 9 ∷ 0 ∷ 36 ∷ 2 ∷ 0 ∷ 1 ∷ 0 ∷ 0 ∷ 3 ∷ 0 ∷ 1 ∷ 2 ∷ (zeros 53 ++ (2 ∷ 1 ∷ 0 ∷ 5 ∷ 0 ∷ 3 ∷ (zeros 150 ++ (2 ∷ 1 ∷ 0 ∷ 0 ∷ 0 ∷ 7 ∷ 0 ∷ 255 ∷ 255 ∷ 255 ∷ 255 ∷ (zeros 16886 ++ (3 ∷ 0 ∷ 15 ∷ 2 ∷ 0 ∷ 5 ∷ 1 ∷ 1 ∷ 0 ∷ 2 ∷ 1 ∷ 0 ∷ 1 ∷ 0 ∷ 0 ∷ 0 ∷ 9 ∷ (zeros 239 ++ (7 ∷ 0 ∷ 15 ∷ 5 ∷ 0 ∷ 6 ∷ 1 ∷ 1 ∷ 0 ∷ 0 ∷ 1 ∷ 0 ∷ 1 ∷ 0 ∷ 0 ∷ 0 ∷ 9 ∷ zeros 7916)))))))))
    -- next number 65,537
    ∷ (84 ∷ 83 ∷ 0 ∷ 0 ∷ 0 ∷ 9 ∷ 0 ∷ 36 ∷ 2 ∷ 0 ∷ 1 ∷ 0 ∷ 1 ∷ 3 ∷ 0 ∷ 1 ∷ 2 ∷ (zeros 53 ++ (2 ∷ 1 ∷ 0 ∷ 5 ∷ 0 ∷ 3 ∷ (zeros 150 ++ (2 ∷ 1 ∷ 0 ∷ 0 ∷ 0 ∷ 7 ∷ 0 ∷ 255 ∷ 255 ∷ 255 ∷ 255 ∷ (zeros 16886 ++ (3 ∷ 0 ∷ 15 ∷ 2 ∷ 0 ∷ 5 ∷ 1 ∷ 1 ∷ 0 ∷ 2 ∷ 1 ∷ 0 ∷ 1 ∷ 0 ∷ 0 ∷ 0 ∷ 9 ∷ (zeros 239 ++ (7 ∷ 0 ∷ 15 ∷ 5 ∷ 0 ∷ 6 ∷ 1 ∷ 1 ∷ 0 ∷ 0 ∷ 1 ∷ 0 ∷ 1 ∷ 0 ∷ 0 ∷ 0 ∷ 9 ∷ zeros 7916)))))))))
    -- next number 0
    ∷ (84 ∷ 83 ∷ 0 ∷ 0 ∷ 0 ∷ 9 ∷ 0 ∷ 36 ∷ 2 ∷ 0 ∷ 0 ∷ 0 ∷ 0 ∷ 3 ∷ 0 ∷ 1 ∷ 2 ∷ (zeros 53 ++ (2 ∷ 1 ∷ 0 ∷ 5 ∷ 0 ∷ 3 ∷ (zeros 150 ++ (2 ∷ 1 ∷ 0 ∷ 0 ∷ 0 ∷ 7 ∷ 0 ∷ 255 ∷ 255 ∷ 255 ∷ 255 ∷ (zeros 16886 ++ (3 ∷ 0 ∷ 15 ∷ 2 ∷ 0 ∷ 5 ∷ 1 ∷ 1 ∷ 0 ∷ 2 ∷ 1 ∷ 0 ∷ 1 ∷ 0 ∷ 0 ∷ 0 ∷ 9 ∷ (zeros 239 ++ (7 ∷ 0 ∷ 15 ∷ 5 ∷ 0 ∷ 6 ∷ 1 ∷ 1 ∷ 0 ∷ 0 ∷ 1 ∷ 0 ∷ 1 ∷ 0 ∷ 0 ∷ 0 ∷ 9 ∷ zeros 7916)))))))))
    -- next number 4 and 2 to the 24
    ∷ (84 ∷ 83 ∷ 0 ∷ 0 ∷ 0 ∷ 9 ∷ 0 ∷ 36 ∷ 2 ∷ 1 ∷ 0 ∷ 0 ∷ 4 ∷ 3 ∷ 0 ∷ 1 ∷ 2 ∷ (zeros 53 ++ (2 ∷ 1 ∷ 0 ∷ 5 ∷ 0 ∷ 3 ∷ (zeros 150 ++ (2 ∷ 1 ∷ 0 ∷ 0 ∷ 0 ∷ 7 ∷ 0 ∷ 255 ∷ 255 ∷ 255 ∷ 255 ∷ (zeros 16886 ++ (3 ∷ 0 ∷ 15 ∷ 2 ∷ 0 ∷ 5 ∷ 1 ∷ 1 ∷ 0 ∷ 2 ∷ 1 ∷ 0 ∷ 1 ∷ 0 ∷ 0 ∷ 0 ∷ 9 ∷ (zeros 239 ++ (7 ∷ 0 ∷ 15 ∷ 5 ∷ 0 ∷ 6 ∷ 1 ∷ 1 ∷ 0 ∷ 0 ∷ 1 ∷ 0 ∷ 1 ∷ 0 ∷ 0 ∷ 0 ∷ 9 ∷ zeros 7916)))))))))
    ∷ []

pub states0 : map is_state buffers0 ≡ (true ∷ true ∷ false ∷ true ∷ false ∷ true ∷ false ∷ false ∷ false ∷ [])
unfolding computes buffers0
states0 = refl

unfoldable pub buffers9 : List (List ℕ)
buffers9 =
    -- the first unused byte of the header
    (84 ∷ 83 ∷ 0 ∷ 0 ∷ 0 ∷ 9 ∷ 0 ∷ 36 ∷ 2 ∷ 0 ∷ 0 ∷ 0 ∷ 4 ∷ 3 ∷ 0 ∷ 1 ∷ 2 ∷ (zeros 16 ++ (1 ∷ (zeros 36 ++ (2 ∷ 1 ∷ 0 ∷ 5 ∷ 0 ∷ 3 ∷ (zeros 150 ++ (2 ∷ 1 ∷ 0 ∷ 0 ∷ 0 ∷ 7 ∷ 0 ∷ 255 ∷ 255 ∷ 255 ∷ 255 ∷ (zeros 16886 ++ (3 ∷ 0 ∷ 15 ∷ 2 ∷ 0 ∷ 5 ∷ 1 ∷ 1 ∷ 0 ∷ 2 ∷ 1 ∷ 0 ∷ 1 ∷ 0 ∷ 0 ∷ 0 ∷ 9 ∷ (zeros 239 ++ (7 ∷ 0 ∷ 15 ∷ 5 ∷ 0 ∷ 6 ∷ 1 ∷ 1 ∷ 0 ∷ 0 ∷ 1 ∷ 0 ∷ 1 ∷ 0 ∷ 0 ∷ 0 ∷ 9 ∷ zeros 7916)))))))))))
    -- the last one
    ∷ (84 ∷ 83 ∷ 0 ∷ 0 ∷ 0 ∷ 9 ∷ 0 ∷ 36 ∷ 2 ∷ 0 ∷ 0 ∷ 0 ∷ 4 ∷ 3 ∷ 0 ∷ 1 ∷ 2 ∷ (zeros 46 ++ (1 ∷ 0 ∷ 0 ∷ 0 ∷ 0 ∷ 0 ∷ 0 ∷ 2 ∷ 1 ∷ 0 ∷ 5 ∷ 0 ∷ 3 ∷ (zeros 150 ++ (2 ∷ 1 ∷ 0 ∷ 0 ∷ 0 ∷ 7 ∷ 0 ∷ 255 ∷ 255 ∷ 255 ∷ 255 ∷ (zeros 16886 ++ (3 ∷ 0 ∷ 15 ∷ 2 ∷ 0 ∷ 5 ∷ 1 ∷ 1 ∷ 0 ∷ 2 ∷ 1 ∷ 0 ∷ 1 ∷ 0 ∷ 0 ∷ 0 ∷ 9 ∷ (zeros 239 ++ (7 ∷ 0 ∷ 15 ∷ 5 ∷ 0 ∷ 6 ∷ 1 ∷ 1 ∷ 0 ∷ 0 ∷ 1 ∷ 0 ∷ 1 ∷ 0 ∷ 0 ∷ 0 ∷ 9 ∷ zeros 7916)))))))))
    -- a byte more
    ∷ (84 ∷ 83 ∷ 0 ∷ 0 ∷ 0 ∷ 9 ∷ 0 ∷ 36 ∷ 2 ∷ 0 ∷ 0 ∷ 0 ∷ 4 ∷ 3 ∷ 0 ∷ 1 ∷ 2 ∷ (zeros 53 ++ (2 ∷ 1 ∷ 0 ∷ 5 ∷ 0 ∷ 3 ∷ (zeros 150 ++ (2 ∷ 1 ∷ 0 ∷ 0 ∷ 0 ∷ 7 ∷ 0 ∷ 255 ∷ 255 ∷ 255 ∷ 255 ∷ (zeros 16886 ++ (3 ∷ 0 ∷ 15 ∷ 2 ∷ 0 ∷ 5 ∷ 1 ∷ 1 ∷ 0 ∷ 2 ∷ 1 ∷ 0 ∷ 1 ∷ 0 ∷ 0 ∷ 0 ∷ 9 ∷ (zeros 239 ++ (7 ∷ 0 ∷ 15 ∷ 5 ∷ 0 ∷ 6 ∷ 1 ∷ 1 ∷ 0 ∷ 0 ∷ 1 ∷ 0 ∷ 1 ∷ 0 ∷ 0 ∷ 0 ∷ 9 ∷ zeros 7917)))))))))
    -- a byte less
    ∷ (84 ∷ 83 ∷ 0 ∷ 0 ∷ 0 ∷ 9 ∷ 0 ∷ 36 ∷ 2 ∷ 0 ∷ 0 ∷ 0 ∷ 4 ∷ 3 ∷ 0 ∷ 1 ∷ 2 ∷ (zeros 53 ++ (2 ∷ 1 ∷ 0 ∷ 5 ∷ 0 ∷ 3 ∷ (zeros 150 ++ (2 ∷ 1 ∷ 0 ∷ 0 ∷ 0 ∷ 7 ∷ 0 ∷ 255 ∷ 255 ∷ 255 ∷ 255 ∷ (zeros 16886 ++ (3 ∷ 0 ∷ 15 ∷ 2 ∷ 0 ∷ 5 ∷ 1 ∷ 1 ∷ 0 ∷ 2 ∷ 1 ∷ 0 ∷ 1 ∷ 0 ∷ 0 ∷ 0 ∷ 9 ∷ (zeros 239 ++ (7 ∷ 0 ∷ 15 ∷ 5 ∷ 0 ∷ 6 ∷ 1 ∷ 1 ∷ 0 ∷ 0 ∷ 1 ∷ 0 ∷ 1 ∷ 0 ∷ 0 ∷ 0 ∷ 9 ∷ zeros 7915)))))))))
    -- a space not below the next number
    ∷ (84 ∷ 83 ∷ 0 ∷ 0 ∷ 0 ∷ 9 ∷ 0 ∷ 36 ∷ 2 ∷ 0 ∷ 0 ∷ 0 ∷ 3 ∷ 3 ∷ 0 ∷ 1 ∷ 2 ∷ (zeros 53 ++ (2 ∷ 1 ∷ 0 ∷ 5 ∷ 0 ∷ 3 ∷ (zeros 150 ++ (2 ∷ 1 ∷ 0 ∷ 0 ∷ 0 ∷ 7 ∷ 0 ∷ 255 ∷ 255 ∷ 255 ∷ 255 ∷ (zeros 16886 ++ (3 ∷ 0 ∷ 15 ∷ 2 ∷ 0 ∷ 5 ∷ 1 ∷ 1 ∷ 0 ∷ 2 ∷ 1 ∷ 0 ∷ 1 ∷ 0 ∷ 0 ∷ 0 ∷ 9 ∷ (zeros 239 ++ (7 ∷ 0 ∷ 15 ∷ 5 ∷ 0 ∷ 6 ∷ 1 ∷ 1 ∷ 0 ∷ 0 ∷ 1 ∷ 0 ∷ 1 ∷ 0 ∷ 0 ∷ 0 ∷ 9 ∷ zeros 7916)))))))))
    -- space 0 private
    ∷ (84 ∷ 83 ∷ 0 ∷ 0 ∷ 0 ∷ 9 ∷ 0 ∷ 36 ∷ 2 ∷ 0 ∷ 0 ∷ 0 ∷ 4 ∷ 2 ∷ 0 ∷ 1 ∷ 2 ∷ (zeros 49 ++ (1 ∷ 0 ∷ 0 ∷ 0 ∷ 2 ∷ 1 ∷ 0 ∷ 5 ∷ (zeros 152 ++ (2 ∷ 1 ∷ 0 ∷ 0 ∷ 0 ∷ 7 ∷ 0 ∷ 255 ∷ 255 ∷ 255 ∷ 255 ∷ (zeros 16886 ++ (3 ∷ 0 ∷ 15 ∷ 2 ∷ 0 ∷ 5 ∷ 1 ∷ 1 ∷ 0 ∷ 2 ∷ 1 ∷ 0 ∷ 1 ∷ 0 ∷ 0 ∷ 0 ∷ 9 ∷ (zeros 239 ++ (7 ∷ 0 ∷ 15 ∷ 5 ∷ 0 ∷ 6 ∷ 1 ∷ 1 ∷ 0 ∷ 0 ∷ 1 ∷ 0 ∷ 1 ∷ 0 ∷ 0 ∷ 0 ∷ 9 ∷ zeros 7916)))))))))
    -- space 0 not open
    ∷ (84 ∷ 83 ∷ 0 ∷ 0 ∷ 0 ∷ 9 ∷ 0 ∷ 36 ∷ 2 ∷ 0 ∷ 0 ∷ 0 ∷ 4 ∷ 2 ∷ 0 ∷ 0 ∷ 1 ∷ (zeros 48 ++ (2 ∷ 1 ∷ 0 ∷ 5 ∷ 0 ∷ 3 ∷ (zeros 17052 ++ (3 ∷ 0 ∷ 15 ∷ 2 ∷ 0 ∷ 5 ∷ 1 ∷ 1 ∷ 0 ∷ 2 ∷ 1 ∷ 0 ∷ 1 ∷ 0 ∷ 0 ∷ 0 ∷ 9 ∷ zeros 8172)))))
    -- a space of kind 2
    ∷ (84 ∷ 83 ∷ 0 ∷ 0 ∷ 0 ∷ 9 ∷ 0 ∷ 36 ∷ 2 ∷ 0 ∷ 0 ∷ 0 ∷ 4 ∷ 3 ∷ 0 ∷ 1 ∷ 2 ∷ (zeros 53 ++ (2 ∷ 1 ∷ 0 ∷ 5 ∷ 0 ∷ 3 ∷ 2 ∷ (zeros 149 ++ (2 ∷ 1 ∷ 0 ∷ 0 ∷ 0 ∷ 7 ∷ 0 ∷ 255 ∷ 255 ∷ 255 ∷ 255 ∷ (zeros 16886 ++ (3 ∷ 0 ∷ 15 ∷ 2 ∷ 0 ∷ 5 ∷ 1 ∷ 1 ∷ 0 ∷ 2 ∷ 1 ∷ 0 ∷ 1 ∷ 0 ∷ 0 ∷ 0 ∷ 9 ∷ (zeros 239 ++ (7 ∷ 0 ∷ 15 ∷ 5 ∷ 0 ∷ 6 ∷ 1 ∷ 1 ∷ 0 ∷ 0 ∷ 1 ∷ 0 ∷ 1 ∷ 0 ∷ 0 ∷ 0 ∷ 9 ∷ zeros 7916)))))))))
    -- a shared space with an owner
    ∷ (84 ∷ 83 ∷ 0 ∷ 0 ∷ 0 ∷ 9 ∷ 0 ∷ 36 ∷ 2 ∷ 0 ∷ 0 ∷ 0 ∷ 4 ∷ 3 ∷ 0 ∷ 1 ∷ 2 ∷ (zeros 53 ++ (2 ∷ 1 ∷ 0 ∷ 5 ∷ 0 ∷ 3 ∷ 0 ∷ 0 ∷ 1 ∷ (zeros 147 ++ (2 ∷ 1 ∷ 0 ∷ 0 ∷ 0 ∷ 7 ∷ 0 ∷ 255 ∷ 255 ∷ 255 ∷ 255 ∷ (zeros 16886 ++ (3 ∷ 0 ∷ 15 ∷ 2 ∷ 0 ∷ 5 ∷ 1 ∷ 1 ∷ 0 ∷ 2 ∷ 1 ∷ 0 ∷ 1 ∷ 0 ∷ 0 ∷ 0 ∷ 9 ∷ (zeros 239 ++ (7 ∷ 0 ∷ 15 ∷ 5 ∷ 0 ∷ 6 ∷ 1 ∷ 1 ∷ 0 ∷ 0 ∷ 1 ∷ 0 ∷ 1 ∷ 0 ∷ 0 ∷ 0 ∷ 9 ∷ zeros 7916)))))))))
    ∷ []

pub states9 : map is_state buffers9 ≡ (false ∷ false ∷ false ∷ false ∷ false ∷ false ∷ false ∷ false ∷ false ∷ [])
unfolding computes buffers9
states9 = refl

unfoldable pub buffers18 : List (List ℕ)
buffers18 =
    -- private to process 0
    (84 ∷ 83 ∷ 0 ∷ 0 ∷ 0 ∷ 9 ∷ 0 ∷ 36 ∷ 2 ∷ 0 ∷ 0 ∷ 0 ∷ 4 ∷ 3 ∷ 0 ∷ 1 ∷ 2 ∷ (zeros 53 ++ (2 ∷ 1 ∷ 0 ∷ 5 ∷ 0 ∷ 3 ∷ 1 ∷ (zeros 149 ++ (2 ∷ 1 ∷ 0 ∷ 0 ∷ 0 ∷ 7 ∷ 0 ∷ 255 ∷ 255 ∷ 255 ∷ 255 ∷ (zeros 16886 ++ (3 ∷ 0 ∷ 15 ∷ 2 ∷ 0 ∷ 5 ∷ 1 ∷ 1 ∷ 0 ∷ 2 ∷ 1 ∷ 0 ∷ 1 ∷ 0 ∷ 0 ∷ 0 ∷ 9 ∷ (zeros 239 ++ (7 ∷ 0 ∷ 15 ∷ 5 ∷ 0 ∷ 6 ∷ 1 ∷ 1 ∷ 0 ∷ 0 ∷ 1 ∷ 0 ∷ 1 ∷ 0 ∷ 0 ∷ 0 ∷ 9 ∷ zeros 7916)))))))))
    -- spaces that fall
    ∷ (84 ∷ 83 ∷ 0 ∷ 0 ∷ 0 ∷ 9 ∷ 0 ∷ 36 ∷ 2 ∷ 0 ∷ 0 ∷ 0 ∷ 4 ∷ 3 ∷ 0 ∷ 1 ∷ 2 ∷ (zeros 53 ++ (3 ∷ 0 ∷ 0 ∷ 0 ∷ 0 ∷ 2 ∷ 1 ∷ 0 ∷ 5 ∷ (zeros 147 ++ (2 ∷ 1 ∷ 0 ∷ 0 ∷ 0 ∷ 7 ∷ 0 ∷ 255 ∷ 255 ∷ 255 ∷ 255 ∷ (zeros 16886 ++ (3 ∷ 0 ∷ 15 ∷ 2 ∷ 0 ∷ 5 ∷ 1 ∷ 1 ∷ 0 ∷ 2 ∷ 1 ∷ 0 ∷ 1 ∷ 0 ∷ 0 ∷ 0 ∷ 9 ∷ (zeros 239 ++ (7 ∷ 0 ∷ 15 ∷ 5 ∷ 0 ∷ 6 ∷ 1 ∷ 1 ∷ 0 ∷ 0 ∷ 1 ∷ 0 ∷ 1 ∷ 0 ∷ 0 ∷ 0 ∷ 9 ∷ zeros 7916)))))))))
    -- a space twice
    ∷ (84 ∷ 83 ∷ 0 ∷ 0 ∷ 0 ∷ 9 ∷ 0 ∷ 36 ∷ 2 ∷ 0 ∷ 0 ∷ 0 ∷ 4 ∷ 3 ∷ 0 ∷ 1 ∷ 2 ∷ (zeros 53 ++ (2 ∷ 1 ∷ 0 ∷ 5 ∷ 0 ∷ 2 ∷ 1 ∷ 0 ∷ 5 ∷ (zeros 147 ++ (2 ∷ 1 ∷ 0 ∷ 0 ∷ 0 ∷ 7 ∷ 0 ∷ 255 ∷ 255 ∷ 255 ∷ 255 ∷ (zeros 16886 ++ (3 ∷ 0 ∷ 15 ∷ 2 ∷ 0 ∷ 5 ∷ 1 ∷ 1 ∷ 0 ∷ 2 ∷ 1 ∷ 0 ∷ 1 ∷ 0 ∷ 0 ∷ 0 ∷ 9 ∷ (zeros 239 ++ (7 ∷ 0 ∷ 15 ∷ 5 ∷ 0 ∷ 6 ∷ 1 ∷ 1 ∷ 0 ∷ 0 ∷ 1 ∷ 0 ∷ 1 ∷ 0 ∷ 0 ∷ 0 ∷ 9 ∷ zeros 7916)))))))))
    -- low bytes of numbers that fall
    ∷ (84 ∷ 83 ∷ 0 ∷ 0 ∷ 0 ∷ 9 ∷ 0 ∷ 36 ∷ 2 ∷ 0 ∷ 0 ∷ 1 ∷ 1 ∷ 4 ∷ 0 ∷ 1 ∷ 2 ∷ (zeros 53 ++ (2 ∷ 1 ∷ 0 ∷ 5 ∷ 0 ∷ 255 ∷ 0 ∷ 0 ∷ 0 ∷ 1 ∷ (zeros 146 ++ (2 ∷ 1 ∷ 0 ∷ 0 ∷ 0 ∷ 7 ∷ 0 ∷ 255 ∷ 255 ∷ 255 ∷ 255 ∷ (zeros 16886 ++ (3 ∷ 0 ∷ 15 ∷ 2 ∷ 0 ∷ 5 ∷ 1 ∷ 1 ∷ 0 ∷ 2 ∷ 1 ∷ 0 ∷ 1 ∷ 0 ∷ 0 ∷ 0 ∷ 9 ∷ (zeros 239 ++ (7 ∷ 0 ∷ 15 ∷ 5 ∷ 0 ∷ 6 ∷ 1 ∷ 1 ∷ 0 ∷ 0 ∷ 1 ∷ 0 ∷ 1 ∷ 0 ∷ 0 ∷ 0 ∷ 9 ∷ zeros 7916)))))))))
    -- numbers that fall, low bytes that rise
    ∷ (84 ∷ 83 ∷ 0 ∷ 0 ∷ 0 ∷ 9 ∷ 0 ∷ 36 ∷ 2 ∷ 0 ∷ 0 ∷ 1 ∷ 44 ∷ 4 ∷ 0 ∷ 1 ∷ 2 ∷ (zeros 52 ++ (1 ∷ 1 ∷ 0 ∷ 0 ∷ 0 ∷ 0 ∷ 2 ∷ 1 ∷ 0 ∷ 5 ∷ 0 ∷ 3 ∷ (zeros 145 ++ (2 ∷ 1 ∷ 0 ∷ 0 ∷ 0 ∷ 7 ∷ 0 ∷ 255 ∷ 255 ∷ 255 ∷ 255 ∷ (zeros 16886 ++ (3 ∷ 0 ∷ 15 ∷ 2 ∷ 0 ∷ 5 ∷ 1 ∷ 1 ∷ 0 ∷ 2 ∷ 1 ∷ 0 ∷ 1 ∷ 0 ∷ 0 ∷ 0 ∷ 9 ∷ (zeros 239 ++ (7 ∷ 0 ∷ 15 ∷ 5 ∷ 0 ∷ 6 ∷ 1 ∷ 1 ∷ 0 ∷ 0 ∷ 1 ∷ 0 ∷ 1 ∷ 0 ∷ 0 ∷ 0 ∷ 9 ∷ zeros 7916)))))))))
    -- 258 not below the next number
    ∷ (84 ∷ 83 ∷ 0 ∷ 0 ∷ 0 ∷ 9 ∷ 0 ∷ 36 ∷ 2 ∷ 0 ∷ 0 ∷ 0 ∷ 4 ∷ 3 ∷ 0 ∷ 1 ∷ 2 ∷ (zeros 53 ++ (2 ∷ 1 ∷ 0 ∷ 5 ∷ 1 ∷ 2 ∷ (zeros 150 ++ (2 ∷ 1 ∷ 0 ∷ 0 ∷ 0 ∷ 7 ∷ 0 ∷ 255 ∷ 255 ∷ 255 ∷ 255 ∷ (zeros 16886 ++ (3 ∷ 0 ∷ 15 ∷ 2 ∷ 0 ∷ 5 ∷ 1 ∷ 1 ∷ 0 ∷ 2 ∷ 1 ∷ 0 ∷ 1 ∷ 0 ∷ 0 ∷ 0 ∷ 9 ∷ (zeros 239 ++ (7 ∷ 0 ∷ 15 ∷ 5 ∷ 0 ∷ 6 ∷ 1 ∷ 1 ∷ 0 ∷ 0 ∷ 1 ∷ 0 ∷ 1 ∷ 0 ∷ 0 ∷ 0 ∷ 9 ∷ zeros 7916)))))))))
    -- 65,535 below the next number
    ∷ (84 ∷ 83 ∷ 0 ∷ 0 ∷ 0 ∷ 9 ∷ 0 ∷ 36 ∷ 2 ∷ 0 ∷ 1 ∷ 0 ∷ 0 ∷ 3 ∷ 0 ∷ 1 ∷ 2 ∷ (zeros 53 ++ (2 ∷ 1 ∷ 0 ∷ 5 ∷ 255 ∷ 255 ∷ 1 ∷ 255 ∷ 255 ∷ (zeros 147 ++ (2 ∷ 1 ∷ 0 ∷ 0 ∷ 0 ∷ 7 ∷ 0 ∷ 255 ∷ 255 ∷ 255 ∷ 255 ∷ (zeros 16886 ++ (3 ∷ 0 ∷ 15 ∷ 2 ∷ 0 ∷ 5 ∷ 1 ∷ 1 ∷ 0 ∷ 2 ∷ 1 ∷ 0 ∷ 1 ∷ 0 ∷ 0 ∷ 0 ∷ 9 ∷ (zeros 239 ++ (7 ∷ 0 ∷ 15 ∷ 5 ∷ 0 ∷ 6 ∷ 1 ∷ 1 ∷ 0 ∷ 0 ∷ 1 ∷ 0 ∷ 1 ∷ 0 ∷ 0 ∷ 0 ∷ 9 ∷ zeros 7916)))))))))
    -- 256 open in the place of 0
    ∷ (84 ∷ 83 ∷ 0 ∷ 0 ∷ 0 ∷ 9 ∷ 0 ∷ 36 ∷ 2 ∷ 0 ∷ 0 ∷ 1 ∷ 3 ∷ 2 ∷ (zeros 50 ++ (1 ∷ 0 ∷ 0 ∷ 0 ∷ 0 ∷ 1 ∷ 2 ∷ 1 ∷ 0 ∷ 5 ∷ zeros 25238)))
    -- 33 spaces counted
    ∷ (84 ∷ 83 ∷ 0 ∷ 0 ∷ 0 ∷ 9 ∷ 0 ∷ 36 ∷ 2 ∷ 0 ∷ 0 ∷ 0 ∷ 4 ∷ 33 ∷ 0 ∷ 1 ∷ 2 ∷ (zeros 53 ++ (2 ∷ 1 ∷ 0 ∷ 5 ∷ 0 ∷ 3 ∷ (zeros 150 ++ (2 ∷ 1 ∷ 0 ∷ 0 ∷ 0 ∷ 7 ∷ 0 ∷ 255 ∷ 255 ∷ 255 ∷ 255 ∷ (zeros 16886 ++ (3 ∷ 0 ∷ 15 ∷ 2 ∷ 0 ∷ 5 ∷ 1 ∷ 1 ∷ 0 ∷ 2 ∷ 1 ∷ 0 ∷ 1 ∷ 0 ∷ 0 ∷ 0 ∷ 9 ∷ (zeros 239 ++ (7 ∷ 0 ∷ 15 ∷ 5 ∷ 0 ∷ 6 ∷ 1 ∷ 1 ∷ 0 ∷ 0 ∷ 1 ∷ 0 ∷ 1 ∷ 0 ∷ 0 ∷ 0 ∷ 9 ∷ zeros 7916)))))))))
    ∷ []

pub states18 : map is_state buffers18 ≡ (true ∷ false ∷ false ∷ true ∷ false ∷ false ∷ true ∷ false ∷ false ∷ [])
unfolding computes buffers18
states18 = refl

unfoldable pub buffers27 : List (List ℕ)
buffers27 =
    -- an entry past the count
    (84 ∷ 83 ∷ 0 ∷ 0 ∷ 0 ∷ 9 ∷ 0 ∷ 36 ∷ 2 ∷ 0 ∷ 0 ∷ 0 ∷ 4 ∷ 2 ∷ 0 ∷ 1 ∷ 2 ∷ (zeros 53 ++ (2 ∷ 1 ∷ 0 ∷ 5 ∷ 0 ∷ 3 ∷ (zeros 150 ++ (2 ∷ 1 ∷ 0 ∷ 0 ∷ 0 ∷ 7 ∷ 0 ∷ 255 ∷ 255 ∷ 255 ∷ 255 ∷ (zeros 16886 ++ (3 ∷ 0 ∷ 15 ∷ 2 ∷ 0 ∷ 5 ∷ 1 ∷ 1 ∷ 0 ∷ 2 ∷ 1 ∷ 0 ∷ 1 ∷ 0 ∷ 0 ∷ 0 ∷ 9 ∷ (zeros 239 ++ (7 ∷ 0 ∷ 15 ∷ 5 ∷ 0 ∷ 6 ∷ 1 ∷ 1 ∷ 0 ∷ 0 ∷ 1 ∷ 0 ∷ 1 ∷ 0 ∷ 0 ∷ 0 ∷ 9 ∷ zeros 7916)))))))))
    ∷ []

pub states27 : map is_state buffers27 ≡ (false ∷ [])
unfolding computes buffers27
states27 = refl
