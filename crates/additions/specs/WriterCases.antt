-- Bodies written addition by addition, as literal bytes, and refusals: one theorem over a table, proved by computing. Assumes nothing.
use Rattle.std.specs.Prelude.{◌≡◌, refl, List, [], ◌∷◌, ◌++◌, map, ℕ, length, drop, replicate}
use Rattle.model.proofs.Computes.{computes}
use Rattle.statements.specs.declared.Field.{Field}
use Rattle.statements.specs.declared.Operation.{Operation}
use Rattle.statements.specs.Flat.{has_form, field_of, field_is, fields_are, operation_of, operation_is}
use Rattle.writer.specs.Writer.{is_handed, handed, begun, in_last, with_operation, with_branch, Written, is_writable, refused_by, filled_with, written, held, begin_on, add_to, add_operation, add_branch}

-- ---- what is handed in

abbrev field_with : (form kind variable bits highest : ℕ) → Field
field_with form k x n m = record { form = form; kind = k; variable = x; bits = n; highest = m }

-- a given value, a variable bound, used, plus a value, any value of a kind, and a variable bound in a range
abbrev given : (kind bits : ℕ) → Field
given k n = field_with 0 k 0 n 0

abbrev into : (kind variable : ℕ) → Field
into k x = field_with 1 k x 0 0

abbrev used_as : (variable : ℕ) → Field
used_as x = field_with 2 0 x 0 0

abbrev plus_of : (variable kind bits : ℕ) → Field
plus_of x k n = field_with 3 k x n 0

abbrev any_of : (kind : ℕ) → Field
any_of k = field_with 5 k 0 0 0

abbrev between : (kind lowest highest variable : ℕ) → Field
between k n m x = field_with 6 k x n m

abbrev operation_with : (code from to : ℕ) → List Field → Operation
operation_with code from to fs = record { code = code; from = from; to = to; count = length fs; fields = fs }

abbrev truth : Operation
truth = operation_with 0 0 0 []

-- an operation or a branch more
pub data Addition : Type 0 where
  operation : Operation → Addition
  branch : Operation → Addition

-- additions one after the other
unfoldable pub writes : Written → List Addition → Written
writes w [] = w
writes w (operation o ∷ as') = writes (add_operation w.bytes w.fill o) as'
writes w (branch g ∷ as') = writes (add_branch w.bytes w.fill g) as'

-- a buffer of `room` bytes, none of them 0 at first
pub record Case : Type 0 where
  pub room : ℕ
  pub host : ℕ
  pub process : ℕ
  pub guard : Operation
  pub additions : List Addition
  pub answer : ℕ
  pub filled : List ℕ

unfoldable pub wrote : Case → Written
wrote c = writes (begin_on (replicate c.room 9) c.host c.process c.guard) c.additions

-- the filled bytes, and the others as they were
unfoldable pub expected : Case → Written
expected c = record { answer = c.answer; fill = length c.filled; bytes = c.filled ++ drop (length c.filled) (replicate c.room 9) }

-- ---- the table

-- "in(0, name 7, whole into 0) then out(0, name 7, variable 0 plus 1)", 35 body bytes
abbrev in_seven : Operation
in_seven = operation_with 1 0 0 (given 1 7 ∷ into 0 0 ∷ [])

abbrev out_seven : Operation
out_seven = operation_with 5 0 0 (given 1 7 ∷ plus_of 0 0 1 ∷ [])

abbrev began_seven : List ℕ
began_seven = 2 ∷ 0 ∷ 5 ∷ 1 ∷ 1 ∷ 0 ∷ 0 ∷ 2 ∷ 0 ∷ 1 ∷ 0 ∷ 0 ∷ 0 ∷ 7 ∷ 1 ∷ 0 ∷ 0 ∷ 0 ∷ []

abbrev row : (room host process : ℕ) → Operation → List Addition → (answer : ℕ) → List ℕ → Case
row room h p g as' n filled = record { room = room; host = h; process = p; guard = g; additions = as'; answer = n; filled = filled }

-- a first guard that is refused, on an empty buffer: 6 comes before 2
abbrev guard_refused : Operation → Case
guard_refused g = row 0 2 5 g [] 6 []

-- an operation that is refused after in(0, name 7, whole into 0)
abbrev operation_refused : Operation → Case
operation_refused o = row 40 2 5 in_seven (operation o ∷ []) 6 began_seven

unfoldable pub written_bodies : List Case
written_bodies =
    row 8 2 6 truth [] 0 (2 ∷ 0 ∷ 6 ∷ 1 ∷ 0 ∷ 0 ∷ [])
    ∷ row 35 2 5 in_seven (operation out_seven ∷ []) 0
    (2 ∷ 0 ∷ 5 ∷ 1 ∷ 1 ∷ 0 ∷ 0 ∷ 2 ∷ 0 ∷ 1 ∷ 0 ∷ 0 ∷ 0 ∷ 7 ∷ 1 ∷ 0 ∷ 0 ∷ 1 ∷ 5 ∷ 0 ∷ 0 ∷ 2 ∷ 0 ∷ 1 ∷ 0 ∷ 0 ∷ 0 ∷ 7 ∷ 3 ∷ 0 ∷ 0 ∷ 0 ∷ 0 ∷ 0 ∷ 1 ∷ [])
    ∷ row 40 2 6 truth (operation (operation_with 5 0 0 (given 1 7 ∷ given 0 41 ∷ [])) ∷ []) 0
    (2 ∷ 0 ∷ 6 ∷ 1 ∷ 0 ∷ 1 ∷ 5 ∷ 0 ∷ 0 ∷ 2 ∷ 0 ∷ 1 ∷ 0 ∷ 0 ∷ 0 ∷ 7 ∷ 0 ∷ 0 ∷ 0 ∷ 0 ∷ 0 ∷ 41 ∷ [])
    ∷ row 40 1 256 (operation_with 4 259 0 (any_of 2 ∷ [])) (branch (operation_with 2 256 0 (any_of 1 ∷ [])) ∷ operation (operation_with 6 65535 512 []) ∷ []) 0
    (1 ∷ 1 ∷ 0 ∷ 2 ∷ 4 ∷ 1 ∷ 3 ∷ 1 ∷ 5 ∷ 2 ∷ 0 ∷ 2 ∷ 1 ∷ 0 ∷ 1 ∷ 5 ∷ 1 ∷ 1 ∷ 6 ∷ 255 ∷ 255 ∷ 2 ∷ 0 ∷ 0 ∷ [])
    ∷ row 40 0 0 (record { code = 0; from = 300; to = 301; count = 9; fields = field_with 7 9 99 5 6 ∷ [] }) (operation (operation_with 3 7 302 (field_with 5 2 99 5 6 ∷ [])) ∷ []) 0
    (0 ∷ 0 ∷ 0 ∷ 1 ∷ 0 ∷ 1 ∷ 3 ∷ 0 ∷ 7 ∷ 1 ∷ 5 ∷ 2 ∷ [])
    ∷ row 31 2 5 (operation_with 1 0 0 (between 0 0xFFFFFFFF 5 0 ∷ [])) (operation (operation_with 5 0 0 (plus_of 0 0 1 ∷ [])) ∷ []) 0
    (2 ∷ 0 ∷ 5 ∷ 1 ∷ 1 ∷ 0 ∷ 0 ∷ 1 ∷ 6 ∷ 0 ∷ 255 ∷ 255 ∷ 255 ∷ 255 ∷ 0 ∷ 0 ∷ 0 ∷ 5 ∷ 0 ∷ 1 ∷ 5 ∷ 0 ∷ 0 ∷ 1 ∷ 3 ∷ 0 ∷ 0 ∷ 0 ∷ 0 ∷ 0 ∷ 1 ∷ [])
    ∷ row 40 2 5 (operation_with 4 0 0 (between 2 0xC0000000 0xBF800000 15 ∷ [])) (operation (operation_with 3 0 0 (between 0 7 7 14 ∷ [])) ∷ []) 0
    (2 ∷ 0 ∷ 5 ∷ 1 ∷ 4 ∷ 0 ∷ 0 ∷ 1 ∷ 6 ∷ 2 ∷ 192 ∷ 0 ∷ 0 ∷ 0 ∷ 191 ∷ 128 ∷ 0 ∷ 0 ∷ 15 ∷ 1 ∷ 3 ∷ 0 ∷ 0 ∷ 1 ∷ 6 ∷ 0 ∷ 0 ∷ 0 ∷ 0 ∷ 7 ∷ 0 ∷ 0 ∷ 0 ∷ 7 ∷ 14 ∷ [])
    ∷ []

unfoldable pub refused_additions : List Case
refused_additions =
    row 5 2 6 truth [] 2 []
    ∷ row 34 2 5 in_seven (operation out_seven ∷ []) 2 began_seven
    ∷ row 5 2 6 truth (operation out_seven ∷ []) 6 []
    ∷ row 0 16 5 truth [] 6 []
    ∷ guard_refused (operation_with 8 0 0 (given 0 1 ∷ []))
    ∷ guard_refused (operation_with 5 0 0 (given 0 1 ∷ []))
    ∷ guard_refused (operation_with 1 0 0 [])
    ∷ guard_refused (operation_with 1 0 0 (given 0 1 ∷ given 0 1 ∷ given 0 1 ∷ given 0 1 ∷ given 0 1 ∷ given 0 1 ∷ given 0 1 ∷ []))
    ∷ guard_refused (operation_with 1 0 0 (field_with 7 0 0 0 0 ∷ []))
    ∷ guard_refused (operation_with 1 0 0 (given 1 65536 ∷ []))
    ∷ guard_refused (operation_with 1 0 0 (into 0 16 ∷ []))
    ∷ guard_refused (operation_with 1 0 0 (used_as 0 ∷ []))
    ∷ row 19 2 5 (operation_with 1 0 0 (between 0 1 2 0 ∷ [])) [] 2 []
    ∷ guard_refused (operation_with 1 0 0 (between 0 6 5 0 ∷ []))
    ∷ guard_refused (operation_with 1 0 0 (between 0 5 0xFFFFFFFF 0 ∷ []))
    ∷ guard_refused (operation_with 1 0 0 (between 2 0xBF800000 0xC0000000 0 ∷ []))
    ∷ guard_refused (operation_with 1 0 0 (between 2 0x80000000 0 0 ∷ []))
    ∷ guard_refused (operation_with 1 0 0 (between 1 5 6 0 ∷ []))
    ∷ guard_refused (operation_with 1 0 0 (between 3 5 6 0 ∷ []))
    ∷ guard_refused (operation_with 1 0 0 (between 0 5 6 16 ∷ []))
    ∷ operation_refused truth
    ∷ operation_refused (operation_with 2 0 0 (given 0 1 ∷ []))
    ∷ operation_refused (operation_with 1 0 0 (into 0 0 ∷ []))
    ∷ operation_refused (operation_with 1 0 0 (between 0 5 6 0 ∷ []))
    ∷ operation_refused (operation_with 5 0 0 (between 0 5 6 1 ∷ []))
    ∷ operation_refused (operation_with 7 0 0 (between 0 5 6 1 ∷ []))
    ∷ operation_refused (operation_with 5 0 0 (used_as 1 ∷ []))
    ∷ operation_refused (operation_with 5 0 0 (plus_of 0 1 1 ∷ []))
    ∷ row 40 2 5 in_seven (branch (operation_with 5 0 0 (given 0 1 ∷ [])) ∷ []) 6 began_seven
    ∷ []

-- ---- the limits: answer and count of filled bytes

abbrev copy_all : Addition
copy_all = operation (operation_with 7 0 0 [])

abbrev wholes : (code : ℕ) → Operation
wholes code = operation_with code 0 0 (given 0 1 ∷ given 0 1 ∷ given 0 1 ∷ given 0 1 ∷ given 0 1 ∷ given 0 1 ∷ [])

abbrev told : Written → ℕ × ℕ
told w = (w.answer, w.fill)

abbrev on300 : Operation → List Addition → Written
on300 g as' = writes (begin_on (replicate 300 9) 15 65535 g) as'

abbrev eight_copies : List Addition
eight_copies = copy_all ∷ copy_all ∷ copy_all ∷ copy_all ∷ copy_all ∷ copy_all ∷ copy_all ∷ copy_all ∷ []

abbrev three_branches : List Addition
three_branches = branch (wholes 2) ∷ branch (wholes 3) ∷ branch (wholes 4) ∷ []

-- 4 + 4 * 41 + 40 + 42: 250 bytes
abbrev full_body : List Addition
full_body = three_branches ++ (operation (wholes 5) ∷ operation (wholes 6) ∷ [])

-- the longest operation, 70 bytes: 4 + 3 * 71 are 217, and a fourth such branch would make 288
abbrev ranges : (code : ℕ) → Operation
ranges code = operation_with code 0 0 (between 0 1 2 0 ∷ between 0 1 2 1 ∷ between 0 1 2 2 ∷ between 0 1 2 3 ∷ between 0 1 2 4 ∷ between 0 1 2 5 ∷ [])

abbrev two_ranged : List Addition
two_ranged = branch (ranges 2) ∷ branch (ranges 3) ∷ []

unfoldable pub limits : List (ℕ × ℕ)
limits =
    told (on300 truth eight_copies)
    ∷ told (on300 truth (eight_copies ++ (copy_all ∷ [])))
    ∷ told (on300 (wholes 1) three_branches)
    ∷ told (on300 (wholes 1) (three_branches ++ (branch truth ∷ [])))
    ∷ told (on300 (wholes 1) full_body)
    ∷ told (on300 (wholes 1) (full_body ++ (copy_all ∷ [])))
    ∷ told (on300 (ranges 1) two_ranged)
    ∷ told (on300 (ranges 1) (two_ranged ++ (branch (ranges 4) ∷ [])))
    ∷ []

-- ---- the theorem

pub record Cases : Type 0 where
  pub bodies : map wrote written_bodies ≡ map expected written_bodies
  pub refusals : map wrote refused_additions ≡ map expected refused_additions
  pub ends : limits ≡ (0, 54) ∷ (6, 54) ∷ (0, 168) ∷ (6, 168) ∷ (0, 250) ∷ (6, 250) ∷ (0, 217) ∷ (6, 217) ∷ []

pub cases : Cases
unfolding computes field_of field_is fields_are operation_of operation_is has_form is_handed handed begun in_last with_operation with_branch is_writable refused_by filled_with written held begin_on add_to add_operation add_branch writes wrote expected written_bodies refused_additions limits
cases = record { bodies = refl; refusals = refl; ends = refl }
