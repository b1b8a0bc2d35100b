-- The state buffer as a list of parts: the rows of the header, its unused bytes, and the sections; a row or the mark written, a section lent. Assumes nothing.
use Rattle.std.specs.Prelude.{ℕ, ◌-◌, List, [], ◌∷◌, length, take, drop, get_or}
use borrow.Rule.Slice.PartMut.{put_mid}
use Rattle.basis.specs.Lists.{zeros}
use Rattle.basis.specs.Numbers.{big_endian, mask}
use Rattle.basis.specs.Sizes.{mark_width, position_width, mask_width, count_width, next_width, tuple_count_width, header_used, header_size, space_size, tuple_size, waiting_size, spaces_size, tuples_size, waiting_all_size}
use Rattle.model.specs.Run.{Run}
use Rattle.layout.specs.States.{state_mark, hosts_bytes, space_bytes, tuple_bytes, waiting_bytes, area}
use Rattle.words.specs.Over.{over}
use Rattle.sections.specs.Parts.{place_in, Parts}

-- mark, last position, mask, monitors, next space number, counts of spaces, tuples and waiting, eight owed masks, unused; spaces, tuples, waiting
abbrev pub widths : List ℕ
widths =
    mark_width ∷ position_width ∷ mask_width ∷ count_width ∷ next_width ∷ count_width ∷ tuple_count_width ∷ count_width
    ∷ mask_width ∷ mask_width ∷ mask_width ∷ mask_width ∷ mask_width ∷ mask_width ∷ mask_width ∷ mask_width
    ∷ (header_size - header_used) ∷ spaces_size ∷ tuples_size ∷ waiting_all_size ∷ []

-- the mask at a place
abbrev pub owed_row : Run → ℕ → List ℕ
owed_row s i = hosts_bytes (get_or s.owed i [])

unfoldable pub parts_of : Run → List (List ℕ)
parts_of s =
    state_mark ∷ big_endian position_width s.last ∷ big_endian mask_width (mask s.up) ∷ (s.monitors ∷ []) ∷ big_endian next_width s.next
    ∷ (length s.spaces ∷ []) ∷ big_endian tuple_count_width (length s.tuples) ∷ (length s.waiting ∷ [])
    ∷ owed_row s 0 ∷ owed_row s 1 ∷ owed_row s 2 ∷ owed_row s 3 ∷ owed_row s 4 ∷ owed_row s 5 ∷ owed_row s 6 ∷ owed_row s 7
    ∷ zeros (header_size - header_used) ∷ area spaces_size space_size space_bytes s.spaces ∷ area tuples_size tuple_size tuple_bytes s.tuples ∷ area waiting_all_size waiting_size waiting_bytes s.waiting ∷ []

-- which part is which
abbrev pub mark_part : ℕ
mark_part = 0

abbrev pub last_part : ℕ
last_part = 1

abbrev pub mask_part : ℕ
mask_part = 2

abbrev pub monitors_part : ℕ
monitors_part = 3

abbrev pub next_part : ℕ
next_part = 4

abbrev pub space_count_part : ℕ
space_count_part = 5

abbrev pub tuple_count_part : ℕ
tuple_count_part = 6

abbrev pub waiting_count_part : ℕ
waiting_count_part = 7

-- the first of the owed masks
abbrev pub owed_part : ℕ
owed_part = 8

abbrev pub unused_part : ℕ
unused_part = 16

abbrev pub spaces_part : ℕ
spaces_part = 17

abbrev pub tuples_part : ℕ
tuples_part = 18

abbrev pub waiting_part : ℕ
waiting_part = 19

-- b is these parts
abbrev pub Cut : List ℕ → List (List ℕ) → Type 0
Cut b ps = Parts widths b ps

-- the bytes with n in row r
abbrev pub with_row : (r n : ℕ) → List ℕ → List ℕ
with_row r n b = over b (place_in widths r) (big_endian (get_or widths r 0) n) (get_or widths r 0)

-- the bytes with the mark of a state
abbrev pub with_mark : List ℕ → List ℕ
with_mark b = over b (place_in widths mark_part) state_mark (get_or widths mark_part 0)

-- section r as it is lent
abbrev pub part_at : (r : ℕ) → List ℕ → List ℕ
part_at r b = take (get_or widths r 0) (drop (place_in widths r) b)

-- the spaces, the tuples, the waiting statements
abbrev pub spaces_lent : List ℕ → List ℕ
spaces_lent b = part_at spaces_part b

abbrev pub tuples_lent : List ℕ → List ℕ
tuples_lent b = part_at tuples_part b

abbrev pub queue_lent : List ℕ → List ℕ
queue_lent b = part_at waiting_part b

-- the bytes once section r comes back as x
abbrev pub with_part : (r : ℕ) → (b x : List ℕ) → List ℕ
with_part r b x = put_mid (place_in widths r) (get_or widths r 0) b x
