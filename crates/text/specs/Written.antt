-- Text read off the bytes of replies, and the room that it is given. Assumes nothing.
use Rattle.std.specs.Prelude.{◌≡◌, ℕ, zero, suc, ◌+◌, ◌*◌, ◌≤◌, ◌<◌, cond, length, get_or, take, drop, leb}
use mathlib.Core.List.{List, [], ◌∷◌, ◌++◌, flat_map}
use Rattle.std.proofs.Math.Option.{Option, none}
use Rattle.basis.specs.Choice.{provided}
use Rattle.basis.specs.Numbers.{number_at}
use Rattle.basis.specs.ListLaws.{Each}
use Rattle.basis.specs.Sizes.{position_width, process_width, bits_width, positions, processes, reply_position_at, reply_host_at, reply_process_at, reply_outcome_at, reply_branch_at, reply_count_at, reply_header_size, reply_kind_at, reply_bits_at, reply_value_size}
use Rattle.model.specs.Run.{Reply}
use Rattle.layout.specs.Replies.{replies_bytes}
use Rattle.text.specs.Lines.{space, colon, newline, decimal, hex_byte}

-- ---- the text of the bytes that a list begins with

-- a value's
unfoldable pub value_in : List ℕ → List ℕ
value_in l = space ∷ decimal (get_or l 0 0) ++ (colon ∷ decimal (get_or l reply_kind_at 0) ++ (colon ∷ flat_map hex_byte (take bits_width (drop reply_bits_at l))))

-- that of several, one after the other
unfoldable pub values_in : ℕ → List ℕ → List ℕ
values_in zero l = []
values_in (suc count) l = value_in l ++ values_in count (drop reply_value_size l)

-- a reply's position, host and process
unfoldable pub source_in : List ℕ → List ℕ
source_in l = decimal (number_at reply_position_at position_width l) ++ (space ∷ decimal (get_or l reply_host_at 0) ++ (space ∷ decimal (number_at reply_process_at process_width l)))

-- a reply's, up to its values
unfoldable pub head_in : List ℕ → List ℕ
head_in l = source_in l ++ (space ∷ decimal (get_or l reply_outcome_at 0) ++ (space ∷ decimal (get_or l reply_branch_at 0)))

-- a reply's line
unfoldable pub line_in : List ℕ → List ℕ
line_in l = head_in l ++ (values_in (get_or l reply_count_at 0) (drop reply_header_size l) ++ (newline ∷ []))

-- ---- the size of the reply that stands at an index

-- by its value count
abbrev pub span_at : List ℕ → ℕ → ℕ
span_at l from = reply_header_size + reply_value_size * get_or l (from + reply_count_at) 0

-- none where n bytes have no whole one
unfoldable pub size_at : List ℕ → (from n : ℕ) → Option ℕ
size_at l from n = cond (leb reply_header_size n) (provided (leb (span_at l from) n) (span_at l from)) none

-- ---- room

-- a line is at most three times as long as its reply
abbrev pub growth : ℕ
growth = 3

-- room that the text of a value, and that of a reply up to its values, is given
abbrev pub value_room : ℕ
value_room = growth * reply_value_size

abbrev pub head_room : ℕ
head_room = growth * reply_header_size

-- the greatest number of four bytes has ten digits
abbrev pub most_digits : ℕ
most_digits = 10

-- a mark and the three digits of a byte, or the five of a process
abbrev pub byte_room : ℕ
byte_room = 1 + 3

abbrev pub process_room : ℕ
process_room = 1 + 5

-- position, host and process
abbrev pub source_room : ℕ
source_room = most_digits + byte_room + process_room

-- "`refused n`": where its number stands, and room for the greatest
abbrev pub refused_at : ℕ
refused_at = 8

abbrev pub refused_room : ℕ
refused_room = refused_at + most_digits + 1

-- ---- replies given

-- each part of a reply fits its width
pub record Fits (r : Reply) : Type 0 where
  pub position : r.position < positions
  pub host : r.host < 256
  pub process : r.process < processes

-- the first n bytes are these replies
pub record Given (rs : List Reply) (bytes : List ℕ) (n : ℕ) : Type 0 where
  pub enough : n ≤ length bytes
  pub replies : take n bytes ≡ replies_bytes rs
  pub fits : Each Fits rs
