-- The laws of what the writers of lines leave, read at an index of the replies, and the size of a reply. Assumes nothing.
use Rattle.std.specs.Prelude.{◌≡◌, refl, ℕ, ◌+◌, ◌*◌, ◌≤◌, ◌<◌, Bool, true, false, leb, List, [], ◌∷◌, ◌++◌, length, get_or, take, drop, set}
use Rattle.std.proofs.Common.{sym, ap, ◌∙◌, length-drop, get_or-drop, drop-drop}
use native.Mathlib.Omega.{arith}
use borrow.Author.Tests.{le-leb, lt-leb}
use Rattle.std.proofs.Math.Option.{none}
use Rattle.std.specs.Prelude as code
use Rattle.std.specs.Bool.{then_some}
use Rattle.basis.specs.Choice.{provided, given}
use Rattle.basis.specs.Numbers.{number, number_at}
use Rattle.basis.specs.Sizes.{position_width, process_width, bits_width, positions, reply_position_at, reply_host_at, reply_process_at, reply_outcome_at, reply_branch_at, reply_count_at, reply_header_size, reply_kind_at, reply_bits_at, reply_value_size}
use Rattle.words.specs.Over.{over}
use Rattle.words.specs.OverLaws.{over_none, over_length}
use Rattle.text.specs.Lines.{codes, space, colon, newline, decimal, refused_line}
use Rattle.text.specs.Written.{value_in, values_in, source_in, head_in, line_in, size_at, value_room, byte_room, most_digits, refused_at, refused_room}
use Rattle.text.specs.ReadLaws.{values_more}
use Rattle.digits.specs.Put.{Put}
use Rattle.digits.specs.PutLaws.{put_one, put_then, hex_bytes, hex_length, number_few}

-- ---- the parts of a line, read at an index of the replies

-- what stands at index from of l, and so on, stands at the front of what l has from there on
at_front : (l : List ℕ) (from : ℕ) → get_or (drop from l) 0 0 ≡ get_or l from 0
at_front l from = let e : from + 0 ≡ from = omega arith in get_or-drop from l 0 0 ∙ rw e

number_front : (l : List ℕ) (from k w : ℕ) → number_at k w (drop from l) ≡ number_at (from + k) w l
unfolding number_at
number_front l from k w = ap (λ (r : List ℕ). number (take w r)) (drop-drop k from l)

-- "variable:kind:eight capital hexadecimal digits"
pub value_put : (l d e f g : List ℕ) (from at a b : ℕ) → from + reply_value_size ≤ length l → at + value_room ≤ length d → length e ≡ length d → length f ≡ length d → a ≤ at + byte_room → b ≤ a + byte_room
    → Put (space ∷ decimal (get_or l from 0)) d e at a → Put (colon ∷ decimal (get_or l (from + reply_kind_at) 0)) e f a b
    → g ≡ over (set f b colon) (b + 1) (hex_bytes bits_width (drop (from + reply_bits_at) l)) (2 * bits_width) → Put (value_in (drop from l)) d g at (b + 1 + 2 * bits_width)
unfolding value_in
value_put l d e f g from at a b within room le lf ha hb p q r =
    let hex : List ℕ = hex_bytes bits_width (drop (from + reply_bits_at) l) in
    let w : length hex ≡ 2 * bits_width = hex_length bits_width (drop (from + reply_bits_at) l) (simp length-drop (omega arith)) in
    let digits : Put hex (set f b colon) g (b + 1) (b + 1 + 2 * bits_width) = record { index = ap (λ (n : ℕ). b + 1 + n) (sym w); bytes = rw w r } in
    let bits : Put (colon ∷ hex) f g b (b + 1 + 2 * bits_width) = put_then (colon ∷ []) hex f (set f b colon) g b (b + 1) (b + 1 + 2 * bits_width) (omega arith) (put_one f b colon (omega arith)) digits in
    let kind = put_then (colon ∷ decimal (get_or l (from + reply_kind_at) 0)) (colon ∷ hex) e f g a b (b + 1 + 2 * bits_width) (omega arith) q bits in
    rw (at_front l from, get_or-drop from l reply_kind_at 0, drop-drop reply_bits_at from l)
    (put_then (space ∷ decimal (get_or l from 0)) (colon ∷ decimal (get_or l (from + reply_kind_at) 0) ++ (colon ∷ hex)) d e g at a (b + 1 + 2 * bits_width) (omega arith) p kind)

-- the loop over the values
pub values_none : (l d : List ℕ) (from at : ℕ) → Put (values_in 0 (drop from l)) d d at at
unfolding values_in
values_none l d from at = record { index = omega arith; bytes = over_none d at [] }

pub values_next : (l d e f : List ℕ) (from i at a b : ℕ) → a ≤ length d → Put (values_in i (drop from l)) d e at a → Put (value_in (drop (from + reply_value_size * i) l)) e f a b
    → Put (values_in (i + 1) (drop from l)) d f at b
values_next l d e f from i at a b room p q =
    rw (values_more i (drop from l), drop-drop (reply_value_size * i) from l) (put_then (values_in i (drop from l)) (value_in (drop (from + reply_value_size * i) l)) d e f at a b room p q)

pub values_all : (l d e : List ℕ) (from i count at a : ℕ) → i ≡ count → a ≤ at + value_room * i → Put (values_in i (drop from l)) d e at a → Put (values_in count (drop from l)) d e at a × (a ≤ at + value_room * count)
values_all l d e from i count at a q h p = (rw q at p, rw q at h)

-- "position, host, process"
pub source_put : (l d e f g : List ℕ) (from position process at a b r : ℕ) → a ≤ length d → b ≤ length e
    → position ≡ number_at (from + reply_position_at) position_width l → process ≡ number_at (from + reply_process_at) process_width l
    → Put (decimal position) d e at a → Put (space ∷ decimal (get_or l (from + reply_host_at) 0)) e f a b → Put (space ∷ decimal process) f g b r → Put (source_in (drop from l)) d g at r
unfolding source_in
source_put l d e f g from position process at a b r ha hb ep ec p q s =
    let host : List ℕ = space ∷ decimal (get_or l (from + reply_host_at) 0) in
    rw (number_front l from reply_position_at position_width, ← ep, get_or-drop from l reply_host_at 0, number_front l from reply_process_at process_width, ← ec)
    (put_then (decimal position) (host ++ (space ∷ decimal process)) d e g at a r ha p (put_then host (space ∷ decimal process) e f g a b r hb q s))

-- "outcome, branch"
pub head_put : (l d e f g : List ℕ) (from at a b r : ℕ) → a ≤ length d → b ≤ length e
    → Put (source_in (drop from l)) d e at a → Put (space ∷ decimal (get_or l (from + reply_outcome_at) 0)) e f a b
    → Put (space ∷ decimal (get_or l (from + reply_branch_at) 0)) f g b r → Put (head_in (drop from l)) d g at r
unfolding head_in
head_put l d e f g from at a b r ha hb p q s =
    let outcome : List ℕ = space ∷ decimal (get_or l (from + reply_outcome_at) 0) in
    let branch : List ℕ = space ∷ decimal (get_or l (from + reply_branch_at) 0) in
    rw (get_or-drop from l reply_outcome_at 0, get_or-drop from l reply_branch_at 0)
    (put_then (source_in (drop from l)) (outcome ++ branch) d e g at a r ha p (put_then outcome branch e f g a b r hb q s))

-- "a line per reply"
pub line_put : (l d e f : List ℕ) (from count at a b : ℕ) → a ≤ length d → b < length f → b ≤ length e → count ≡ get_or l (from + reply_count_at) 0
    → Put (head_in (drop from l)) d e at a → Put (values_in count (drop (from + reply_header_size) l)) e f a b → Put (line_in (drop from l)) d (set f b newline) at (b + 1)
unfolding line_in
line_put l d e f from count at a b ha hb hc n p q =
    let values : List ℕ = values_in count (drop (from + reply_header_size) l) in
    rw (get_or-drop from l reply_count_at 0, drop-drop reply_header_size from l, ← n)
    (put_then (head_in (drop from l)) (values ++ (newline ∷ [])) d e (set f b newline) at a (b + 1) ha p (put_then values (newline ∷ []) e f (set f b newline) a b (b + 1) hc q (put_one f b newline hb)))

-- "`refused n`"
pub refused_put : (d e f : List ℕ) (n r : ℕ) → refused_room ≤ length d → length f ≡ length d → n < positions
    → e ≡ over d 0 (codes "refused ") refused_at → Put (decimal n) e f refused_at r → Put (refused_line n) d (set f r newline) 0 (r + 1)
unfolding refused_line codes
refused_put d e f n r room l small p q =
    let mark : Put (codes "refused ") d e 0 refused_at = record { index = refl; bytes = p } in
    let most : r ≤ refused_at + most_digits = number_few n e f refused_at r small q in
    let le : length e ≡ length d = ap length p ∙ over_length d 0 (codes "refused ") refused_at (omega arith) (omega arith) in
    put_then (codes "refused ") (decimal n ++ (newline ∷ [])) d e (set f r newline) 0 refused_at (r + 1) (omega arith) mark
    (put_then (decimal n) (newline ∷ []) e f (set f r newline) refused_at r (r + 1) (omega arith) q (put_one f r newline (omega arith)))

-- ---- the size of a reply

module _ (l : List ℕ) (from n : ℕ) where
  pub size_none : n < reply_header_size → none ≡ size_at l from n
  unfolding size_at
  size_none h = rw (lt-leb reply_header_size n h)

  pub size_whole : (k : ℕ) (o : code.Option ℕ) → k ≡ get_or l (from + reply_count_at) 0 → reply_header_size ≤ n
      → o ≡ then_some (leb (reply_header_size + reply_value_size * k) n) (reply_header_size + reply_value_size * k) → given o ≡ size_at l from n
  unfolding size_at provided
  size_whole k o e h f = ap given f ∙ rw (← e, le-leb reply_header_size n h) (go (leb (reply_header_size + reply_value_size * k) n))
    where
      go : (t : Bool) → given (then_some t (reply_header_size + reply_value_size * k)) ≡ provided t (reply_header_size + reply_value_size * k)
      go true = refl
      go false = refl
