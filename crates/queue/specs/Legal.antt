-- What "The state buffer" asks of the waiting statements that their section and count say. Assumes nothing.
use Rattle.std.specs.Prelude.{ℕ, ◌+◌, ◌-◌, Bool, not, ◌&&◌, List, take, drop, leb, ltb, eqb}
use Rattle.basis.specs.Lists.{all, pairwise, same_bytes}
use Rattle.basis.specs.Numbers.{number_at}
use Rattle.basis.specs.Sizes.{length_width, most_body, waiting_length_at, waiting_body_at, waiting_size, waiting_all_size}
use Rattle.model.specs.Legal.{legal_body}
use Rattle.model.specs.Writing.{statement_bytes}
use Rattle.model.specs.Run.{Waiting}
use Rattle.layout.specs.States.{waiting_bytes, area}
use Rattle.words.specs.Over.{zeros_at}
use Rattle.queue.specs.Queue.{waiting_of}

-- ---- a row

-- the length of its body, and the body
abbrev pub size_in : List ℕ → ℕ
size_in r = number_at waiting_length_at length_width r

abbrev pub body_in : List ℕ → List ℕ
body_in r = take (size_in r) (drop waiting_body_at r)

-- the body fits, and "All unused bytes are zero"
unfoldable pub body_fits : List ℕ → Bool
body_fits r = leb (size_in r) most_body && zeros_at r (waiting_body_at + size_in r) (most_body - size_in r)

-- and it is legal
unfoldable pub row_legal : List ℕ → Bool
row_legal r = body_fits r && legal_body (body_in r)

-- ---- the section

abbrev pub earlier : Waiting → Waiting → Bool
earlier v w = ltb v.position w.position

abbrev pub in_time : (last : ℕ) → Waiting → Bool
in_time last w = leb 1 w.position && leb w.position last

abbrev pub other_process : Waiting → Waiting → Bool
other_process v w = not (eqb v.statement.process w.statement.process)

-- it is that of the statements that it says; "each waiting body is legal"
unfoldable pub queue_legal : List ℕ → ℕ → Bool
queue_legal p n = same_bytes (area waiting_all_size waiting_size waiting_bytes (waiting_of p n)) p && all (λ w. legal_body (statement_bytes w.statement)) (waiting_of p n)

-- "waiting by position", "waiting positions are 1 to the last"
unfoldable pub in_order : (last : ℕ) → List Waiting → Bool
in_order last ws = pairwise earlier ws && all (in_time last) ws
