-- What the test of a state asks of the sections. Assumes nothing.
use Rattle.std.specs.Prelude.{ℕ, Bool, ◌&&◌, List, length}
use Rattle.basis.specs.Lists.{all, pairwise, same_bytes}
use Rattle.basis.specs.Sizes.{tuple_size, tuples_size}
use Rattle.model.specs.Matching.{Tuple}
use Rattle.model.specs.Run.{Space, Waiting, is_open}
use Rattle.model.specs.Valid.{legal_tuple}
use Rattle.layout.specs.States.{tuple_bytes, area, tuple_read, decode}
use Rattle.header.specs.Rows.{spaces_lent, tuples_lent, queue_lent}
use Rattle.tuples.specs.Section.{tuples_of}
use Rattle.tuples.specs.Entry.{is_entry}
use Rattle.spaces.specs.Spaces.{spaces_of}
use Rattle.spaces.specs.Legal.{spaces_legal}
use Rattle.queue.specs.Queue.{waiting_of}
use Rattle.queue.specs.Legal.{other_process, queue_legal, in_order}
use Rattle.waiting.specs.Waits.{may_wait, unready}

abbrev pub in_open : List Space → Tuple → Bool
in_open ss t = is_open ss t.space

-- a row of a legal tuple in an open space
unfoldable pub row_open : List Space → List ℕ → Bool
row_open ss r = is_entry r && in_open ss (tuple_read r)

-- the section is that of the tuples that it says, each legal; "tuples lie in open spaces"
unfoldable pub tuples_legal : List Space → List ℕ → ℕ → Bool
tuples_legal ss p m = same_bytes (area tuples_size tuple_size tuple_bytes (tuples_of p m)) p && (all legal_tuple (tuples_of p m) && all (in_open ss) (tuples_of p m))

-- what waits: its order, its processes, each statement, and none is ready
unfoldable pub waits_legal : (last : ℕ) (up : List Bool) → List Space → List Tuple → List Waiting → Bool
waits_legal last up ss ts ws = in_order last ws && (pairwise other_process ws && (all (may_wait up ss) ws && all (unready ts) ws))

-- all sections, by the counts of the header
unfoldable pub contents_legal : List ℕ → Bool
contents_legal b =
    let s = decode b in
    let ss = spaces_of (spaces_lent b) (length s.spaces) in
    spaces_legal (spaces_lent b) (length s.spaces) s.next
    && (tuples_legal ss (tuples_lent b) (length s.tuples)
    && (queue_legal (queue_lent b) (length s.waiting) && waits_legal s.last s.up ss (tuples_of (tuples_lent b) (length s.tuples)) (waiting_of (queue_lent b) (length s.waiting))))
