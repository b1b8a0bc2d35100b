-- A turn with one reply, written. Assumes nothing.
use Rattle.std.specs.Prelude.{◌≡◌, ℕ}
use mathlib.Core.List.{List, [], ◌∷◌, flat_map, append-nil}
use Rattle.model.specs.Run.{Run, Reply}
use Rattle.layout.specs.Replies.{reply_bytes, replies_bytes}
use Rattle.layout.specs.Stored.{Stored, Turned}
use Rattle.replies.specs.Written.{Wrote}

pub one_reply : (r : Reply) → replies_bytes (r ∷ []) ≡ reply_bytes r
unfolding replies_bytes flat_map
one_reply r = append-nil (reply_bytes r)

pub turned_one : (s : Run) (r : Reply) (state buffer out : List ℕ) (n : ℕ) → Stored state s → Wrote r buffer out n → Turned (record { run = s; replies = r ∷ [] }) buffer state out n
turned_one s r state buffer out n h w = record { stored = h; bytes = rw (one_reply r) w.bytes; number = rw (one_reply r) w.number }
