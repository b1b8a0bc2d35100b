-- "The writer is begun on a lent buffer and carries it along from addition to addition": the struct at what each call leaves. Assumes nothing.
use Rattle.std.specs.Prelude.{◌≡◌, List, ℕ, Result, Ok, Err}
use denote.Ref.{MutBor, at_last}
use Rattle.writer.specs.Writer.{Written, Added, written_is}
use Rattle.carried.specs.declared.stopped.Stopped.{Stopped}
use Rattle.carried.specs.declared.Writer.{Writer}

-- the answer so far, 0 where each addition was done, and the count of filled bytes
abbrev pub so_far : Result ℕ Stopped → Added
so_far (Ok n) = record { answer = 0; fill = n }
so_far (Err s) = record { answer = s.answer; fill = s.fill }

-- what a writer shows: its answer, its fill and its buffer's bytes
abbrev pub shown : Writer → Written
shown w = written_is (so_far w.filled) w.buffer.now

-- "the writer comes back": the same lent buffer, at the bytes, the fill and the answer that a call left
pub record Holds (buffer : MutBor (List ℕ)) (o : Written) (w : Writer) : Type 0 where
  pub lent : w.buffer ≡ at_last buffer o.bytes
  pub left : shown w ≡ o
