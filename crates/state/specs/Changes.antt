-- A section of a stored run that was lent to its home and comes back as x, and its count written: the bytes of the run with that list. Assumes nothing.
use Rattle.std.specs.Prelude.{◌≡◌, ℕ, List, length, set}
use Rattle.std.proofs.Math.Path.{refl}
use Rattle.std.proofs.Common.{arith}
use Rattle.basis.specs.Numbers.{big_endian}
use Rattle.basis.specs.NumberLaws.{one_byte}
use Rattle.basis.specs.Sizes.{count_width, space_size, waiting_size, spaces_size, waiting_all_size}
use Rattle.model.specs.Matching.{Tuple}
use Rattle.model.specs.Run.{Space, Waiting, Run, with_spaces, with_tuples, with_waiting}
use Rattle.model.proofs.Fit.{Fit}
use Rattle.layout.specs.States.{space_bytes, waiting_bytes, area}
use Rattle.layout.specs.Stored.{Stored}
use Rattle.header.specs.Rows.{parts_of, space_count_part, tuple_count_part, waiting_count_part, spaces_part, tuples_part, waiting_part, Cut, with_row, with_part}
use Rattle.header.specs.RowLaws.{stored_parts, parts_stored, section_written}
use Rattle.spaces.specs.Spaces.{space_shape, Listed}
use Rattle.queue.specs.Queue.{waiting_shape, Queued}
use Rattle.tuples.specs.Section.{tuple_shape, Holds}

module _ {b x b' : List ℕ} {s : Run} {n : ℕ} (h : Stored b s) where
  pub spaces_changed : {ss : List Space} → Listed x n ss → Fit (with_spaces s s.next ss) → b' ≡ with_row space_count_part n (with_part spaces_part b x) → Stored b' (with_spaces s s.next ss)
  unfolding parts_of
  spaces_changed {ss} q f e =
      let all : Cut b' (set (set (parts_of s) spaces_part (area spaces_size space_size space_bytes ss)) space_count_part (big_endian count_width (length ss))) =
      rw e (section_written space_shape b x (parts_of s) (stored_parts b s h) spaces_part space_count_part (omega arith) (omega arith) refl n ss q) in
      parts_stored b' (with_spaces s s.next ss) (rw (one_byte (length ss) (omega (arith, f.spaces.few))) at all) f

  pub tuples_changed : {ts : List Tuple} → Holds x n ts → Fit (with_tuples s ts) → b' ≡ with_row tuple_count_part n (with_part tuples_part b x) → Stored b' (with_tuples s ts)
  unfolding parts_of
  tuples_changed {ts} q f e = parts_stored b' (with_tuples s ts) (rw e (section_written tuple_shape b x (parts_of s) (stored_parts b s h) tuples_part tuple_count_part (omega arith) (omega arith) refl n ts q)) f

  pub waiting_changed : {ws : List Waiting} → Queued x n ws → Fit (with_waiting s ws) → b' ≡ with_row waiting_count_part n (with_part waiting_part b x) → Stored b' (with_waiting s ws)
  unfolding parts_of
  waiting_changed {ws} q f e =
      let all : Cut b' (set (set (parts_of s) waiting_part (area waiting_all_size waiting_size waiting_bytes ws)) waiting_count_part (big_endian count_width (length ws))) =
      rw e (section_written waiting_shape b x (parts_of s) (stored_parts b s h) waiting_part waiting_count_part (omega arith) (omega arith) refl n ws q) in
      parts_stored b' (with_waiting s ws) (rw (one_byte (length ws) (omega (arith, f.waiting.few))) at all) f
