-- What the program does with the bytes that it read as one record, as one definition of the buffers. Assumes nothing.
use Rattle.std.specs.Prelude.{◌≡◌, ℕ, ◌+◌, ◌≤◌, Bool, true, false, not, cond, [], length, T, eqb}
use Rattle.basis.specs.Choice.{maybe}
use Rattle.basis.specs.Numbers.{number_at}
use Rattle.basis.specs.Sizes.{length_at, length_width, body_at, reply_size}
use Rattle.layout.specs.States.{decode}
use Rattle.layout.specs.IsState.{is_state}
use Rattle.calls.specs.Calls.{Bytes, Lent, lent, refusal, step_bytes, take_call}
use Rattle.text.specs.Lines.{lines_of, refused_line}

-- the size that the length of a record says, where its bytes stand at the front
abbrev pub size_said : Bytes → ℕ
size_said bytes = body_at + number_at length_at length_width bytes

-- "prints a line per reply"; "Refusals 3 to 5 print `refused n`"
unfoldable pub text_of : Lent → Bytes
text_of l = maybe (refusal l) (lines_of (step_bytes (decode l.state) l.input).replies) refused_line

-- "3, also for a cut last record, ends it"
unfoldable pub goes_on : Lent → Bool
goes_on l = maybe (refusal l) true (λ n. not (eqb n 3))

-- the state buffer at exit, the text, and whether the stream goes on
pub record Printed : Type 0 where
  pub state : Bytes
  pub text : Bytes
  pub more : Bool

abbrev pub printed : (state text : Bytes) → (more : Bool) → Printed
printed state text more = record { state = state; text = text; more = more }

-- the call for the bytes read; where there are none the input has ended, and nothing is printed
unfoldable pub answered : Lent → Printed
answered l = cond (eqb (length l.input) 0) (printed l.state [] false) (printed (take_call l).state (text_of l) (goes_on l))

-- a text that answers the bytes read, where that leaves this state and lets the stream go on or not: on some state before, with room for the replies
pub record Answers (input state text : Bytes) (more : Bool) : Type 0 where
  pub before : Bytes
  pub reply : Bytes
  pub is_state_lem : T (is_state before)
  pub room : reply_size ≤ length reply
  pub is : printed state text more ≡ answered (lent before input reply)

-- the most turns that are counted, the largest `u64`: no run takes as many
abbrev pub most_turns : ℕ
most_turns = 18446744073709551615
