-- The fresh-state call and the call for a record: what each returns and leaves in every buffer, as one definition of the bytes lent. Assumes nothing.
use Rattle.std.specs.Prelude.{ℕ, suc, Bool, not, cond, List, [], ◌∷◌, ◌++◌, length, drop, leb, ltb, eqb}
use Rattle.std.proofs.Math.Option.{Option, none, some}
use Rattle.basis.specs.Choice.{maybe, is_some, first_number}
use Rattle.basis.specs.Sizes.{reply_size, state_size}
use Rattle.model.specs.Run.{Run, fresh, Turn}
use Rattle.model.specs.Step.{Record, record_of, step}
use Rattle.layout.specs.Replies.{replies_bytes}
use Rattle.layout.specs.States.{encode, decode}
use Rattle.layout.specs.IsState.{is_state}

abbrev pub Bytes : Type 0
Bytes = List ℕ

-- ---- the fresh-state call

-- the number returned and the state buffer at exit
pub record FreshAnswer : Type 0 where
  pub returned : ℕ
  pub state : Bytes

abbrev pub fresh_answer : (returned : ℕ) → (state : Bytes) → FreshAnswer
fresh_answer n state = record { returned = n; state = state }

-- "The fresh-state call gives 1 for length, else 0"
unfoldable pub fresh_call : (state : Bytes) → FreshAnswer
fresh_call state = cond (eqb (length state) state_size) (fresh_answer 0 (encode fresh)) (fresh_answer 1 state)

-- ---- the call for a record

-- the buffers lent: the state, the record's bytes, the reply buffer
pub record Lent : Type 0 where
  pub state : Bytes
  pub input : Bytes
  pub reply : Bytes

abbrev pub lent : (state input reply : Bytes) → Lent
lent state input reply = record { state = state; input = input; reply = reply }

-- the number returned and the two written buffers at exit
pub record Answer : Type 0 where
  pub returned : ℕ
  pub state : Bytes
  pub reply : Bytes

abbrev pub answer : (returned : ℕ) → (state reply : Bytes) → Answer
answer n state reply = record { returned = n; state = state; reply = reply }

-- a record's number is its position; bytes that fail check 3 have none
unfoldable pub number_of : Bytes → Option ℕ
number_of input = maybe (record_of input) none (λ r. some r.position)

-- checks 3 to 5, against the last position taken
unfoldable pub in_turn : (last : ℕ) → Option ℕ → Option ℕ
in_turn last none = some 3
in_turn last (some n) = first_number ((leb n last, 4) ∷ (ltb (suc last) n, 5) ∷ [])

-- checks 2 to 5: the number of the first that fails
unfoldable pub refusal_at : (last : ℕ) → (input reply : Bytes) → Option ℕ
refusal_at last input reply = cond (ltb (length reply) reply_size) (some 2) (in_turn last (number_of input))

-- checks 1 to 5
unfoldable pub refusal : Lent → Option ℕ
refusal l = cond (is_state l.state) (refusal_at (decode l.state).last l.input l.reply) (some 1)

-- the run fed one record's bytes; bytes that fail check 3 change nothing
unfoldable pub step_bytes : Run → Bytes → Turn
step_bytes s input = maybe (record_of input) (record { run = s; replies = [] }) (step s)

-- bytes laid over the front of a buffer: "leaves the reply buffer past that count unchanged"
unfoldable pub laid_over : Bytes → Bytes → Bytes
laid_over new buffer = new ++ drop (length new) buffer

-- "1 to 5: the call changes no byte"
unfoldable pub turned_back : Lent → ℕ → Answer
turned_back l n = answer n l.state l.reply

-- "A taken call returns its reply byte count"
unfoldable pub taken : Lent → Answer
taken l =
    let t = step_bytes (decode l.state) l.input in
    let bytes = replies_bytes t.replies in
    answer (length bytes) (encode t.run) (laid_over bytes l.reply)

unfoldable pub take_call : Lent → Answer
take_call l = maybe (refusal l) (taken l) (turned_back l)
