-- "Two cabinets" (a cabinet is a replica here): what may befall two replicas, and the claim over every list of it, for any two calls; demand 3 is the claim at `fresh_call` and `take_call`. No proof stands here. Assumes nothing.
use Rattle.std.specs.Prelude.{◌≡◌, ℕ, zero, suc, Bool, true, false, cond, ◌||◌, length, take, T, ltb, eqb}
use Rattle.std.proofs.Math.Option.{Option, none, some}
use mathlib.Core.List.{List, [], ◌∷◌, ◌++◌, Memᴰ}
use Rattle.std.proofs.Math.Pow.{are_bytes}
use Rattle.basis.specs.Sizes.{state_size}
use Rattle.basis.specs.Choice.{maybe}
use Rattle.model.specs.Statement.{Operation, always, lookup, deposit, transfer, Branch}
use Rattle.model.specs.Matching.{Tuple, unbound, matches}
use Rattle.model.specs.Run.{Waiting, Run, fresh}
use Rattle.layout.specs.Replies.{replies_bytes}
use Rattle.layout.specs.States.{encode}
use Rattle.calls.specs.Calls.{Bytes, FreshAnswer, Lent, Answer, number_of, refusal_at, step_bytes, fresh_call, take_call}

-- ---- what may befall

pub data Side : Type 0 where
  one two : Side

abbrev pub other : Side → Side
other one = two
other two = one

-- a state that a replica held between calls, and the replica's position then
pub record Held : Type 0 where
  pub position : ℕ
  pub bytes : Bytes

-- "A cut falls between calls or at any point of a call or restart". Where it falls makes no difference: it leaves any bytes, and what was in flight does not count
pub data Moment : Type 0 where
  between : Moment
  in_call : Lent → Moment
  in_restart : Moment

pub data Event : Type 0 where
  -- an uncut call, with the buffers lent
  call : Side → Lent → Event
  -- a cut: "It leaves any bytes in that cabinet's buffers"
  cut : Side → Moment → (left : Bytes) → Event
  -- a completed restart by the fresh-state call, on a buffer with any bytes
  restart_fresh : Side → (buffer : Bytes) → Event
  -- a completed restart by a whole copy
  restart_copy : Side → Held → Event

-- a replica runs and holds a state, or is cut and its buffer has any bytes
pub data Condition : Type 0 where
  running : Held → Condition
  stopped : Bytes → Condition

-- `history`: every state that it held between calls, the latest first
pub record Replica : Type 0 where
  pub condition : Condition
  pub history : List Held

abbrev pub World : Type 0
World = Side → Replica

-- ---- what an event does

unfoldable pub replace : World → Side → Replica → World
replace w one k one = k
replace w one k two = w two
replace w two k one = w one
replace w two k two = k

unfoldable pub holding : Held → Replica → Replica
holding h k = record { condition = running h; history = h ∷ k.history }

unfoldable pub stop : Bytes → Replica → Replica
stop left k = record { condition = stopped left; history = k.history }

-- a call took its record: it returned none of 1 to 5
unfoldable pub took : Answer → Bool
took a = eqb a.returned 0 || ltb 5 a.returned

-- ---- which events can befall

-- "Each call gets the state that its cabinet's last call or restart left"; the record is bytes
abbrev pub CanCall : Condition → Lent → Type 0
CanCall (running h) l = (l.state ≡ h.bytes) × T (are_bytes l.input)
CanCall (stopped b) l = ⊥

abbrev pub IsStopped : Condition → Type 0
IsStopped (running h) = ⊥
IsStopped (stopped b) = Unit {0}

-- the fresh-state call works on any bytes of the right length; "A whole copy is of a state that the other held between calls, its latest or an earlier one, never of one in flight or cut"
abbrev pub Can : World → Event → Type 0
Can w (call c l) = CanCall (w c).condition l
Can w (cut c m left) = Unit {0}
Can w (restart_fresh c buffer) = IsStopped (w c).condition × (length buffer ≡ state_size)
Can w (restart_copy c h) = IsStopped (w c).condition × Memᴰ h (w (other c)).history

-- ---- the calls of a list

-- `position`: the replica's when the call came
pub record Called : Type 0 where
  pub side : Side
  pub position : ℕ
  pub lent : Lent

unfoldable pub position_of : Condition → ℕ
position_of (running h) = h.position
position_of (stopped b) = 0

unfoldable pub call_of : World → Event → List Called
call_of w (call c l) = record { side = c; position = position_of (w c).condition; lent = l } ∷ []
call_of w (cut c m left) = []
call_of w (restart_fresh c buffer) = []
call_of w (restart_copy c h) = []

-- ---- the one-by-one run, "fed the records 1, 2, .. alone, each once and in order"

-- the records that the uncut calls were given
unfoldable pub input_of : Event → List Bytes
input_of (call c l) = l.input ∷ []
input_of (cut c m left) = []
input_of (restart_fresh c buffer) = []
input_of (restart_copy c h) = []

unfoldable pub inputs : List Event → List Bytes
inputs [] = []
inputs (e ∷ es) = input_of e ++ inputs es

unfoldable pub is_numbered : ℕ → Bytes → Bool
is_numbered n x = maybe (number_of x) false (λ m. eqb m n)

unfoldable pub record_numbered : ℕ → List Bytes → Option Bytes
record_numbered n [] = none
record_numbered n (x ∷ xs) = cond (is_numbered n x) (some x) (record_numbered n xs)

-- the run of the records 1 to p of xs; none where xs lacks one of them
unfoldable pub run_at : List Bytes → ℕ → Option Run
run_at xs zero = some fresh
run_at xs (suc p) = maybe (run_at xs p) none (λ s. maybe (record_numbered (suc p) xs) none (λ x. some (step_bytes s x).run))

-- the one hypothesis: no number stands on two different records; bytes that fail check 3 have none
abbrev pub NoClash : List Bytes → Type 0
NoClash xs = (n : ℕ) (x y : Bytes) → Memᴰ x xs → Memᴰ y xs → number_of x ≡ some n → number_of y ≡ some n → x ≡ y

-- ---- a state of the run

-- "a tuple meets a guard when it matches"
abbrev pub Meets : Tuple → Operation → Type 0
Meets t always = ⊥
Meets t (lookup withdraws blocks s fs) = T (matches unbound s fs t)
Meets t (deposit s fs) = ⊥
Meets t (transfer withdraws from to fs) = ⊥

-- no waiting statement has a guard that is true or that a present tuple meets
pub record Quiet (s : Run) : Type 0 where
  pub not_true : (w : Waiting) → Memᴰ w s.waiting → (b : Branch) → Memᴰ b w.statement.branches → b.guard ≡ always → ⊥
  pub not_met : (w : Waiting) → Memᴰ w s.waiting → (b : Branch) → Memᴰ b w.statement.branches → (t : Tuple) → Memᴰ t s.tuples → Meets t b.guard → ⊥

-- a state held is the run's at the position
pub record OfRun (xs : List Bytes) (h : Held) : Type 0 where
  pub run : Run
  pub reached : run_at xs h.position ≡ some run
  pub bytes : h.bytes ≡ encode run
  pub quiet : Quiet run

-- ---- for any two calls: the fresh-state call and the call for a record

module _ (freshState : Bytes → FreshAnswer) (takeRecord : Lent → Answer) where
  -- ---- what an event does, with these calls

  -- "then the number of each record it takes"
  unfoldable pub position_after : ℕ → Lent → ℕ
  position_after p l = cond (took (takeRecord l)) (maybe (number_of l.input) p (λ n. n)) p

  unfoldable pub called : Condition → Lent → Replica → Replica
  called (running h) l k = holding (record { position = position_after h.position l; bytes = (takeRecord l).state }) k
  called (stopped b) l k = k

  unfoldable pub after : World → Event → World
  after w (call c l) = replace w c (called (w c).condition l (w c))
  after w (cut c m left) = replace w c (stop left (w c))
  after w (restart_fresh c buffer) = replace w c (holding (record { position = 0; bytes = (freshState buffer).state }) (w c))
  after w (restart_copy c h) = replace w c (holding h (w c))

  -- the events of a list can befall one after the other
  abbrev pub Befalls : World → List Event → Type 0
  Befalls w [] = Unit {0}
  Befalls w (e ∷ es) = Can w e × Befalls (after w e) es

  unfoldable pub end : World → List Event → World
  end w [] = w
  end w (e ∷ es) = end (after w e) es

  -- "Empty, at first or at a restart, is the fresh state as the fresh-state call leaves it"
  unfoldable pub begin : (buffers : Side → Bytes) → World
  begin buffers c = holding (record { position = 0; bytes = (freshState (buffers c)).state }) (record { condition = stopped (buffers c); history = [] })

  -- ---- the calls of a list, with these answers

  abbrev pub answer : Called → Answer
  answer k = takeRecord k.lent

  -- "Reply bytes are the buffer's first ones, as many as the call returned"
  abbrev pub reply_bytes_of : Called → Bytes
  reply_bytes_of k = take (answer k).returned (answer k).reply

  unfoldable pub calls : World → List Event → List Called
  calls w [] = []
  calls w (e ∷ es) = call_of w e ++ calls (after w e) es

  -- ---- the claim

  -- a call that took its record: it was the next, the state bytes and the reply bytes, own and woken, are the run's
  pub record Taken (xs : List Bytes) (k : Called) : Type 0 where
    pub taken : T (took (answer k))
    pub next : number_of k.lent.input ≡ some (suc k.position)
    pub run : Run
    pub reached : run_at xs k.position ≡ some run
    pub count : (answer k).returned ≡ length (replies_bytes (step_bytes run k.lent.input).replies)
    pub replies : reply_bytes_of k ≡ replies_bytes (step_bytes run k.lent.input).replies
    pub state : (answer k).state ≡ encode (step_bytes run k.lent.input).run

  -- a call that was turned back: it returned the number of the check that failed, and changed no byte
  pub record TurnedBack (n : ℕ) (k : Called) : Type 0 where
    pub returned : (answer k).returned ≡ n
    pub untaken : took (answer k) ≡ false
    pub state : (answer k).state ≡ k.lent.state
    pub reply : (answer k).reply ≡ k.lent.reply

  -- "An uncut call takes its record exactly when checks 2 to 5 pass against that position, else returns the number of the first that fails"
  abbrev pub Answered : List Bytes → Called → Option ℕ → Type 0
  Answered xs k none = Taken xs k
  Answered xs k (some n) = TurnedBack n k

  pub record Claim (w : World) (es : List Event) : Type 0 where
    -- each running replica's state bytes are the encoding of the run at its position, in which no waiting statement has a guard that is met
    pub states : (c : Side) (h : Held) → (end w es c).condition ≡ running h → OfRun (inputs es) h
    -- and so are those of every state that it ever held between calls
    pub past_states : (c : Side) (h : Held) → Memᴰ h (end w es c).history → OfRun (inputs es) h
    -- equal positions mean equal state bytes, on one replica or on both, at whatever times
    pub equal_states : (c d : Side) (h k : Held) → Memᴰ h (end w es c).history → Memᴰ k (end w es d).history → h.position ≡ k.position → h.bytes ≡ k.bytes
    -- a running replica's state is one of them
    pub latest : (c : Side) (h : Held) → (end w es c).condition ≡ running h → Memᴰ h (end w es c).history
    -- each call is answered as the checks against its replica's position say
    pub answers : (k : Called) → Memᴰ k (calls w es) → Answered (inputs es) k (refusal_at k.position k.lent.input k.lent.reply)
    -- "1 never comes back in the list"
    pub never1 : (k : Called) → Memᴰ k (calls w es) → (answer k).returned ≡ 1 → ⊥
    -- two calls that took the same record, on one replica or on both, gave equal reply bytes
    pub equal_replies : (j k : Called) → Memᴰ j (calls w es) → Memᴰ k (calls w es) → T (took (answer j)) → T (took (answer k)) → j.lent.input ≡ k.lent.input → reply_bytes_of j ≡ reply_bytes_of k

  -- the claim, over every list of events on two replicas that start empty
  abbrev pub Demand3Of : Type 0
  Demand3Of =
      (buffers : Side → Bytes) → ((c : Side) → length (buffers c) ≡ state_size)
      → (es : List Event) → Befalls (begin buffers) es → NoClash (inputs es) → Claim (begin buffers) es

-- DEMAND 3: the claim, at `fresh_call` and `take_call`
abbrev pub Demand3 : Type 0
Demand3 = Demand3Of fresh_call take_call
