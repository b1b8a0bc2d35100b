-- What demand 3 and the contract of the call shut out: the six programs of "Four lines on contracts" and two more, each as a definition of the call. Demand 3 is false of each, by three records; by the contract each differs from the call at a named input, or at one of two. Assumes nothing.
use Rattle.std.specs.Prelude.{◌≡◌, ℕ, suc, cond, not, length, take, drop, get_or, T, eqb}
use Rattle.std.proofs.Math.Path.{refl, ap, subst}
use Rattle.std.proofs.Common.{sym, ◌∙◌, arith, take_at, le-ltb}
use Rattle.std.proofs.Math.Option.{Option, none, some, some-injective}
use mathlib.Core.List.{List, [], ◌∷◌, ◌++◌, map, Memᴰ}
use Rattle.std.proofs.Math.Pow.{are_bytes}
use Rattle.std.proofs.lemmas.Bool.{lt-leb}
use Rattle.basis.specs.Choice.{maybe, first_number}
use Rattle.basis.specs.Logic.{is_true}
use Rattle.basis.specs.Lists.{keep, is_in, zeros}
use Rattle.basis.specs.ListLaws.{Each, each_nil, each-cons}
use Rattle.basis.specs.PadLaws.{zeros_length}
use Rattle.basis.specs.Sizes.{reply_size}
use Rattle.model.specs.Statement.{Statement}
use Rattle.model.specs.Run.{Waiting, Run, fresh, with_last, with_waiting, Reply, Turn}
use Rattle.model.specs.Step.{RV, CR, AG, Record, record_of, Request, recover, crash, monitor, open_space, close_space, guarded, request_of, checks, asking_host, asking_process, refused, malformed, effect, step}
use Rattle.model.proofs.Sound.{Sound}
use Rattle.model.proofs.Preserve.{fresh_sound}
use Rattle.layout.specs.Replies.{replies_bytes}
use Rattle.layout.specs.States.{encode, decode}
use Rattle.layout.specs.StateLaws.{decode_encode, encode_state}
use Rattle.calls.specs.Calls.{Bytes, Lent, lent, Answer, number_of, in_turn, refusal_at, refusal, step_bytes, laid_over, turned_back, taken, fresh_call, take_call, answer}
use Rattle.calls.specs.TwoReplicas.{one, Event, call, World, replace, holding, took, position_after, called, after, Befalls, begin, Called, position_of, call_of, calls, input_of, inputs, is_numbered, record_numbered, run_at, NoClash, Taken, Answered, Claim, Demand3Of}
use Rattle.calls.proofs.CallLaws.{step_bytes_sound, step_bytes_last, fresh_made, taken_by, take_sound}
use Rattle.calls.proofs.NotEmpty.{record1, numbered1, buffers, buffers_fresh, Tabled, tabled, no_clash}
use Rattle.calls.proofs.Computes.{computes}

-- ---- another call

-- the call for a record, but what a taken record does is `work`'s in place of the run's step
pub call_by : (work : Run → Record → Turn) → Lent → Answer
call_by work l =
    let s = decode l.state in
    let t : Turn = maybe (record_of l.input) (record { run = s; replies = [] }) (work s) in
    let bytes = replies_bytes t.replies in
    maybe (refusal l) (record { returned = length bytes; state = encode t.run; reply = laid_over bytes l.reply }) (turned_back l)

-- with the run's step it is the call
pub call_by_step : (l : Lent) → call_by step l ≡ take_call l
unfolding call_by take_call taken step_bytes
call_by_step l = refl

-- ---- the wrong programs

-- "works the first record and merely advances afterwards"
pub merely_advances : Run → Record → Turn
merely_advances s r = cond (eqb s.last 0) (step s r) (record { run = with_last s r.position; replies = [] })

pub statement_of : Request → Option Statement
statement_of (recover h) = none
statement_of (crash h) = none
statement_of (monitor h p) = none
statement_of (open_space h p isPrivate) = none
statement_of (close_space h p n) = none
statement_of (guarded st) = some st

-- the run's step without rule 7, so that nothing wakes, and with `work` where a statement that passes the checks would run
pub on_statements : (work : Run → Statement → Turn) → Run → Record → Turn
on_statements work s r =
    let s' = with_last s r.position in
    maybe (request_of r.mark r.body) (malformed s')
    (λ q. maybe (first_number (checks s' q)) (maybe (statement_of q) (effect s' q) (work s')) (refused s' (asking_host q) (asking_process q)))

-- "leaves every statement waiting"
pub leaves_waiting : Run → Record → Turn
leaves_waiting = on_statements (λ s st. record { run = with_waiting s (s.waiting ++ (record { position = s.last; statement = st } ∷ [])); replies = [] })

-- a reply to a statement that was not tried
abbrev pub untried : (position : ℕ) → Statement → (outcome branch : ℕ) → Reply
untried p st n b = record { position = p; host = st.host; process = st.process; outcome = n; branch = b; values = [] }

-- "answers 18 or 16 untried"
pub answers_untried : (outcome branch : ℕ) → Run → Record → Turn
answers_untried n b = on_statements (λ s st. record { run = s; replies = untried s.last st n b ∷ [] })

-- "sends every record back": untaken, by whatever number
pub sends_back : ℕ → Lent → Answer
sends_back n l = turned_back l n

-- or taken, and answered by whatever number
pub refuses_all : ℕ → Run → Record → Turn
refuses_all n s r =
    let s' = with_last s r.position in
    maybe (request_of r.mark r.body) (malformed s') (λ q. refused s' (asking_host q) (asking_process q) n)

-- "giving a fixed reply", with anything filled in (position, host, process), whatever it leaves of the state
pub fixed_reply : (bytes left : Lent → Bytes) → Lent → Answer
fixed_reply bytes left l = answer (length (bytes l)) (left l) (laid_over (bytes l) l.reply)

-- "one inert"
pub inert : Lent → Answer
inert l = answer 0 l.state l.reply

-- one that returns the count and leaves the state that the call leaves, and writes no reply byte
pub silent : Lent → Answer
silent l = answer (take_call l).returned (take_call l).state l.reply

-- and one that answers what a crash drops, where rule 6 "drops that host's waiting statements without reply": 18 to each that waited, waits no more and has no reply
pub answers_dropped : Run → Record → Turn
answers_dropped s r =
    let t = step s r in
    let kept : List ℕ = map (λ w. w.position) t.run.waiting ++ map (λ y. y.position) t.replies in
    let dropped : List Waiting = keep (λ w. not (is_in w.position kept)) s.waiting in
    record { run = t.run; replies = t.replies ++ map (λ w. untried w.position w.statement 18 0) dropped }

-- ---- the inputs at which they are found out

-- at 2, process 6: true, then out(0, name 7, 41)
abbrev pub record2 : Bytes
record2 = 65 ∷ 71 ∷ 0 ∷ 22 ∷ 0 ∷ 0 ∷ 0 ∷ 2 ∷ 2 ∷ 0 ∷ 6 ∷ 1 ∷ 0 ∷ 1 ∷ 5 ∷ 0 ∷ 0 ∷ 2 ∷ 0 ∷ 1 ∷ 0 ∷ 0 ∷ 0 ∷ 7 ∷ 0 ∷ 0 ∷ 0 ∷ 0 ∷ 0 ∷ 41 ∷ []

-- or at 2, process 5: in(0, name 7), which waits
abbrev pub waits2 : Bytes
waits2 = 65 ∷ 71 ∷ 0 ∷ 15 ∷ 0 ∷ 0 ∷ 0 ∷ 2 ∷ 2 ∷ 0 ∷ 5 ∷ 1 ∷ 1 ∷ 0 ∷ 0 ∷ 1 ∷ 0 ∷ 1 ∷ 0 ∷ 0 ∷ 0 ∷ 7 ∷ 0 ∷ []

-- CR 2 at 3
abbrev pub crash3 : Bytes
crash3 = 67 ∷ 82 ∷ 0 ∷ 1 ∷ 0 ∷ 0 ∷ 0 ∷ 3 ∷ 2 ∷ []

run1 : Run
run1 = (step_bytes fresh record1).run

-- `first`: RV 2 at 1 on the fresh state; `second`: record 2 on the state after it; `third`: CR 2 at 3 on the state after RV 2 and the statement that waits
pub data Input : Type 0 where
  first second third : Input

pub run_of : Input → Run
run_of first = fresh
run_of second = run1
run_of third = (step_bytes run1 waits2).run

pub bytes_of : Input → Bytes
bytes_of first = record1
bytes_of second = record2
bytes_of third = crash3

abbrev lend : (state input : Bytes) → Lent
lend state input = lent state input (zeros reply_size)

abbrev pub lent_at : Input → Lent
lent_at i = lend (encode (run_of i)) (bytes_of i)

-- demand 3 is false of the program, and at one of the inputs it breaks the contract of the call
pub record ShutOut (does : Lent → Answer) (is : List Input) : Type 0 where
  pub demand3 : Demand3Of fresh_call does → ⊥
  pub contract : Each (λ i. does (lent_at i) ≡ take_call (lent_at i)) is → ⊥

-- ---- what is known of the records

numbered2 : number_of record2 ≡ some 2
unfolding computes
numbered2 = refl

numbered_waits : number_of waits2 ≡ some 2
unfolding computes
numbered_waits = refl

numbered3 : number_of crash3 ≡ some 3
unfolding computes
numbered3 = refl

last1 : run1.last ≡ 1
unfolding run1
last1 = step_bytes_last fresh record1 1 numbered1

run1_sound : Sound run1
unfolding run1
run1_sound = step_bytes_sound fresh record1 fresh_sound tt (unfold fresh in numbered1)

sound : (i : Input) → Sound (run_of i)
unfolding run_of
sound first = fresh_sound
sound second = run1_sound
sound third = step_bytes_sound run1 waits2 run1_sound tt (rw last1 numbered_waits)

numbered : (i : Input) → number_of (bytes_of i) ≡ some (suc (run_of i).last)
unfolding computes run_of bytes_of run1
numbered first = refl
numbered second = refl
numbered third = refl

-- the record after the last passes checks 2 to 5
passes : (last : ℕ) (x : Bytes) → number_of x ≡ some (suc last) → refusal_at last x (zeros reply_size) ≡ none
unfolding refusal_at in_turn first_number
passes last x e = rw (zeros_length reply_size, e, lt-leb (suc last) last (omega arith), le-ltb (suc last) (suc last) (omega arith))

item_of : Input → Record
item_of first = record { mark = RV; position = 1; body = drop 8 record1 }
item_of second = record { mark = AG; position = 2; body = drop 8 record2 }
item_of third = record { mark = CR; position = 3; body = drop 8 crash3 }

read : (i : Input) → record_of (bytes_of i) ≡ some (item_of i)
unfolding computes item_of bytes_of
read first = refl
read second = refl
read third = refl

-- ---- what the contract and demand 3 both say of an answer

-- it is the run's: the count, the reply bytes, the state
record Right (s : Run) (x : Bytes) (a : Answer) : Type 0 where
  count : a.returned ≡ length (replies_bytes (step_bytes s x).replies)
  replies : take a.returned a.reply ≡ replies_bytes (step_bytes s x).replies
  state : a.state ≡ encode (step_bytes s x).run

abbrev RightAt : (Lent → Answer) → Input → Type 0
RightAt does i = Right (run_of i) (bytes_of i) (does (lent_at i))

-- the bytes laid over a buffer are its first ones
laid : (bytes buffer : Bytes) → take (length bytes) (laid_over bytes buffer) ≡ bytes
unfolding laid_over
laid bytes buffer = take_at bytes (drop (length bytes) buffer) (length bytes) refl

contract_right : (does : Lent → Answer) (i : Input) → does (lent_at i) ≡ take_call (lent_at i) → RightAt does i
contract_right does i e =
    let s = run_of i in
    let l = lent_at i in
    let t : take_call l ≡ taken_by s l = take_sound s l (sound i) refl ∙ rw (passes s.last (bytes_of i) (numbered i)) in
    subst (Right s (bytes_of i)) (sym (e ∙ t)) (record { count = refl; replies = laid (replies_bytes (step_bytes s (bytes_of i)).replies) (zeros reply_size); state = refl })

abbrev called_at : ℕ → Lent → Called
called_at p l = record { side = one; position = p; lent = l }

-- RV 2 at 1, a record at 2 and CR 2 at 3, to replica one; each call gets the state that the one before left
module _ (does : Lent → Answer) (x : Bytes) (is-bytes : T (are_bytes x)) (number : number_of x ≡ some 2) where
  abbrev lent1 : Lent
  lent1 = lend (fresh_call (buffers one)).state record1

  abbrev lent2 : Lent
  lent2 = lend (does lent1).state x

  abbrev lent3 : Lent
  lent3 = lend (does lent2).state crash3

  abbrev position1 : ℕ
  position1 = position_after fresh_call does 0 lent1

  abbrev position2 : ℕ
  position2 = position_after fresh_call does position1 lent2

  abbrev start : World
  start = begin fresh_call does buffers

  abbrev events : List Event
  events = call one lent1 ∷ call one lent2 ∷ call one lent3 ∷ []

  events_befall : Befalls fresh_call does start events
  unfolding begin after replace holding called
  events_befall = ((refl, tt), ((refl, is-bytes), ((refl, tt), tt)))

  abbrev stream : List Bytes
  stream = record1 ∷ x ∷ crash3 ∷ []

  stream_is : inputs events ≡ stream
  unfolding inputs input_of
  stream_is = refl

  stream_no_clash : NoClash stream
  stream_no_clash =
      let table : List Bytes = [] ∷ stream in
      let P : Bytes → Type 0 = Tabled table in
      no_clash table stream (each-cons P _ _ (tabled table 1 record1 numbered1 refl) (each-cons P _ _ (tabled table 2 x number refl) (each-cons P _ _ (tabled table 3 crash3 numbered3 refl) (each_nil P))))

  abbrev made : List Called
  made = called_at 0 lent1 ∷ called_at position1 lent2 ∷ called_at position2 lent3 ∷ []

  made_is : calls fresh_call does start events ≡ made
  unfolding calls call_of position_of begin after replace holding called
  made_is = refl

  abbrev run2 : Run
  run2 = (step_bytes run1 x).run

  run_at_lem : (run_at stream 0 ≡ some fresh) × ((run_at stream 1 ≡ some run1) × (run_at stream 2 ≡ some run2))
  unfolding run_at record_numbered is_numbered run1
  run_at_lem = (refl, (rw numbered1, rw (numbered1, number)))

  module _ (demand : Demand3Of fresh_call does) where
    claim : Claim fresh_call does start events
    claim = demand buffers buffers_fresh events events_befall (rw stream_is stream_no_clash)

    -- the call for the record after the run s is answered as the run says, and the position is the record's
    next : (s : Run) (last p : ℕ) (b y : Bytes) → Memᴰ (called_at p (lend b y)) made → p ≡ last → run_at stream last ≡ some s → number_of y ≡ some (suc last)
        → Right s y (does (lend b y)) × (position_after fresh_call does p (lend b y) ≡ suc last)
    unfolding position_after
    next s last p b y i e at n =
        let pass = ap (λ (m : ℕ). refusal_at m y (zeros reply_size)) e ∙ passes last y n in
        let t : Taken fresh_call does (inputs events) (called_at p (lend b y)) = subst (Answered fresh_call does (inputs events) (called_at p (lend b y))) pass (claim.answers (called_at p (lend b y)) (rw made_is i)) in
        let r : t.run ≡ s = some-injective t.run s (sym t.reached ∙ ap (run_at (inputs events)) e ∙ rw stream_is at) in
        (record { count = t.count ∙ rw r; replies = t.replies ∙ rw r; state = t.state ∙ rw r }, rw (is_true (took (does (lend b y))) t.taken, n))

    right1 : Right fresh record1 (does lent1) × (position1 ≡ 1)
    right1 = next fresh 0 0 _ record1 (Memᴰ.head refl) refl run_at_lem.0 numbered1

    right2 : Right run1 x (does lent2) × (position2 ≡ 2)
    right2 = next run1 1 position1 _ x (Memᴰ.tail (Memᴰ.head refl)) right1.1 run_at_lem.1.0 number

    right3 : Right run2 crash3 (does lent3)
    right3 = (next run2 2 position2 _ crash3 (Memᴰ.tail (Memᴰ.tail (Memᴰ.head refl))) right2.1 run_at_lem.1.1 numbered3).0

    -- and the states are the bytes of the run
    at_first : Right fresh record1 (does (lend (encode fresh) record1))
    at_first = subst (λ (b : Bytes). Right fresh record1 (does (lend b record1))) (fresh_made (buffers one) (buffers_fresh one)) right1.0

    at_second : Right run1 x (does (lend (encode run1) x))
    unfolding run1
    at_second = subst (λ (b : Bytes). Right run1 x (does (lend b x))) right1.0.state right2.0

    at_third : Right run2 crash3 (does (lend (encode run2) crash3))
    at_third = subst (λ (b : Bytes). Right run2 crash3 (does (lend b crash3))) right2.0.state right3

demand_right : (does : Lent → Answer) → Demand3Of fresh_call does → (i : Input) → RightAt does i
unfolding run_of bytes_of
demand_right does demand first = at_first does record2 tt numbered2 demand
demand_right does demand second = at_second does record2 tt numbered2 demand
demand_right does demand third = at_third does waits2 tt numbered_waits demand

-- ---- each is shut out

shut_out : (does : Lent → Answer) (is : List Input) → (Each (RightAt does) is → ⊥) → ShutOut does is
shut_out does is wrong = record {
  demand3 = λ demand. wrong (λ i m. demand_right does demand i);
  contract = λ e. wrong (λ i m. contract_right does i (e i m));
}

-- one whose reply bytes at an input are not the run's
work_shut_out : (work : Run → Record → Turn) (i : Input) → (replies_bytes (work (run_of i) (item_of i)).replies ≡ replies_bytes (step_bytes (run_of i) (bytes_of i)).replies → ⊥) → ShutOut (call_by work) (i ∷ [])
unfolding call_by refusal
work_shut_out work i wrong =
    let s = run_of i in
    let bytes = replies_bytes (work s (item_of i)).replies in
    let did : call_by work (lent_at i) ≡ answer (length bytes) (encode (work s (item_of i)).run) (laid_over bytes (zeros reply_size)) = rw (encode_state s (sound i), decode_encode s (sound i), read i, passes s.last (bytes_of i) (numbered i)) in
    let given = ap (λ (a : Answer). take a.returned a.reply) did ∙ laid bytes (zeros reply_size) in
    shut_out (call_by work) (i ∷ []) (λ h. wrong (sym given ∙ (h i (Memᴰ.head refl)).replies))

pub advancing_shut_out : ShutOut (call_by merely_advances) (second ∷ [])
unfolding computes merely_advances item_of run_of bytes_of run1
advancing_shut_out = work_shut_out merely_advances second (λ e. let n : ◌≡◌ {A = ℕ} 0 12 = ap length e in omega arith)

pub waiting_shut_out : ShutOut (call_by leaves_waiting) (second ∷ [])
unfolding computes leaves_waiting on_statements statement_of item_of run_of bytes_of run1
waiting_shut_out = work_shut_out leaves_waiting second (λ e. let n : ◌≡◌ {A = ℕ} 0 12 = ap length e in omega arith)

-- the outcome stands in byte 9 of a reply, and the run's is 0
untried_shut_out : (n b : ℕ) → (n ≡ 0 → ⊥) → ShutOut (call_by (answers_untried n b)) (second ∷ [])
unfolding computes answers_untried on_statements statement_of item_of run_of bytes_of run1
untried_shut_out n b differs = work_shut_out (answers_untried n b) second (λ e. differs (ap (λ (bytes : Bytes). get_or bytes 9 0) e))

-- no guard tried: 18, with no branch
pub untried_18_shut_out : ShutOut (call_by (answers_untried 18 0)) (second ∷ [])
untried_18_shut_out = untried_shut_out 18 0 (λ e. omega arith)

-- no body tried: 16, in branch 1
pub untried_16_shut_out : ShutOut (call_by (answers_untried 16 1)) (second ∷ [])
untried_16_shut_out = untried_shut_out 16 1 (λ e. omega arith)

-- the reply to record 1 has a value
pub refuses_all_shut_out : (n : ℕ) → ShutOut (call_by (refuses_all n)) (first ∷ [])
unfolding computes refuses_all item_of run_of bytes_of
refuses_all_shut_out n = work_shut_out (refuses_all n) first (λ e. let c : ◌≡◌ {A = ℕ} 12 18 = ap length e in omega arith)

-- a program that returns one number at both inputs: the call returns 18, then 12
pub constant_shut_out : (does : Lent → Answer) → (does (lent_at first)).returned ≡ (does (lent_at second)).returned → ShutOut does (first ∷ second ∷ [])
unfolding computes run_of bytes_of run1
constant_shut_out does e = shut_out does (first ∷ second ∷ []) (λ h.
    let c : (does (lent_at first)).returned ≡ 18 = (h first (Memᴰ.head refl)).count in
    let d : (does (lent_at second)).returned ≡ 12 = (h second (Memᴰ.tail (Memᴰ.head refl))).count in
    let n : ◌≡◌ {A = ℕ} 18 12 = sym c ∙ e ∙ d in
    omega arith)

pub sends_back_shut_out : (n : ℕ) → ShutOut (sends_back n) (first ∷ second ∷ [])
unfolding sends_back turned_back
sends_back_shut_out n = constant_shut_out (sends_back n) refl

-- a fixed reply is of one length, whatever is filled in
pub fixed_shut_out : (bytes left : Lent → Bytes) → length (bytes (lent_at first)) ≡ length (bytes (lent_at second)) → ShutOut (fixed_reply bytes left) (first ∷ second ∷ [])
unfolding fixed_reply
fixed_shut_out bytes left e = constant_shut_out (fixed_reply bytes left) e

pub inert_shut_out : ShutOut inert (first ∷ second ∷ [])
unfolding inert
inert_shut_out = constant_shut_out inert refl

-- byte 0 of a reply is 82
pub silent_shut_out : ShutOut silent (second ∷ [])
unfolding computes silent run_of bytes_of run1
silent_shut_out = shut_out silent (second ∷ []) (λ h.
    let r = h second (Memᴰ.head refl) in
    let e : take 12 (zeros reply_size) ≡ replies_bytes (step_bytes run1 record2).replies = subst (λ (n : ℕ). take n (zeros reply_size) ≡ replies_bytes (step_bytes run1 record2).replies) r.count r.replies in
    let z : ◌≡◌ {A = ℕ} 0 82 = ap (λ (bytes : Bytes). get_or bytes 0 0) e in
    omega arith)

-- two replies for the one to the crash
pub dropped_shut_out : ShutOut (call_by answers_dropped) (third ∷ [])
unfolding computes answers_dropped item_of run_of bytes_of run1
dropped_shut_out = work_shut_out answers_dropped third (λ e. let n : ◌≡◌ {A = ℕ} 30 18 = ap length e in omega arith)
