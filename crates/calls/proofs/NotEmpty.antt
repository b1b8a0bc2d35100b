-- The claim over two replicas is not empty: the customer's incident is a list that befalls, with what the claim says of it; and a call, and a restart after a cut, can befall at any time. Assumes nothing.
use Rattle.std.specs.Prelude.{◌≡◌, refl, ℕ, length, get_or, replicate, T}
use Rattle.std.proofs.Common.{sym, ap, subst, ◌∙◌}
use Rattle.std.proofs.Math.Option.{none, some, some-injective}
use mathlib.Core.List.{List, [], ◌∷◌, Memᴰ}
use Rattle.std.proofs.Math.Pow.{are_bytes}
use Rattle.basis.specs.Logic.{is_true}
use Rattle.basis.specs.Lists.{zeros}
use Rattle.basis.specs.ListLaws.{Each, each_nil, each-cons}
use Rattle.basis.specs.PadLaws.{zeros_length}
use Rattle.basis.specs.Sizes.{reply_size, state_size}
use Rattle.model.specs.Run.{Run, fresh}
use Rattle.model.proofs.Sound.{Sound}
use Rattle.model.proofs.Preserve.{fresh_sound}
use Rattle.layout.specs.Replies.{replies_bytes}
use Rattle.layout.specs.States.{encode}
use Rattle.calls.specs.Calls.{Bytes, Lent, number_of, refusal_at, step_bytes, fresh_call, take_call}
use Rattle.calls.specs.TwoReplicas.{Side, one, two, other, Held, Moment, in_call, Event, call, cut, restart_fresh, restart_copy, Condition, running, stopped, Replica, World, replace, holding, stop, took, position_after, called, after, CanCall, IsStopped, Can, Befalls, end, begin, Called, answer, reply_bytes_of, position_of, call_of, calls, input_of, inputs, run_at, NoClash, Taken, Answered, Claim}
use Rattle.calls.proofs.CallLaws.{fresh_made, take_sound, count_took}
use Rattle.calls.proofs.Theorem.{theorem}
use Rattle.calls.proofs.Computes.{computes}

-- ---- the records of the example in "Cases"

-- RV 2 at 1
abbrev pub record1 : Bytes
record1 = 82 ∷ 86 ∷ 0 ∷ 1 ∷ 0 ∷ 0 ∷ 0 ∷ 1 ∷ 2 ∷ []

-- at 2, process 5: in(0, name 7, whole into 0), then out(0, name 7, variable 0 plus 1)
abbrev pub record2 : Bytes
record2 = 65 ∷ 71 ∷ 0 ∷ 35 ∷ 0 ∷ 0 ∷ 0 ∷ 2 ∷ 2 ∷ 0 ∷ 5 ∷ 1 ∷ 1 ∷ 0 ∷ 0 ∷ 2 ∷ 0 ∷ 1 ∷ 0 ∷ 0 ∷ 0 ∷ 7 ∷ 1 ∷ 0 ∷ 0 ∷ 1 ∷ 5 ∷ 0 ∷ 0 ∷ 2 ∷ 0 ∷ 1 ∷ 0 ∷ 0 ∷ 0 ∷ 7 ∷ 3 ∷ 0 ∷ 0 ∷ 0 ∷ 0 ∷ 0 ∷ 1 ∷ []

-- at 3, process 6: true, then out(0, name 7, 41), which wakes process 5
abbrev pub record3 : Bytes
record3 = 65 ∷ 71 ∷ 0 ∷ 22 ∷ 0 ∷ 0 ∷ 0 ∷ 3 ∷ 2 ∷ 0 ∷ 6 ∷ 1 ∷ 0 ∷ 1 ∷ 5 ∷ 0 ∷ 0 ∷ 2 ∷ 0 ∷ 1 ∷ 0 ∷ 0 ∷ 0 ∷ 7 ∷ 0 ∷ 0 ∷ 0 ∷ 0 ∷ 0 ∷ 41 ∷ []

-- the reply to record 3, then the woken one to record 2: done, in branch 1, variable 0 is 41
abbrev pub replies3 : Bytes
replies3 =
    82 ∷ 80 ∷ 0 ∷ 0 ∷ 0 ∷ 3 ∷ 2 ∷ 0 ∷ 6 ∷ 0 ∷ 1 ∷ 0
    ∷ 82 ∷ 80 ∷ 0 ∷ 0 ∷ 0 ∷ 2 ∷ 2 ∷ 0 ∷ 5 ∷ 0 ∷ 1 ∷ 1 ∷ 0 ∷ 0 ∷ 0 ∷ 0 ∷ 0 ∷ 41 ∷ []

-- ---- the incident

-- the two lend reply buffers of different lengths and bytes
pub reply_buffer : Side → Bytes
reply_buffer one = zeros reply_size
reply_buffer two = replicate 4000 255

pub lend : Side → (state input : Bytes) → Lent
lend c state input = record { state = state; input = input; reply = reply_buffer c }

pub buffers : Side → Bytes
buffers c = zeros state_size

-- records 1, 2, 3 on replica one
pub one1 : Lent
one1 = lend one (fresh_call (buffers one)).state record1

pub one2 : Lent
one2 = lend one (take_call one1).state record2

pub one3 : Lent
one3 = lend one (take_call one2).state record3

-- records 1, 2 on replica two, and the call for record 3 that is cut
pub two1 : Lent
two1 = lend two (fresh_call (buffers two)).state record1

pub two2 : Lent
two2 = lend two (take_call two1).state record2

pub cut3 : Lent
cut3 = lend two (take_call two2).state record3

-- the state that replica one held at position 1
pub copied : Held
copied = record { position = 1; bytes = (take_call one1).state }

-- records 2, 3 on replica two again, from the copy on
pub again2 : Lent
again2 = lend two (take_call one1).state record2

pub again3 : Lent
again3 = lend two (take_call again2).state record3

-- A statement waits on both replicas; the call that would wake it is cut inside on replica two and leaves any bytes; replica two restarts from an earlier state of replica one and takes the late records again.
pub incident : List Event
incident =
    call one one1
    ∷ call two two1
    ∷ call one one2
    ∷ call two two2
    ∷ call one one3
    ∷ cut two (in_call cut3) (1 ∷ 2 ∷ 3 ∷ [])
    ∷ restart_copy two copied
    ∷ call two again2
    ∷ call two again3
    ∷ []

-- the two replicas at first; after a list of events; after a cut
abbrev pub start : World
start = begin fresh_call take_call buffers

abbrev pub world : (starts : Side → Bytes) → List Event → World
world starts es = end fresh_call take_call (begin fresh_call take_call starts) es

abbrev pub after_cut : World → Side → Moment → (left : Bytes) → World
after_cut w c m left = after fresh_call take_call w (cut c m left)

-- ---- it befalls

pub buffers_fresh : (c : Side) → length (buffers c) ≡ state_size
unfolding buffers
buffers_fresh c = zeros_length state_size

-- a call that passes the checks on the bytes of a sound run takes its record
took_next : (s : Run) (l : Lent) → Sound s → l.state ≡ encode s → refusal_at s.last l.input l.reply ≡ none → T (took (take_call l))
took_next s l h e pass = rw (take_sound s l h e, pass) (count_took (step_bytes s l.input).replies _ _)

position_taken : (p n : ℕ) (l : Lent) → T (took (take_call l)) → number_of l.input ≡ some n → position_after fresh_call take_call p l ≡ n
unfolding position_after
position_taken p n l t e = rw (is_true (took (take_call l)) t, e)

passes : (c : Side) → (refusal_at 0 record1 (reply_buffer c) ≡ none) × ((refusal_at 1 record2 (reply_buffer c) ≡ none) × (refusal_at 2 record3 (reply_buffer c) ≡ none))
unfolding computes reply_buffer
passes one = (refl, (refl, refl))
passes two = (refl, (refl, refl))

pub numbered1 : number_of record1 ≡ some 1
unfolding computes
numbered1 = refl

numbered2 : number_of record2 ≡ some 2
unfolding computes
numbered2 = refl

numbered3 : number_of record3 ≡ some 3
unfolding computes
numbered3 = refl

position1 : position_after fresh_call take_call 0 one1 ≡ 1
unfolding one1 lend
position1 =
    position_taken 0 1 one1 (took_next fresh one1 fresh_sound (fresh_made (buffers one) (buffers_fresh one)) (unfold fresh in (passes one).0)) numbered1

-- every event of the incident can befall where it stands
pub incident_befalls : Befalls fresh_call take_call start incident
unfolding begin after replace holding stop called end incident one1 one2 one3 two1 two2 again2 again3 copied lend
incident_befalls =
    ((refl, tt), ((refl, tt), ((refl, tt), ((refl, tt), ((refl, tt), (tt, ((tt, Memᴰ.tail (Memᴰ.tail (Memᴰ.head (ap (λ (n : ℕ). record { position = n; bytes = (take_call one1).state }) (sym position1))))), ((refl, tt), ((refl, tt), tt)))))))))

-- ---- no number stands on two of its records

-- a record that is the table's at its number
abbrev pub Tabled : (table : List Bytes) → Bytes → Type 0
Tabled table x = (n : ℕ) → number_of x ≡ some n → x ≡ get_or table n []

pub tabled : (table : List Bytes) (m : ℕ) (x : Bytes) → number_of x ≡ some m → x ≡ get_or table m [] → Tabled table x
tabled table m x e at n e' = at ∙ ap (λ (k : ℕ). get_or table k []) (some-injective m n (sym e ∙ e'))

pub no_clash : (table xs : List Bytes) → Each (Tabled table) xs → NoClash xs
no_clash table xs each n x y i j e e' = each x i n e ∙ sym (each y j n e')

pub incident_no_clash : NoClash (inputs incident)
unfolding inputs input_of incident one1 one2 one3 two1 two2 again2 again3 lend
incident_no_clash =
    let table : List Bytes = [] ∷ record1 ∷ record2 ∷ record3 ∷ [] in
    let P : Bytes → Type 0 = Tabled table in
    let r1 : P record1 = tabled table 1 record1 numbered1 refl in
    let r2 : P record2 = tabled table 2 record2 numbered2 refl in
    let r3 : P record3 = tabled table 3 record3 numbered3 refl in
    no_clash table _ (each-cons P _ _ r1 (each-cons P _ _ r1 (each-cons P _ _ r2 (each-cons P _ _ r2 (each-cons P _ _ r3 (each-cons P _ _ r2 (each-cons P _ _ r3 (each_nil P))))))))

-- ---- what the claim says of it

claim : Claim fresh_call take_call start incident
claim = theorem buffers buffers_fresh incident incident_befalls incident_no_clash

-- a call of the list at a position whose checks pass took its record
taken_at : (k : Called) → Memᴰ k (calls fresh_call take_call start incident) → (n : ℕ) → k.position ≡ n → refusal_at n k.lent.input k.lent.reply ≡ none → Taken fresh_call take_call (inputs incident) k
taken_at k i n e pass =
    subst (Answered fresh_call take_call (inputs incident) k) (ap (λ (m : ℕ). refusal_at m k.lent.input k.lent.reply) e ∙ pass) (claim.answers k i)

-- the uncut calls for records 2 and 3 that each replica ends with
abbrev before2 : Side → ℕ
before2 one = position_after fresh_call take_call 0 one1
before2 two = 1

abbrev lent2 : Side → Lent
lent2 one = one2
lent2 two = again2

abbrev lent3 : Side → Lent
lent3 one = one3
lent3 two = again3

abbrev call2 : Side → Called
call2 c = record { side = c; position = before2 c; lent = lent2 c }

abbrev call3 : Side → Called
call3 c = record { side = c; position = position_after fresh_call take_call (before2 c) (lent2 c); lent = lent3 c }

listed : (c : Side) → Memᴰ (call2 c) (calls fresh_call take_call start incident) × Memᴰ (call3 c) (calls fresh_call take_call start incident)
unfolding calls call_of position_of after begin replace holding stop called incident copied
listed one = (
  Memᴰ.tail (Memᴰ.tail (Memᴰ.head refl)),
  Memᴰ.tail (Memᴰ.tail (Memᴰ.tail (Memᴰ.tail (Memᴰ.head refl)))),
)
listed two = (
  Memᴰ.tail (Memᴰ.tail (Memᴰ.tail (Memᴰ.tail (Memᴰ.tail (Memᴰ.head refl))))),
  Memᴰ.tail (Memᴰ.tail (Memᴰ.tail (Memᴰ.tail (Memᴰ.tail (Memᴰ.tail (Memᴰ.head refl)))))),
)

-- what they lend
lends : (c : Side) → ((lent2 c).input ≡ record2) × (((lent2 c).reply ≡ reply_buffer c) × (((lent3 c).input ≡ record3) × ((lent3 c).reply ≡ reply_buffer c)))
unfolding one2 one3 again2 again3 lend
lends one = (refl, (refl, (refl, refl)))
lends two = (refl, (refl, (refl, refl)))

at1 : (c : Side) → before2 c ≡ 1
at1 one = position1
at1 two = refl

taken2 : (c : Side) → Taken fresh_call take_call (inputs incident) (call2 c)
taken2 c = taken_at (call2 c) (listed c).0 1 (at1 c) (rw ((lends c).0, (lends c).1.0) (passes c).1.0)

at2 : (c : Side) → position_after fresh_call take_call (before2 c) (lent2 c) ≡ 2
at2 c = position_taken (before2 c) 2 (lent2 c) (taken2 c).taken (ap number_of (lends c).0 ∙ numbered2)

taken3 : (c : Side) → Taken fresh_call take_call (inputs incident) (call3 c)
taken3 c = taken_at (call3 c) (listed c).1 2 (at2 c) (rw ((lends c).1.1.0, (lends c).1.1.1) (passes c).1.1)

at3 : (c : Side) → position_after fresh_call take_call (position_after fresh_call take_call (before2 c) (lent2 c)) (lent3 c) ≡ 3
at3 c = position_taken (position_after fresh_call take_call (before2 c) (lent2 c)) 3 (lent3 c) (taken3 c).taken (ap number_of (lends c).1.1.0 ∙ numbered3)

-- the one-by-one run of records 1 and 2
run2 : Run
run2 = (step_bytes (step_bytes fresh record1).run record2).run

run_at2 : run_at (inputs incident) 2 ≡ some run2
unfolding computes run2 incident one1 one2 one3 two1 two2 again2 again3 lend
run_at2 = refl

run_replies3 : replies_bytes (step_bytes run2 record3).replies ≡ replies3
unfolding computes run2
run_replies3 = refl

replied3 : (c : Side) → reply_bytes_of fresh_call take_call (call3 c) ≡ replies3
replied3 c =
    let t = taken3 c in
    let r : t.run ≡ run2 = some-injective t.run run2 (sym t.reached ∙ ap (run_at (inputs incident)) (at2 c) ∙ run_at2) in
    t.replies ∙ rw (r, (lends c).1.1.0) run_replies3

-- On either replica a call of the incident took record 3, and its reply bytes are the two replies, own and woken.
pub incident_replies : (c : Side) → (k : Called) × Memᴰ k (calls fresh_call take_call start incident) × (k.side ≡ c) × (k.lent.input ≡ record3) × T (took (answer fresh_call take_call k)) × (reply_bytes_of fresh_call take_call k ≡ replies3)
incident_replies c = (call3 c, (listed c).1, refl, (lends c).1.1.0, (taken3 c).taken, replied3 c)

ended : (c : Side) → (world buffers incident c).condition ≡ running (record { position = 3; bytes = (take_call (lent3 c)).state })
unfolding end after begin replace holding stop called incident copied
ended one = ap (λ (n : ℕ). running (record { position = n; bytes = (take_call one3).state })) (at3 one)
ended two = ap (λ (n : ℕ). running (record { position = n; bytes = (take_call again3).state })) (at3 two)

-- Both replicas end running at position 3, with the same state bytes.
pub incident_ends : (h : Held) × (h.position ≡ 3) × ((c : Side) → (world buffers incident c).condition ≡ running h)
incident_ends = (record { position = 3; bytes = (take_call one3).state }, refl, both)
  where
    both : (c : Side) → (world buffers incident c).condition ≡ running (record { position = 3; bytes = (take_call one3).state })
    both one = ended one
    both two = ended two ∙ ap (λ (b : Bytes). running (record { position = 3; bytes = b })) (claim.equal_states two one _ _ (claim.latest two _ (ended two)) (claim.latest one _ (ended one)) refl)

-- ---- what can always befall

-- "a call with a record, taken or turned back": a running replica can be called with any bytes and any reply buffer
pub call_befalls : (w : World) (c : Side) (h : Held) → (w c).condition ≡ running h → (input reply : Bytes) → T (are_bytes input) → Can w (call c (record { state = h.bytes; input = input; reply = reply }))
call_befalls w c h e input reply t = subst (λ (d : Condition). CanCall d (record { state = h.bytes; input = input; reply = reply })) (sym e) (refl, t)

stopped_now : (w : World) (c : Side) (m : Moment) (left : Bytes) → IsStopped (after_cut w c m left c).condition
unfolding after replace stop
stopped_now w one m left = tt
stopped_now w two m left = tt

-- after any cut the replica can restart by the fresh-state call, on a buffer of 25,312 bytes
pub fresh_restart_befalls : (w : World) (c : Side) (m : Moment) (left buffer : Bytes) → length buffer ≡ state_size → Can (after_cut w c m left) (restart_fresh c buffer)
fresh_restart_befalls w c m left buffer e = (stopped_now w c m left, e)

-- a replica has held a state, and the one that it holds is of those
record Keeps (k : Replica) : Type 0 where
  held : (h : Held) × Memᴰ h k.history
  latest : (h : Held) → k.condition ≡ running h → Memᴰ h k.history

abbrev held_or : Held → Condition → Held
held_or d (running h) = h
held_or d (stopped b) = d

keeps_holding : (h : Held) (k : Replica) → Keeps (holding h k)
unfolding holding
keeps_holding h k = record { held = (h, Memᴰ.head refl); latest = λ d e. Memᴰ.head (ap (held_or d) (sym e)) }

keeps_stop : (left : Bytes) (k : Replica) → Keeps k → Keeps (stop left k)
unfolding stop
keeps_stop left k kk = record { held = kk.held; latest = λ d e. absurd (subst IsStopped e tt) }

keeps_called : (d : Condition) (l : Lent) (k : Replica) → Keeps k → Keeps (called fresh_call take_call d l k)
unfolding called
keeps_called (running h) l k kk = keeps_holding (record { position = position_after fresh_call take_call h.position l; bytes = (take_call l).state }) k
keeps_called (stopped b) l k kk = kk

keeps_replace : (w : World) (c : Side) (k : Replica) → ((d : Side) → Keeps (w d)) → Keeps k → (d : Side) → Keeps (replace w c k d)
unfolding replace
keeps_replace w one k kw kk one = kk
keeps_replace w one k kw kk two = kw two
keeps_replace w two k kw kk one = kw one
keeps_replace w two k kw kk two = kk

keeps_after : (w : World) (e : Event) → ((d : Side) → Keeps (w d)) → (d : Side) → Keeps (after fresh_call take_call w e d)
unfolding after
keeps_after w (call c l) kw = keeps_replace w c _ kw (keeps_called (w c).condition l (w c) (kw c))
keeps_after w (cut c m left) kw = keeps_replace w c _ kw (keeps_stop left (w c) (kw c))
keeps_after w (restart_fresh c buffer) kw = keeps_replace w c _ kw (keeps_holding (record { position = 0; bytes = (fresh_call buffer).state }) (w c))
keeps_after w (restart_copy c h) kw = keeps_replace w c _ kw (keeps_holding h (w c))

keeps_end : (w : World) (es : List Event) → ((d : Side) → Keeps (w d)) → (d : Side) → Keeps (end fresh_call take_call w es d)
unfolding end
keeps_end w [] kw = kw
keeps_end w (e ∷ es) kw = keeps_end (after fresh_call take_call w e) es (keeps_after w e kw)

keeps_begin : (starts : Side → Bytes) (d : Side) → Keeps (begin fresh_call take_call starts d)
unfolding begin
keeps_begin starts d = keeps_holding (record { position = 0; bytes = (fresh_call (starts d)).state }) _

-- a cut leaves the other replica as it is
other_kept : (w : World) (c : Side) (m : Moment) (left : Bytes) → after_cut w c m left (other c) ≡ w (other c)
unfolding after replace
other_kept w one m left = refl
other_kept w two m left = refl

copy_of : (w : World) (c : Side) (m : Moment) (left : Bytes) (h : Held) → Memᴰ h (w (other c)).history → Can (after_cut w c m left) (restart_copy c h)
copy_of w c m left h i = (stopped_now w c m left, subst (λ (k : Replica). Memᴰ h k.history) (sym (other_kept w c m left)) i)

-- after any events and any cut there is a state of the other that the replica can restart from by a copy
pub copy_restart_befalls : (starts : Side → Bytes) (es : List Event) (c : Side) (m : Moment) (left : Bytes) → (h : Held) × Can (after_cut (world starts es) c m left) (restart_copy c h)
copy_restart_befalls starts es c m left =
    let k = (keeps_end (begin fresh_call take_call starts) es (keeps_begin starts) (other c)).held in
    (k.0, copy_of (world starts es) c m left k.0 k.1)

-- where the other runs, its latest state is one of them
pub latest_copy_befalls : (starts : Side → Bytes) (es : List Event) (c : Side) (m : Moment) (left : Bytes) (h : Held) → (world starts es (other c)).condition ≡ running h → Can (after_cut (world starts es) c m left) (restart_copy c h)
latest_copy_befalls starts es c m left h e = copy_of (world starts es) c m left h ((keeps_end (begin fresh_call take_call starts) es (keeps_begin starts) (other c)).latest h e)
