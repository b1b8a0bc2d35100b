-- A taken call leaves what `lines` asks of a reply buffer; the number returned tells the text, and whether the stream goes on; a state stays one. Assumes nothing.
use Rattle.std.specs.Prelude.{◌≡◌, refl, ◌⊎◌, ◌≢◌, ℕ, suc, ◌*◌, ◌≤◌, ◌<◌, Bool, true, false, not, cond, List, [], length, take, drop, T, leb, ltb, eqb}
use Rattle.std.proofs.Common.{sym, ap, subst, ◌∙◌, inl, inr, arith, take_at, ne_eqb, eqb-true, le-ltb}
use Rattle.std.proofs.Math.Option.{Option, none, some, some-injective, none-ne-some}
use Rattle.std.proofs.Math.Pow.{are_bytes}
use Rattle.basis.specs.Choice.{maybe, maybe-ind, cond_ind, is_some, first_number}
use Rattle.basis.specs.Logic.{is_true, true_is}
use Rattle.basis.specs.NumberLaws.{number_at_lt, bytes_drop}
use Rattle.basis.specs.ListLaws.{Each, each_nil}
use Rattle.basis.specs.Sizes.{position_width, position_at, body_at, positions, reply_header_size, reply_size, state_size}
use Rattle.model.specs.Run.{Run, fresh, Reply, Turn}
use Rattle.model.specs.Step.{Record, record_of}
use Rattle.model.proofs.Sound.{Sound}
use Rattle.layout.specs.Replies.{replies_bytes}
use Rattle.layout.specs.States.{encode, decode}
use Rattle.layout.specs.IsState.{is_state}
use Rattle.layout.specs.StateLaws.{state_encode}
use Rattle.layout.specs.StateSound.{state_sound}
use Rattle.calls.specs.Calls.{Bytes, FreshAnswer, fresh_answer, fresh_call, Lent, Answer, answer, number_of, in_turn, refusal_at, refusal, step_bytes, laid_over, turned_back, taken, take_call}
use Rattle.calls.proofs.ReturnLaws.{taken_number, refusal_number, taken_fit, refusal_none, call_reply_length}
use Rattle.calls.proofs.CallLaws.{passes_next, fresh_made, taken_by, take_sound}
use Rattle.calls.proofs.StateSteps.{fresh_state, step_state}
use Rattle.framing.specs.FrameLaws.{record_parts, record_short}
use Rattle.text.specs.Lines.{lines_of, refused_line}
use Rattle.text.specs.Written.{growth, Fits, Given}
use Rattle.text.specs.FitLaws.{step_fits}
use Rattle.cabinet.specs.Printed.{text_of, goes_on, Printed, printed, answered}

-- the replies of the call
abbrev pub replies_of : Lent → List Reply
replies_of l = (step_bytes (decode l.state) l.input).replies

-- ---- a taken call

taken_is : (l : Lent) → refusal l ≡ none → take_call l ≡ taken l
unfolding take_call
taken_is l e = rw e

bytes_fit : (s : Run) (x : Bytes) → Sound s → T (are_bytes x) → Each Fits (step_bytes s x).replies
unfolding step_bytes
bytes_fit s x f t =
    maybe-ind (λ (u : Turn). Each Fits u.replies) (record_of x) _ _ (λ e. each_nil Fits)
    (λ r e. let p = record_parts x r e in
    step_fits s r f (subst (λ (n : ℕ). n < positions) p.position (number_at_lt position_at position_width x t)) (subst (λ (b : List ℕ). T (are_bytes b)) p.body (bytes_drop body_at x t)))

laid_front : (new buffer : Bytes) → take (length new) (laid_over new buffer) ≡ new
unfolding laid_over
laid_front new buffer = take_at new (drop (length new) buffer) (length new) refl

taken_front : (l : Lent) → take (taken l).returned (taken l).reply ≡ replies_bytes (replies_of l)
unfolding taken
taken_front l = laid_front (replies_bytes (replies_of l)) l.reply

-- the reply buffer of a taken call begins with its replies
pub taken_given : (l : Lent) → T (are_bytes l.input) → refusal l ≡ none → Given (replies_of l) (take_call l).reply (take_call l).returned
taken_given l t e =
    let r = refusal_none l e in
    let k = taken_is l e in
    let fit : (take_call l).returned ≤ reply_size = rw k (taken_fit l r.0) in
    record {
      enough = omega (arith, r.1, call_reply_length l);
      replies = rw k (taken_front l);
      fits = bytes_fit (decode l.state) l.input (state_sound l.state r.0) t;
    }

-- and there are no more bytes of them than the least reply buffer has
pub taken_few : (l : Lent) → refusal l ≡ none → (take_call l).returned ≤ reply_size
taken_few l e = rw (taken_is l e) (taken_fit l (refusal_none l e).0)

-- ---- the number returned

-- what holds of the number of a failing check, and of that of a taken call
returned_ind : (P : ℕ → Type 0) (l : Lent) → (refusal l ≡ none → P (taken l).returned) → ((n : ℕ) → refusal l ≡ some n → P n) → P (take_call l).returned
unfolding take_call turned_back
returned_ind P l h k = maybe-ind (λ (a : Answer). P a.returned) (refusal l) (taken l) (turned_back l) h k

-- 1 to 5: the number of the check that fails
pub returned_refusal : (l : Lent) (n : ℕ) → n ≡ (take_call l).returned → 1 ≤ n → n ≤ 5 → refusal l ≡ some n
returned_refusal l n e low high =
    returned_ind (λ (m : ℕ). n ≡ m → refusal l ≡ some n) l (λ q f. none_of f (taken_number l)) (λ m q f. q ∙ ap some (sym f)) e
  where
    none_of : n ≡ (taken l).returned → ((taken l).returned ≡ 0) ⊎ (reply_header_size ≤ (taken l).returned) → refusal l ≡ some n
    none_of f (inl z) = absurd (omega arith)
    none_of f (inr z) = absurd (omega arith)

-- any other: none fails
pub returned_taken : (l : Lent) (n : ℕ) → n ≡ (take_call l).returned → (1 ≤ n → n ≤ 5 → ⊥) → refusal l ≡ none
returned_taken l n e other =
    returned_ind (λ (m : ℕ). n ≡ m → refusal l ≡ none) l (λ q f. q)
    (λ m q f. let r = refusal_number l m q in let low = r.0 in let high = r.1 in absurd (other (omega arith) (omega arith))) e

-- ---- the text, and whether the stream goes on

-- "Refusals 3 to 5 print `refused n`"
pub refused_text : (l : Lent) (n : ℕ) → refusal l ≡ some n → refused_line n ≡ text_of l
unfolding text_of
refused_text l n e = rw e

pub taken_text : (l : Lent) → refusal l ≡ none → lines_of (replies_of l) ≡ text_of l
unfolding text_of
taken_text l e = rw e

-- the number returned tells it
pub returned_more : (l : Lent) → not (eqb (take_call l).returned 3) ≡ goes_on l
unfolding goes_on
returned_more l =
    returned_ind (λ (n : ℕ). not (eqb n 3) ≡ maybe (refusal l) true (λ n. not (eqb n 3))) l
    (λ e. rw (e, not_three (taken_number l))) (λ n e. rw e)
  where
    not_three : ((taken l).returned ≡ 0) ⊎ (reply_header_size ≤ (taken l).returned) → eqb (taken l).returned 3 ≡ false
    not_three (inl z) = ne_eqb (taken l).returned 3 (λ q. omega arith)
    not_three (inr z) = ne_eqb (taken l).returned 3 (λ q. omega arith)

-- ---- what is put for the number returned

pub put_refused : (l : Lent) (n : ℕ) (text : Bytes) → n ≡ (take_call l).returned → 1 ≤ n → n ≤ 5 → text ≡ refused_line n → text ≡ text_of l
put_refused l n text e low high put = put ∙ refused_text l n (returned_refusal l n e low high)

pub put_taken : (l : Lent) (n room : ℕ) (reply text : Bytes) → T (are_bytes l.input) → n ≡ (take_call l).returned → reply ≡ (take_call l).reply → (1 ≤ n → n ≤ 5 → ⊥) → growth * reply_size ≤ room
    → ((rs : List Reply) → Given rs reply n → growth * n ≤ room → text ≡ lines_of rs) → text ≡ text_of l
put_taken l n room reply text t e f other enough put =
    let q = returned_taken l n e other in
    let few = taken_few l q in
    put (replies_of l) (rw (e, f) (taken_given l t q)) (omega arith) ∙ taken_text l q

-- ---- what answers the bytes read

pub answered_none : (l : Lent) → length l.input ≡ 0 → printed l.state [] false ≡ answered l
unfolding answered
answered_none l e = rw e

pub answered_call : (l : Lent) (n : ℕ) (state reply text : Bytes) → length l.input ≢ 0 → answer n state reply ≡ take_call l
    → (n ≡ (take_call l).returned → reply ≡ (take_call l).reply → text ≡ text_of l) → printed state text (not (eqb n 3)) ≡ answered l
unfolding answered
answered_call l n state reply text some_bytes e put =
    let returned : n ≡ (take_call l).returned = ap (λ (a : Answer). a.returned) e in
    let state_is : state ≡ (take_call l).state = ap (λ (a : Answer). a.state) e in
    let reply_is : reply ≡ (take_call l).reply = ap (λ (a : Answer). a.reply) e in
    let text-is = put returned reply_is in
    rw (ne_eqb (length l.input) 0 some_bytes, state_is, text-is, returned, returned_more l)

-- ---- on a state, and with room for the replies

call_state : (l : Lent) → T (is_state l.state) → T (are_bytes l.input) → T (is_state (take_call l).state)
call_state l i t =
    let s = decode l.state in
    let f = state_sound l.state i in
    rw (take_sound s l f (sym (state_encode l.state i)))
    (maybe-ind (λ (a : Answer). T (is_state a.state)) (refusal_at s.last l.input l.reply) (taken_by s l) (turned_back l)
    (λ e. true_is (is_state (encode (step_bytes s l.input).run)) (step_state s l.input f t (passes_next s.last l.input l.reply e)))
    (λ n e. unfold turned_back in i))

-- it stays a state
pub answered_state : (l : Lent) → T (is_state l.state) → T (are_bytes l.input) → T (is_state (answered l).state)
unfolding answered
answered_state l i t = cond_ind (λ (p : Printed). T (is_state p.state)) (eqb (length l.input) 0) _ _ (λ e. i) (λ e. call_state l i t)

refusal_of_lem : (l : Lent) → T (is_state l.state) → reply_size ≤ length l.reply → refusal l ≡ in_turn (decode l.state).last (number_of l.input)
unfolding refusal refusal_at
refusal_of_lem l i r = rw (is_true (is_state l.state) i, le-ltb (length l.reply) reply_size r)

turn_numbers : (last : ℕ) (o : Option ℕ) (n : ℕ) → in_turn last o ≡ some n → (3 ≤ n) × (n ≤ 5)
unfolding in_turn first_number
turn_numbers last none n e = let k = some-injective 3 n e in (omega arith, omega arith)
turn_numbers last (some m) n e = go (leb m last) (ltb (suc last) m) e
  where
    go : (a b : Bool) → cond a (some 4) (cond b (some 5) none) ≡ some n → (3 ≤ n) × (n ≤ 5)
    go true b e = let k = some-injective 4 n e in (omega arith, omega arith)
    go false true e = let k = some-injective 5 n e in (omega arith, omega arith)
    go false false e = absurd (none-ne-some n e)

-- "Refusals 3 to 5": no others are printed
pub refusals_3_to_5 : (l : Lent) (n : ℕ) → T (is_state l.state) → reply_size ≤ length l.reply → refusal l ≡ some n → (3 ≤ n) × (n ≤ 5)
refusals_3_to_5 l n i r e = turn_numbers (decode l.state).last (number_of l.input) n (sym (refusal_of_lem l i r) ∙ e)

turn_more : (last : ℕ) (x : Bytes) → maybe (in_turn last (number_of x)) true (λ n. not (eqb n 3)) ≡ is_some (record_of x)
unfolding in_turn first_number number_of is_some
turn_more last x = go (record_of x)
  where
    in_turn_lem : (a b : Bool) → maybe (cond a (some 4) (cond b (some 5) none)) true (λ n. not (eqb n 3)) ≡ true
    in_turn_lem true b = refl
    in_turn_lem false true = refl
    in_turn_lem false false = refl

    go : (o : Option Record) → maybe (in_turn last (maybe o none (λ r. some r.position))) true (λ n. not (eqb n 3)) ≡ is_some o
    go none = refl
    go (some r) = in_turn_lem (leb r.position last) (ltb (suc last) r.position)

-- the stream goes on exactly where the bytes read are a record
pub answered_more : (l : Lent) → T (is_state l.state) → reply_size ≤ length l.reply → (answered l).more ≡ is_some (record_of l.input)
unfolding answered goes_on
answered_more l i r =
    cond_ind (λ (p : Printed). p.more ≡ is_some (record_of l.input)) (eqb (length l.input) 0) _ _
    (λ e. let z = eqb-true (length l.input) 0 e in record_short l.input (omega arith))
    (λ e. rw (refusal_of_lem l i r) (turn_more (decode l.state).last l.input))

-- what one turn leaves: a state, and whether there was a record
pub turn_leaves : (l : Lent) (state text : Bytes) (more : Bool) → T (is_state l.state) → reply_size ≤ length l.reply → T (are_bytes l.input) → printed state text more ≡ answered l
    → T (is_state state) × (more ≡ is_some (record_of l.input))
turn_leaves l state text more i r t e = (
  subst (λ (p : Printed). T (is_state p.state)) (sym e) (answered_state l i t),
  ap (λ (p : Printed). p.more) e ∙ answered_more l i r,
)

-- ---- "starts from the fresh state"

pub fresh_leaves : (n : ℕ) (before state : Bytes) → length before ≡ state_size → fresh_answer n state ≡ fresh_call before → state ≡ encode fresh
fresh_leaves n before state size e = ap (λ (a : FreshAnswer). a.state) e ∙ fresh_made before size

pub fresh_begins : (state : Bytes) → state ≡ encode fresh → T (is_state state)
fresh_begins state e = rw e (true_is (is_state (encode fresh)) fresh_state)
