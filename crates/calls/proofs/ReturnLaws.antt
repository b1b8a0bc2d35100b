-- What a call returns, and the length of the reply buffer it leaves. Assumes nothing.
use Rattle.std.specs.Prelude.{◌≡◌, refl, ◌⊎◌, ℕ, suc, ◌+◌, ◌≤◌, Bool, true, false, cond, length, drop, T, leb, ltb}
use Rattle.std.proofs.Common.{sym, subst, inl, inr, le_trans, arith, length-append, length-drop, ltb-false}
use Rattle.std.proofs.Math.Option.{Option, none, some, none-ne-some}
use mathlib.Core.List.{List, [], ◌∷◌, ◌++◌, flat_map}
use Rattle.basis.specs.Choice.{maybe-ind, cond_ind, first_number}
use Rattle.basis.specs.Sizes.{most_waiting, reply_header_size, reply_size}
use Rattle.model.specs.Run.{Run, Turn}
use Rattle.model.specs.Step.{record_of}
use Rattle.model.proofs.ValidLaws.{valid_waiting_count}
use Rattle.layout.specs.Replies.{replies_bytes}
use Rattle.layout.specs.ReplyLaws.{replies_took, step_replies_fit}
use Rattle.layout.specs.States.{decode}
use Rattle.layout.specs.StateLaws.{state_valid}
use Rattle.layout.specs.IsState.{is_state}
use Rattle.calls.specs.Calls.{Bytes, Lent, Answer, number_of, in_turn, refusal_at, refusal, step_bytes, laid_over, turned_back, taken, take_call}

-- a taken call returns no number from 1 to 5
pub taken_number : (l : Lent) → ((taken l).returned ≡ 0) ⊎ (reply_header_size ≤ (taken l).returned)
unfolding taken
taken_number l = replies_took (step_bytes (decode l.state) l.input).replies

abbrev OneToFive : Option ℕ → Type 0
OneToFive none = Unit {0}
OneToFive (some n) = (1 ≤ n) × (n ≤ 5)

in_turn_number : (last : ℕ) (o : Option ℕ) → OneToFive (in_turn last o)
unfolding in_turn first_number
in_turn_number last none = (omega arith, omega arith)
in_turn_number last (some n) =
    cond_ind OneToFive (leb n last) (some 4) (cond (ltb (suc last) n) (some 5) none) (λ e. (omega arith, omega arith))
    (λ e. cond_ind OneToFive (ltb (suc last) n) (some 5) none (λ q. (omega arith, omega arith)) (λ q. tt))

refusal_one_to_five : (l : Lent) → OneToFive (refusal l)
unfolding refusal refusal_at
refusal_one_to_five l =
    let last = (decode l.state).last in
    cond_ind OneToFive (is_state l.state) (refusal_at last l.input l.reply) (some 1)
    (λ e. cond_ind OneToFive (ltb (length l.reply) reply_size) (some 2) (in_turn last (number_of l.input)) (λ q. (omega arith, omega arith)) (λ q. in_turn_number last (number_of l.input)))
    (λ e. (omega arith, omega arith))

-- a call that is turned back returns one of them
pub refusal_number : (l : Lent) (n : ℕ) → refusal l ≡ some n → (1 ≤ n) × (n ≤ 5)
refusal_number l n e = subst OneToFive e (refusal_one_to_five l)

step_bytes_fit : (s : Run) (input : Bytes) → length s.waiting ≤ most_waiting → length (replies_bytes (step_bytes s input).replies) ≤ reply_size
unfolding step_bytes
step_bytes_fit s input l =
    maybe-ind (λ (t : Turn). length (replies_bytes t.replies) ≤ reply_size) (record_of input) _ _
    (λ e. unfold replies_bytes flat_map in omega arith)
    (λ r e. step_replies_fit s r l)

-- a call on a state returns at most 3,564
pub taken_fit : (l : Lent) → T (is_state l.state) → (taken l).returned ≤ reply_size
unfolding taken
taken_fit l t = let s = decode l.state in step_bytes_fit s l.input (valid_waiting_count s (state_valid l.state t))

-- a call that is taken was given a state and room for the replies
pub refusal_none : (l : Lent) → refusal l ≡ none → T (is_state l.state) × (reply_size ≤ length l.reply)
unfolding refusal refusal_at
refusal_none l e = go (is_state l.state) (ltb (length l.reply) reply_size) refl e
  where
    last : ℕ
    last = (decode l.state).last

    go : (t u : Bool) → ltb (length l.reply) reply_size ≡ u → cond t (cond u (some 2) (in_turn last (number_of l.input))) (some 1) ≡ none → T t × (reply_size ≤ length l.reply)
    go true false q e = (tt, ltb-false (length l.reply) reply_size q)
    go true true q e = absurd (none-ne-some 2 (sym e))
    go false u q e = absurd (none-ne-some 1 (sym e))

laid_over_length : (new buffer : Bytes) → length new ≤ length buffer → length (laid_over new buffer) ≡ length buffer
unfolding laid_over
laid_over_length new buffer h = omega (arith, length-append new (drop (length new) buffer), length-drop (length new) buffer)

taken_reply_length : (l : Lent) → T (is_state l.state) → reply_size ≤ length l.reply → length (taken l).reply ≡ length l.reply
unfolding taken
taken_reply_length l t h = laid_over_length (replies_bytes (step_bytes (decode l.state) l.input).replies) l.reply (le_trans (taken_fit l t) h)

-- no call changes the length of the reply buffer
pub call_reply_length : (l : Lent) → length (take_call l).reply ≡ length l.reply
unfolding take_call turned_back
call_reply_length l =
    maybe-ind (λ (a : Answer). length a.reply ≡ length l.reply) (refusal l) (taken l) (turned_back l)
    (λ e. let r = refusal_none l e in taken_reply_length l r.0 r.1) (λ n e. refl)
