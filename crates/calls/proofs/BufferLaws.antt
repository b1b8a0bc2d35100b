-- What a call leaves in the buffers lent to it. Assumes nothing.
use Rattle.std.specs.Prelude.{◌≡◌, refl, ℕ, length, drop}
use Rattle.std.proofs.Math.Option.{some}
use Rattle.std.proofs.Common.{drop_at}
use Rattle.basis.specs.Choice.{maybe-ind}
use Rattle.layout.specs.Replies.{replies_bytes}
use Rattle.layout.specs.States.{decode}
use Rattle.calls.specs.Calls.{Bytes, Lent, Answer, refusal, step_bytes, laid_over, turned_back, taken, take_call}

-- "1 to 5: the call changes no byte"
pub turned_back_unchanged : (l : Lent) (n : ℕ) → refusal l ≡ some n → take_call l ≡ record { returned = n; state = l.state; reply = l.reply }
unfolding take_call turned_back
turned_back_unchanged l n e = rw e

laid_over_past : (new buffer : Bytes) → drop (length new) (laid_over new buffer) ≡ drop (length new) buffer
unfolding laid_over
laid_over_past new buffer = drop_at new (drop (length new) buffer) (length new) refl

-- "leaves the reply buffer past that count unchanged"; a call that is turned back leaves all of it
pub reply_past_unchanged : (l : Lent) → drop (take_call l).returned (take_call l).reply ≡ drop (take_call l).returned l.reply
unfolding take_call taken turned_back
reply_past_unchanged l =
    maybe-ind (λ (a : Answer). drop a.returned a.reply ≡ drop a.returned l.reply) (refusal l) (taken l) (turned_back l)
    (λ e. laid_over_past (replies_bytes (step_bytes (decode l.state) l.input).replies) l.reply)
    (λ n e. refl)
