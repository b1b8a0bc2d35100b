-- The checks 1 to 5, and the call for a record. Assumes nothing.
use Rattle.std.specs.Prelude.{◌≡◌, ℕ, suc, ◌≤◌, Bool, true, false, List, length, T}
use Rattle.std.proofs.Math.Path.{sym, ap}
use Rattle.std.proofs.Common.{◌∙◌}
use Rattle.std.proofs.Math.Option.{Option, none, some}
use Rattle.basis.specs.Logic.{is_true}
use Rattle.basis.specs.Sizes.{reply_size}
use Rattle.model.proofs.Fit.{sound_fit}
use Rattle.layout.specs.States.{decode}
use Rattle.layout.specs.StateLaws.{state_encode}
use Rattle.layout.specs.StateSound.{state_sound}
use Rattle.layout.specs.IsState.{is_state}
use Rattle.layout.specs.Stored.{IsStored, Turned}
use Rattle.header.specs.RowLaws.{is_stored}
use Rattle.calls.specs.Calls.{Lent, lent, answer, number_of, refusal_at, refusal, step_bytes, laid_over, turned_back, taken, take_call}
use Rattle.calls.proofs.CallLaws.{passes_next}
use Rattle.calls.proofs.ReturnLaws.{refusal_none}

-- ---- checks 1 to 5

module _ (b x y : List ℕ) (r : Bool) (e : r ≡ is_state b) where
  pub back_1 : r ≡ false → some 1 ≡ refusal (lent b x y)
  unfolding refusal
  back_1 z = sym (rw (← e, z))

  -- those after the first go by the last position taken
  pub back_at : (last : ℕ) (k : Option ℕ) → r ≡ true → last ≡ (decode b).last → k ≡ refusal_at last x y → k ≡ refusal (lent b x y)
  unfolding refusal
  back_at last k z el ek = ek ∙ ap (λ (n : ℕ). refusal_at n x y) el ∙ sym (rw (← e, z))

-- ---- the call

pub take_refused : (l : Lent) (k : ℕ) → some k ≡ refusal l → answer k l.state l.reply ≡ take_call l
unfolding take_call turned_back
take_refused l k e = sym (rw (← e))

pub take_done : (l : Lent) (state out : List ℕ) (n : ℕ) → none ≡ refusal l → Turned (step_bytes (decode l.state) l.input) l.reply state out n → answer n state out ≡ take_call l
unfolding take_call taken laid_over
take_done l state out n e t = rw (← e) (λ i. answer (t.number i) (t.stored.bytes i) (t.bytes i))

-- what a step rests on
pub record Ready (l : Lent) : Type 0 where
  pub stored : IsStored l.state
  pub number : number_of l.input ≡ some (suc (decode l.state).last)
  pub room : reply_size ≤ length l.reply

pub take_ready : (l : Lent) → none ≡ refusal l → Ready l
take_ready l e =
    let q = sym e in
    let r = refusal_none l q in
    record {
      stored = is_stored l.state (decode l.state) (sym (state_encode l.state r.0)) (sound_fit (decode l.state) (state_sound l.state r.0));
      number = passes_next (decode l.state).last l.input l.reply (at_none l r.0 q);
      room = r.1;
    }
  where
    at_none : (l : Lent) → T (is_state l.state) → refusal l ≡ none → refusal_at (decode l.state).last l.input l.reply ≡ none
    at_none l t q = unfold refusal in rw (is_true (is_state l.state) t) at q
