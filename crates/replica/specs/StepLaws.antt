-- A record's bytes as a step. Assumes nothing.
use Rattle.std.specs.Prelude.{◌≡◌, ℕ, suc, ◌-◌, ◌≤◌, List, length, take, drop}
use Rattle.std.proofs.Common.{sym, subst, ◌∙◌, arith}
use Rattle.std.proofs.Math.Option.{none, some, some-injective, none-ne-some}
use Rattle.basis.specs.Sizes.{mark_width, body_at}
use Rattle.model.specs.Run.{Run, with_last, Turn}
use Rattle.model.specs.Step as model
use Rattle.model.specs.Step.{Record, mark_of, record_of, step}
use Rattle.layout.specs.States.{decode}
use Rattle.layout.specs.Stored.{Stored, IsStored, Turned}
use Rattle.calls.specs.Calls.{Bytes, number_of, step_bytes}
use Rattle.calls.proofs.CallLaws.{numbered}
use Rattle.header.specs.StoredLaws.{stored_says}
use Rattle.framing.specs.declared.Mark.{Mark}
use Rattle.framing.specs.Marks.{marked}
use Rattle.framing.specs.FrameLaws.{record_parts}
use Rattle.wakes.specs.Settling.{rest_lent}
use Rattle.replica.specs.Asks.{asked, Later}

-- ---- a record's bytes

-- bytes that have a number: their mark, their length, and what a run does with them
pub record Read (x : Bytes) (n : ℕ) : Type 0 where
  pub mark : model.Mark
  pub marked : mark_of (take mark_width x) ≡ some mark
  pub long : body_at ≤ length x
  pub turn : (s : Run) → step_bytes s x ≡ asked mark (drop body_at x) (with_last s n)

step_asked : (s : Run) (x : Bytes) (r : Record) → record_of x ≡ some r → step_bytes s x ≡ asked r.mark r.body (with_last s r.position)
unfolding step_bytes step asked
step_asked s x r e = rw e

pub record_read : (x : Bytes) (n : ℕ) → number_of x ≡ some n → Read x n
record_read x n e =
    let k = numbered x n e in
    let f = record_parts x k.item k.read in
    record {
      mark = k.item.mark;
      marked = f.marked;
      long = omega (arith, f.size);
      turn = λ s. step_asked s x k.item k.read ∙ (λ i. asked k.item.mark (sym f.body i) (with_last s (k.number i)));
    }

-- ---- a step

-- the mark that the code has of it
mark_read : (x : Bytes) (n : ℕ) (m : Mark) (h : Read x n) → some (marked m) ≡ mark_of (take mark_width x) → marked m ≡ h.mark
mark_read x n m h e = some-injective (marked m) h.mark (e ∙ h.marked)

-- it has one
pub mark_known : (x : Bytes) (n : ℕ) (h : Read x n) → none ≡ mark_of (take mark_width x) → ⊥
mark_known x n h e = none-ne-some h.mark (e ∙ h.marked)

module _ (b b' : List ℕ) (st : Stored b' (with_last (decode b) (suc (decode b).last))) where
  pub set_later : IsStored b → Later (decode b')
  set_later h = rw (stored_says b' (with_last (decode b) (suc (decode b).last)) st) (record { above = omega arith; older = λ w m. omega (arith, (h.fit.waiting.each w m).late) })

  pub step_done : (x : List ℕ) (m : Mark) (h : Read x (suc (decode b).last)) (buffer state out : List ℕ) (r : ℕ) → some (marked m) ≡ mark_of (take mark_width x)
      → Turned (asked (marked m) (take (length x - body_at) (drop body_at x)) (decode b')) buffer state out r → Turned (step_bytes (decode b) x) buffer state out r
  step_done x m h buffer state out r em t =
      let d : decode b' ≡ with_last (decode b) (suc (decode b).last) = stored_says b' (with_last (decode b) (suc (decode b).last)) st in
      subst (λ (u : Turn). Turned u buffer state out r) ((λ i. asked (mark_read x _ m h em i) (rest_lent body_at x i) (d i)) ∙ sym (h.turn (decode b))) t
