-- All turns of rule 7: the replies one after the other in the reply buffer. Assumes nothing.
use Rattle.std.specs.Prelude.{◌≡◌, refl, ℕ, suc, ◌+◌, ◌-◌, ◌≤◌, length, take, drop}
use Rattle.std.proofs.Common.{sym, ap, subst, ◌∙◌, arith, length-append, length-drop, take-append-drop, drop_of_length-le, drop-drop, drop_at, take_at, take_all, length-take-le}
use Rattle.std.proofs.Math.Option.{none, some}
use mathlib.Core.List.{List, [], ◌++◌, flat_map, append_assoc, append-nil}
use Rattle.model.specs.Run.{Run, laid, Reply, Turn, wake, continued, settle}
use Rattle.model.proofs.Debts.{laid_waiting}
use Rattle.model.proofs.Settle.{wake_none, wake_shorter, settle_of_calm, settle_turn}
use Rattle.layout.specs.States.{decode}
use Rattle.layout.specs.Replies.{reply_bytes, replies_bytes}
use Rattle.layout.specs.Stored.{Stored, Turned}
use Rattle.sections.specs.RowLaws.{flat_map_append}
use Rattle.header.specs.StoredLaws.{stored_says}
use Rattle.running.specs.Executed.{still}
use Rattle.wakes.specs.Woken.{Further, woken}
use Rattle.wakes.specs.Turns.{told_none, told_some}

settle_none : (s : Run) → wake s ≡ none → settle s ≡ record { run = s; replies = [] }
settle_none s e = settle_of_calm s (wake_none s e)

settle_some : (s : Run) (t : Turn) → wake s ≡ some t → settle s ≡ record { run = (settle (laid t.run)).run; replies = t.replies ++ (settle (laid t.run)).replies }
unfolding continued
settle_some s t e = settle_turn s t e

-- ---- the replies so far

-- the replies told so far stand past own bytes of the buffer; those of the rest are to come, once what s owes is laid
pub record Midway (s₀ s : Run) (own at : ℕ) (buffer out : List ℕ) : Type 0 where
  pub told : List Reply
  pub run : (settle (laid s₀)).run ≡ (settle (laid s)).run
  pub replies : (settle (laid s₀)).replies ≡ told ++ (settle (laid s)).replies
  pub bytes : out ≡ take own buffer ++ (replies_bytes told ++ drop (length (replies_bytes told)) (drop own buffer))
  pub number : at ≡ own + length (replies_bytes told)

pub midway_start : (s : Run) (own : ℕ) (buffer : List ℕ) → Midway s s own own buffer buffer
unfolding replies_bytes flat_map
midway_start s own buffer = record { told = []; run = refl; replies = refl; bytes = sym (take-append-drop own buffer); number = omega arith }

midway_turn : (s₀ s : Run) (own at n : ℕ) (buffer out out' : List ℕ) → own ≤ length buffer → Midway s₀ s own at buffer out → wake (laid s) ≡ some (woken (laid s)) → n ≡ length (replies_bytes (woken (laid s)).replies)
    → out' ≡ take at out ++ (replies_bytes (woken (laid s)).replies ++ drop (length (replies_bytes (woken (laid s)).replies)) (drop at out)) → Midway s₀ (woken (laid s)).run own (at + n) buffer out'
unfolding replies_bytes
midway_turn s₀ s own at n buffer out out' room m e en eo =
    let rs : List Reply = (woken (laid s)).replies in
    let B : List ℕ = flat_map reply_bytes m.told in
    let R : List ℕ = flat_map reply_bytes rs in
    let rest : List ℕ = drop own buffer in
    let st = settle_some (laid s) (woken (laid s)) e in
    let both : flat_map reply_bytes (m.told ++ rs) ≡ B ++ R = flat_map_append reply_bytes m.told rs in
    let lf : length (take own buffer ++ B) ≡ at = length-append (take own buffer) B ∙ omega (arith, length-take-le own buffer room, m.number) in
    let now : out ≡ (take own buffer ++ B) ++ drop (length B) rest = m.bytes ∙ sym (append_assoc (take own buffer) B (drop (length B) rest)) in
    let front : take at out ≡ take own buffer ++ B = ap (take at) now ∙ take_at (take own buffer ++ B) (drop (length B) rest) at lf in
    let back : drop at out ≡ drop (length B) rest = ap (drop at) now ∙ drop_at (take own buffer ++ B) (drop (length B) rest) at lf in
    let past : drop (length R) (drop (length B) rest) ≡ drop (length (B ++ R)) rest = drop-drop (length R) (length B) rest ∙ ap (λ (k : ℕ). drop k rest) (sym (length-append B R)) in
    record {
      told = m.told ++ rs;
      run = m.run ∙ ap (λ (t : Turn). t.run) st;
      replies = m.replies ∙ ap (λ (t : Turn). m.told ++ t.replies) st ∙ sym (append_assoc m.told rs (settle (laid (woken (laid s)).run)).replies);
      bytes = eo ∙ (λ i. front i ++ (R ++ drop (length R) (back i))) ∙ append_assoc (take own buffer) B (R ++ drop (length R) (drop (length B) rest))
          ∙ ap (λ (l : List ℕ). take own buffer ++ l) (sym (append_assoc B R (drop (length R) (drop (length B) rest))) ∙ (λ i. sym both i ++ past i) ∙ ap (λ (k : ℕ). flat_map reply_bytes (m.told ++ rs) ++ drop k rest) (ap length (sym both)));
      number = omega (arith, m.number, en, ap length both, length-append B R);
    }

midway_end : (s₀ s : Run) (own at : ℕ) (buffer state out : List ℕ) → Midway s₀ s own at buffer out → wake (laid s) ≡ none → Stored state (laid s) → Further (settle (laid s₀)) own buffer state out at
midway_end s₀ s own at buffer state out m e h =
    let z = settle_none (laid s) e in
    let all : (settle (laid s₀)).replies ≡ m.told = m.replies ∙ ap (λ (t : Turn). m.told ++ t.replies) z ∙ append-nil m.told in
    record {
      stored = rw (m.run, z) h;
      bytes = rw all m.bytes;
      number = rw all m.number;
    }

-- ---- a turn on the rest of the reply buffer

pub rest_lent : (at : ℕ) (out : List ℕ) → take (length out - at) (drop at out) ≡ drop at out
rest_lent at out = take_all (length out - at) (drop at out) (rw length-drop (omega arith))

rest_back : (k : ℕ) (out p : List ℕ) → take k out ++ (p ++ drop (length out - k) (drop k out)) ≡ take k out ++ p
rest_back k out p =
    let h : length (drop k out) ≤ length out - k = rw length-drop (omega arith) in
    ap (λ (l : List ℕ). take k out ++ l) (ap (λ (l : List ℕ). p ++ l) (drop_of_length-le (drop k out) h) ∙ append-nil p)

-- where none is woken, all stays
still_left : (s : Run) (buffer state out : List ℕ) (n : ℕ) → wake s ≡ none → Turned (woken s) buffer state out n → Stored state s × (out ≡ buffer)
unfolding woken still replies_bytes flat_map
still_left s buffer state out n e t = let k = rw e at t in (k.stored, k.bytes)

-- one is woken: the queue is shorter
pub turn_shorter : (s : Run) (buffer state out : List ℕ) (n : ℕ) → Turned (woken (laid s)) buffer state out n → (n ≡ 0 → ⊥) → suc (length (decode state).waiting) ≡ length s.waiting
turn_shorter s buffer state out n r z = rw (stored_says state _ r.stored) (wake_shorter (laid s) (woken (laid s)) (told_some (laid s) n r.number z) ∙ ap length (laid_waiting s))

module _ (s₀ s : Run) (own at : ℕ) (buffer out : List ℕ) (m : Midway s₀ s own at buffer out) where
  -- one is woken: its reply stands past those told
  pub turn_more : (state p : List ℕ) (n : ℕ) → own ≤ length buffer → Turned (woken (laid s)) (take (length out - at) (drop at out)) state p n → (n ≡ 0 → ⊥)
      → Midway s₀ (decode state) own (at + n) buffer (take at out ++ (p ++ drop (length out - at) (drop at out)))
  turn_more state p n room r z =
      let R : List ℕ = replies_bytes (woken (laid s)).replies in
      let e : p ≡ R ++ drop (length R) (drop at out) = r.bytes ∙ ap (λ (l : List ℕ). R ++ drop (length R) l) (rest_lent at out) in
      subst (λ (u : Run). Midway s₀ u own (at + n) buffer (take at out ++ (p ++ drop (length out - at) (drop at out)))) (sym (stored_says state _ r.stored))
      (midway_turn s₀ s own at n buffer out (take at out ++ (p ++ drop (length out - at) (drop at out))) room m (told_some (laid s) n r.number z) r.number (rest_back at out p ∙ ap (λ (l : List ℕ). take at out ++ l) e))

  -- none is: all is told, whatever part was lent
  pub turn_end : (state p : List ℕ) (n k : ℕ) → Turned (woken (laid s)) (take (length out - k) (drop k out)) state p n → n ≡ 0
      → Further (settle (laid s₀)) own buffer state (take k out ++ (p ++ drop (length out - k) (drop k out))) at
  turn_end state p n k r z =
      let w : wake (laid s) ≡ none = told_none (laid s) n r.number z in
      let q = still_left (laid s) (take (length out - k) (drop k out)) state p n w r in
      let e : take k out ++ (p ++ drop (length out - k) (drop k out)) ≡ out = rest_back k out p ∙ ap (λ (l : List ℕ). take k out ++ l) (q.1 ∙ rest_lent k out) ∙ take-append-drop k out in
      rw e (midway_end s₀ s own at buffer state out m w q.0)
