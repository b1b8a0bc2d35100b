-- What a call gives back is what the writer then holds, and a refusal stays. Assumes nothing.
use Rattle.std.specs.Prelude.{◌≡◌, List, ℕ, Result, Ok, Err}
use Rattle.std.proofs.Common.{sym, ap, ◌∙◌, arith}
use denote.Ref.{MutBor, at_last}
use Rattle.statements.specs.declared.Operation.{Operation}
use Rattle.writer.specs.Writer.{Written, Added, written_is}
use Rattle.chains.specs.Chains.{onward}
use Rattle.chains.specs.ChainLaws.{refusal_stays, goes_on_lem}
use Rattle.carried.specs.declared.stopped.Stopped.{Stopped}
use Rattle.carried.specs.declared.Writer.{Writer}
use Rattle.carried.specs.Held.{so_far, Holds, shown}

-- what came back goes into the struct, beside the buffer at its last bytes
pub held_after : (buffer : MutBor (List ℕ)) (r : Result ℕ Stopped) (a : Added) (bytes : List ℕ) (o : Written) → so_far r ≡ a → written_is a bytes ≡ o → Holds buffer o (record { buffer = at_last buffer bytes; filled = r })
unfolding written_is
held_after buffer r a bytes o k e =
    let s : written_is (so_far r) bytes ≡ o = ap (λ (x : Added). written_is x bytes) k ∙ e in
    record { lent = ap (λ (v : Written). at_last buffer v.bytes) s; left = s }

module _ (add : (buffer : List ℕ) (fill : ℕ) → Operation → Written) (w : Writer) (x : Operation) where
  refused_answer : (e : Stopped) → w.filled ≡ Err e → (shown w).answer ≡ 0 → ⊥
  unfolding written_is
  refused_answer e q z = absurd (omega (arith, e.refused, sym (ap (λ (r : Result ℕ Stopped). (so_far r).answer) q) ∙ z))

  -- after a refusal
  pub held_refused : (e : Stopped) → w.filled ≡ Err e → Holds w.buffer (onward add (shown w) x) w
  unfolding written_is
  held_refused e q =
      let s : onward add (shown w) x ≡ shown w = refusal_stays add (shown w) x (refused_answer e q) in
      record { lent = ap (λ (v : Written). at_last w.buffer v.bytes) (sym s); left = sym s }

  -- where each call before was done
  pub held_onward : (n : ℕ) (r : Result ℕ Stopped) (a : Added) (bytes : List ℕ) → w.filled ≡ Ok n → so_far r ≡ a → written_is a bytes ≡ add w.buffer.now n x
      → Holds w.buffer (onward add (shown w) x) (record { buffer = at_last w.buffer bytes; filled = r })
  unfolding written_is
  held_onward n r a bytes q k e =
      let s : onward add (shown w) x ≡ add w.buffer.now n x = goes_on_lem add (shown w) x (ap (λ (r : Result ℕ Stopped). (so_far r).answer) q) ∙ ap (λ (r : Result ℕ Stopped). add w.buffer.now (so_far r).fill x) q in
      held_after w.buffer r a bytes _ k (e ∙ sym s)

-- a chain that is refused ends at its refusal
module _ (add : (buffer : List ℕ) (fill : ℕ) → Operation → Written) (w : Writer) (e : Stopped) (refused : w.filled ≡ Err e) where
  pub told_last : (bytes : List ℕ) (o : Written) → bytes ≡ w.buffer.now → shown w ≡ o → written_is (so_far (Err e)) bytes ≡ o
  told_last bytes o b s = ap (written_is (so_far (Err e))) b ∙ ap (λ (r : Result ℕ Stopped). written_is (so_far r) w.buffer.now) (sym refused) ∙ s

  pub told_before : (o : Written) (x : Operation) → shown w ≡ o → shown w ≡ onward add o x
  told_before o x s = sym (refusal_stays add (shown w) x (refused_answer add w x e refused)) ∙ ap (λ (v : Written). onward add v x) s
