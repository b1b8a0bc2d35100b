-- A legal body that is read and written anew. Assumes nothing.
use Rattle.std.proofs.Math.Path.{◌≡◌, refl}
use Rattle.std.proofs.Common.{sym, ◌∙◌, arith}
use Rattle.std.specs.Prelude.{ℕ, Bool, ◌&&◌, List, ◌++◌, length, leb, Result, Ok, Err}
use Rattle.std.proofs.Math.Bool.{true, false, cond}
use Rattle.std.proofs.Math.Option.{Option, none, some}
use Rattle.std.proofs.Math.ListN.{drop}
use borrow.Author.Tests.{le-leb}
use Rattle.model.specs.Legal.{legal_body}
use Rattle.writer.specs.declared.Reason.{Reason}
use Rattle.answers.specs.Settled.{refusal_of, settled_room}

-- a count of filled bytes, where it was done, and the buffer's bytes
pub record Copied : Type 0 where
  pub fill : Option ℕ
  pub bytes : List ℕ

-- the count, whatever the reason where there is none
abbrev pub done : Result ℕ Reason → Option ℕ
done (Ok n) = some n
done (Err reason) = none

abbrev pub copied : Option ℕ → List ℕ → Copied
copied n bytes = record { fill = n; bytes = bytes }

-- a legal body stands at the front of a buffer that has room for it, bytes past it unchanged; else the buffer is unchanged
unfoldable pub rewritten : (body out : List ℕ) → Copied
rewritten body out = cond (legal_body body && leb (length body) (length out)) (copied (some (length body)) (body ++ drop (length body) out)) (copied none out)

module _ (body out : List ℕ) (r : ℕ) (e : r ≡ refusal_of (legal_body body) (length body) (length out)) where
  -- "refused 6, then a short buffer 2"
  pub not_copied : (r ≡ 0 → ⊥) → copied none out ≡ rewritten body out
  unfolding rewritten refusal_of
  not_copied n = go (legal_body body) (leb (length body) (length out)) e
    where
      go : (l s : Bool) → r ≡ cond l (cond s 0 2) 6 → copied none out ≡ cond (l && s) (copied (some (length body)) (body ++ drop (length body) out)) (copied none out)
      go true true e = absurd (n e)
      go true false e = refl
      go false s e = refl

  pub copied_legal : r ≡ 0 → legal_body body ≡ true
  unfolding refusal_of
  copied_legal z = go (legal_body body) (leb (length body) (length out)) refl (sym e ∙ z)
    where
      go : (l s : Bool) → legal_body body ≡ l → ◌≡◌ {A = ℕ} (cond l (cond s 0 2) 6) 0 → legal_body body ≡ true
      go true s q h = q
      go false s q h = absurd (omega arith)

  pub all_copied : (n : ℕ) (after : List ℕ) → r ≡ 0 → n ≡ length body → after ≡ body ++ drop (length body) out → copied (some n) after ≡ rewritten body out
  unfolding rewritten
  all_copied n after z q s = rw (copied_legal z, le-leb (length body) (length out) (settled_room (legal_body body) (length body) (length out) r e z), q, s)
