-- What a composed body is answered, and what becomes of the buffer. Assumes nothing.
use Rattle.std.proofs.Math.Path.{◌≡◌, refl, ap}
use Rattle.std.proofs.Common.{sym, ◌∙◌, arith, le-leb, leb-true}
use Rattle.std.specs.Prelude.{Bool, ℕ, ◌≤◌, ◌<◌, leb, Result, Ok, Err}
use Rattle.std.proofs.Math.Bool.{true, false, cond}
use mathlib.Core.List.{List, ◌++◌}
use Rattle.std.proofs.Math.ListN.{length, drop}
use Rattle.std.proofs.lemmas.Bool.{lt-leb}
use Rattle.words.specs.Over.{over}
use Rattle.words.specs.OverLaws.{over_front}
use Rattle.model.specs.Legal.{legal_body}
use Rattle.std.specs.Result.{MatchResult, IsErrAnd}
use Rattle.std.proofs.lemmas.Result.{err_from_is_err_and}
use Rattle.writer.specs.declared.Reason.{Reason}
use Rattle.writer.specs.declared.WriteError.{WriteError}
use Rattle.writer.specs.Writer.{added, number, Written, written_is, refused_by, filled_with}
use Rattle.writer.specs.WriterLaws.{number_some}

-- the number that a composed body is refused by; 0: it is not
unfoldable pub refusal_of : (legal : Bool) (size most : ℕ) → ℕ
refusal_of legal size most = cond legal (cond (leb size most) 0 2) 6

pub refusal_legal : (legal : Bool) (size most : ℕ) → legal ≡ false → 6 ≡ refusal_of legal size most
unfolding refusal_of
refusal_legal legal size most e = rw e

pub refusal_room : (legal : Bool) (size most : ℕ) → legal ≡ true → most < size → 2 ≡ refusal_of legal size most
unfolding refusal_of
refusal_room legal size most e h = rw (e, lt-leb size most h)

pub refusal_none : (legal : Bool) (size most : ℕ) → legal ≡ true → size ≤ most → 0 ≡ refusal_of legal size most
unfolding refusal_of
refusal_none legal size most e h = rw (e, le-leb size most h)

-- the number that the code gives; 0: it gives none
abbrev pub refusal_is : Result (Unit {0}) Reason → ℕ
refusal_is (Ok done) = 0
refusal_is (Err reason) = number reason

-- what becomes of a buffer by a composed body
unfoldable pub settled : (buffer : List ℕ) (fill : ℕ) (body : List ℕ) → Written
settled buffer fill body = cond (legal_body body) (cond (leb (length body) (length buffer)) (filled_with buffer body) (refused_by 2 buffer fill)) (refused_by 6 buffer fill)

-- there is room for a body that is not refused
pub settled_room : (legal : Bool) (size most r : ℕ) → r ≡ refusal_of legal size most → r ≡ 0 → size ≤ most
unfolding refusal_of
settled_room legal size most r e z = go legal (leb size most) refl (sym e ∙ z)
  where
    go : (l s : Bool) → leb size most ≡ s → ◌≡◌ {A = ℕ} (cond l (cond s 0 2) 6) 0 → size ≤ most
    go true true q h = leb-true size most q
    go true false q h = absurd (omega arith)
    go false s q h = absurd (omega arith)

module _ (buffer : List ℕ) (fill : ℕ) (body : List ℕ) (r : ℕ) (e : r ≡ refusal_of (legal_body body) (length body) (length buffer)) where
  pub settled_refused : (r ≡ 0 → ⊥) → refused_by r buffer fill ≡ settled buffer fill body
  unfolding settled refusal_of
  settled_refused n = go (legal_body body) (leb (length body) (length buffer)) e
    where
      go : (l s : Bool) → r ≡ cond l (cond s 0 2) 6 → refused_by r buffer fill ≡ cond l (cond s (filled_with buffer body) (refused_by 2 buffer fill)) (refused_by 6 buffer fill)
      go true true e = absurd (n e)
      go true false e = ap (λ (k : ℕ). refused_by k buffer fill) e
      go false s e = ap (λ (k : ℕ). refused_by k buffer fill) e

  pub settled_done : (after : List ℕ) → r ≡ 0 → after ≡ over buffer 0 body (length body) → written_is (record { answer = 0; fill = length body }) after ≡ settled buffer fill body
  unfolding settled refusal_of written_is
  settled_done after z s = (ap (λ (l : List ℕ). written_is (record { answer = 0; fill = length body }) l) (s ∙ over_front buffer body (length body) refl)) ∙ go (legal_body body) (leb (length body) (length buffer)) (sym e ∙ z)
    where
      go : (l s : Bool) → ◌≡◌ {A = ℕ} (cond l (cond s 0 2) 6) 0
          → record { answer = 0; fill = length body; bytes = body ++ drop (length body) buffer } ≡ cond l (cond s (filled_with buffer body) (refused_by 2 buffer fill)) (refused_by 6 buffer fill)
      go true true h = unfold filled_with in refl
      go true false h = absurd (omega arith)
      go false s h = absurd (omega arith)

-- a refusal leaves the buffer
pub refused_is : (n : ℕ) (buffer : List ℕ) (fill : ℕ) → written_is (record { answer = n; fill = fill }) buffer ≡ refused_by n buffer fill
unfolding written_is refused_by
refused_is n buffer fill = refl

-- ---- a refusal with the fill beside it

-- what a composed body is refused with
abbrev pub refused_at : ℕ → Result (Unit {0}) Reason → Result (Unit {0}) WriteError
refused_at fill (Ok done) = Ok done
refused_at fill (Err reason) = Err (record { reason = reason; fill = fill })

pub refused_at_lem : (fill : ℕ) (r : Result (Unit {0}) Reason) (m : Result (Unit {0}) WriteError) {Q : Reason → WriteError → Type 0} → MatchResult r (λ x. m ≡ Ok x) (λ e. IsErrAnd m (Q e))
    → ((e : Reason) (d : WriteError) → Q e d → d ≡ record { reason = e; fill = fill }) → m ≡ refused_at fill r
refused_at_lem fill (Ok done) m h k = h
refused_at_lem fill (Err reason) m {Q} h k = let p = err_from_is_err_and {Q = Q reason} m h in p.1 ∙ ap Err (k reason p.0 p.2)

module _ (buffer : List ℕ) (fill : ℕ) (body : List ℕ) where
  pub settled_err : (r : Result (Unit {0}) Reason) (e : WriteError) → refusal_is r ≡ refusal_of (legal_body body) (length body) (length buffer) → refused_at fill r ≡ Err e
      → written_is (added (Err e)) buffer ≡ settled buffer fill body
  settled_err (Ok done) e s m = absurd cc
  settled_err (Err reason) e s m =
      let same : e ≡ record { reason = reason; fill = fill } = cc in
      ap (λ (d : WriteError). written_is (added (Err d)) buffer) same ∙ refused_is (number reason) buffer fill ∙ settled_refused buffer fill body (number reason) s (number_some reason)

pub none_refused : (fill : ℕ) (r : Result (Unit {0}) Reason) (done : Unit {0}) → refused_at fill r ≡ Ok done → refusal_is r ≡ 0
none_refused fill (Ok done) d m = refl
none_refused fill (Err reason) d m = absurd cc
