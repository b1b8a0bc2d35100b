-- The answer that the composed bytes get is the answer to the addition. Assumes nothing.
use Rattle.std.specs.Prelude.{◌≡◌, Bool, true, ◌&&◌, cond, List, ℕ, length, leb, Err}
use Rattle.std.proofs.Math.Path.{refl, ap}
use Rattle.std.proofs.Common.{◌∙◌, true≢false}
use Rattle.std.proofs.Math.Bool.{false}
use Rattle.std.proofs.Math.Option.{Option, none, some}
use Rattle.basis.specs.Choice.{maybe, is_some, provided}
use Rattle.basis.specs.Sizes.{most_body}
use Rattle.model.specs.Statement as model
use Rattle.model.specs.Statement.{Statement}
use Rattle.model.specs.Reading.{statement}
use Rattle.model.specs.Legal.{legal_statement, parse, legal_body}
use Rattle.model.specs.Writing.{statement_bytes}
use Rattle.model.proofs.RoundTrip.{FitsStatement, reads_whole, reads_statement, legal_fits}
use Rattle.statements.specs.declared.Operation.{Operation}
use Rattle.statements.specs.Flat.{operation_is}
use Rattle.writer.specs.declared.WriteError.{WriteError}
use Rattle.writer.specs.Writer.{is_handed, handed, begun, Written, added, written_is, is_writable, refused_by, written, held, begin_on, add_to}
use Rattle.composer.specs.Grown.{Grows}
use Rattle.answers.specs.Settled.{settled, refused_is}
use Rattle.composer.specs.Composed.{Begun, Composed}
use Rattle.additions.specs.Addable.{Addable}
use Rattle.writer.specs.HeldLaws.{handed_some, held_some, held_is}

-- the bytes of a statement that has room are a legal body exactly if it is writable
legal_is : (st : Statement) → FitsStatement st → legal_body (statement_bytes st) ≡ is_writable st
unfolding legal_body parse is_writable is_some provided
legal_is st f = rw (reads_whole statement (statement_bytes st) st (reads_statement st f)) (go (leb (length (statement_bytes st)) most_body) (legal_statement st))
  where
    go : (l t : Bool) → is_some (cond l (cond t (some st) none) none) ≡ (t && l)
    go true true = refl
    go true false = refl
    go false true = refl
    go false false = refl

-- so its answer is the statement's
written_is_lem : (buffer : List ℕ) (fill : ℕ) (st : Statement) → FitsStatement st → settled buffer fill (statement_bytes st) ≡ written buffer fill (some st)
unfolding settled written
written_is_lem buffer fill st f = rw (legal_is st f)

-- ---- an addition that is no operation

-- it is refused
refused_handed : (buffer : List ℕ) (fill : ℕ) (o : Operation) (grown : model.Operation → Statement) → is_handed o ≡ false
    → refused_by 6 buffer fill ≡ written buffer fill (maybe (handed o) none (λ x. some (grown x)))
unfolding handed provided written
refused_handed buffer fill o grown e = rw e

pub begin_no : (buffer : List ℕ) (h p : ℕ) (g : Operation) → is_handed g ≡ false → refused_by 6 buffer 0 ≡ begin_on buffer h p g
unfolding begin_on
begin_no buffer h p g e = refused_handed buffer 0 g (begun h p) e

module _ (grown : Statement → model.Operation → Statement) (buffer : List ℕ) (fill : ℕ) (o : Operation) where
  add_no : is_handed o ≡ false → refused_by 6 buffer fill ≡ add_to grown buffer fill o
  unfolding add_to
  add_no e = go (held buffer fill)
    where
      go : (s : Option Statement) → refused_by 6 buffer fill ≡ written buffer fill (maybe s none (λ st. maybe (handed o) none (λ x. some (grown st x))))
      go none = unfold written in refl
      go (some st) = refused_handed buffer fill o (grown st) e

  add_unheld : is_some (held buffer fill) ≡ false → refused_by 6 buffer fill ≡ add_to grown buffer fill o
  unfolding add_to is_some written
  add_unheld e = go (held buffer fill) e
    where
      go : (s : Option Statement) → is_some s ≡ false → refused_by 6 buffer fill ≡ written buffer fill (maybe s none (λ st. maybe (handed o) none (λ x. some (grown st x))))
      go none e = refl
      go (some st) e = absurd (true≢false e)

  -- what is refused changes nothing
  pub add_refused : (e : WriteError) → Addable buffer fill o (Err e) → written_is (added (Err e)) buffer ≡ add_to grown buffer fill o
  add_refused e a = ap (λ (d : WriteError). written_is (added (Err d)) buffer) a.0 ∙ refused_is 6 buffer fill ∙ go (is_some (held buffer fill)) refl a.1
    where
      go : (b : Bool) → is_some (held buffer fill) ≡ b → (b && is_handed o) ≡ false → refused_by 6 buffer fill ≡ add_to grown buffer fill o
      go true q h = add_no h
      go false q h = add_unheld q

pub begin_done : (buffer : List ℕ) (h p : ℕ) (g : Operation) (body : List ℕ) (w : Written) → is_handed g ≡ true → Begun h p g body → w ≡ settled buffer 0 body → w ≡ begin_on buffer h p g
unfolding begin_on
begin_done buffer h p g body w e b s = s ∙ rw (b.is, handed_some g e) (written_is_lem buffer 0 (begun h p (operation_is g)) b.fits)

pub add_done : (grown : Statement → model.Operation → Statement) → Grows grown → (buffer : List ℕ) (fill : ℕ) (o : Operation) (body : List ℕ) (w : Written)
    → is_some (held buffer fill) ≡ true → is_handed o ≡ true → Composed grown buffer fill o body → w ≡ settled buffer fill body → w ≡ add_to grown buffer fill o
unfolding add_to
add_done grown grows buffer fill o body w l e b s =
    let st = held_is buffer fill l in
    let k = held_some buffer fill st.0 st.1 in
    s ∙ rw (st.1, handed_some o e, b.is st.0 st.1) (written_is_lem buffer fill (grown st.0 (operation_is o)) (grows st.0 (operation_is o) (legal_fits st.0 k.legal) b.fits))
