-- "The writer" in its own words: what each answer means for the filled bytes and for the others; an operation more is no branch more. Assumes nothing.
use Rattle.std.specs.Prelude.{◌≡◌, refl, true, false, List, [], ◌∷◌, ◌++◌, ℕ, suc, ◌≤◌, ◌<◌, take, drop, T, leb}
use Rattle.std.proofs.Common.{sym, subst, ◌∙◌, arith, length-append, length-drop, leb→le, le-leb, leb-true, leb-false}
use Rattle.std.proofs.Math.Path.{ap}
use Rattle.std.proofs.Math.Option.{Option, none, some, none-ne-some, some-injective}
use Rattle.std.proofs.Math.ListN.{length}
use Rattle.std.proofs.Math.Seq.{take-append_seam, drop-append_seam}
use Rattle.basis.specs.Choice.{maybe, is_some, cond_ind}
use Rattle.basis.specs.Logic.{and_l, and_r, is_true, true_is}
use Rattle.basis.specs.Sizes.{most_body}
use Rattle.model.specs.Statement as model
use Rattle.model.specs.Statement.{Branch, Statement}
use Rattle.model.specs.Legal.{legal_statement, parse, legal_body}
use Rattle.model.specs.Writing.{statement_bytes}
use Rattle.model.proofs.RoundTrip.{parse_written}
use Rattle.statements.specs.declared.Operation.{Operation}
use Rattle.writer.specs.declared.Reason.{Reason}
use Rattle.writer.specs.declared.Reason.TheVariants.{Malformed, Short}
use Rattle.writer.specs.Writer.{handed, begun, in_last, number, Written, is_writable, refused_by, filled_with, written, held, begin_on, add_to}

-- ---- statements that grow

-- an operation more is no branch more
pub in_last_length : (bs : List Branch) (o : model.Operation) → length (in_last bs o) ≡ length bs
unfolding in_last
in_last_length [] o = refl
in_last_length (b ∷ []) o = refl
in_last_length (b ∷ c ∷ bs) o = ap suc (in_last_length (c ∷ bs) o)

-- ---- one answer

-- no refusal is told as 0
pub number_some : (reason : Reason) → number reason ≡ 0 → ⊥
number_some Malformed z = omega arith
number_some Short z = omega arith

-- "the writer comes back with its new count of filled bytes, which are a legal body; bytes past them are unchanged": the body of this statement
pub record Filled (buffer : List ℕ) (st : Statement) (w : Written) : Type 0 where
  pub done : w.answer ≡ 0
  pub bytes : take w.fill w.bytes ≡ statement_bytes st
  pub parses : parse (take w.fill w.bytes) ≡ some st
  pub legal : legal_body (take w.fill w.bytes) ≡ true
  pub past : drop w.fill w.bytes ≡ drop w.fill buffer
  pub within : w.fill ≤ length buffer
  pub same : length w.bytes ≡ length buffer

filled_with_lem : (buffer : List ℕ) (st : Statement) → T (is_writable st) → length (statement_bytes st) ≤ length buffer → Filled buffer st (filled_with buffer (statement_bytes st))
unfolding filled_with legal_body is_some is_writable
filled_with_lem buffer st t h =
    let b : List ℕ = statement_bytes st in
    let front : take (length b) (b ++ drop (length b) buffer) ≡ b = take-append_seam b (drop (length b) buffer) in
    let p : parse b ≡ some st = parse_written st (and_l (legal_statement st) (leb (length b) most_body) t) (leb→le (length b) most_body (and_r (legal_statement st) (leb (length b) most_body) t)) in
    record { done = refl; bytes = front; parses = rw front p; legal = rw (front, p); past = drop-append_seam b (drop (length b) buffer); within = h; same = length-append b (drop (length b) buffer) ∙ omega (arith, length-drop (length b) buffer) }

-- the three answers, and when each comes: 6 before 2; a refusal changes no byte and not the count
pub data Answered (buffer : List ℕ) (fill : ℕ) (o : Option Statement) (w : Written) : Type 0 where
  filled : (st : Statement) → o ≡ some st → Filled buffer st w → Answered buffer fill o w
  malformed : ((st : Statement) → o ≡ some st → is_writable st ≡ false) → w ≡ refused_by 6 buffer fill → Answered buffer fill o w
  short : (st : Statement) → o ≡ some st → is_writable st ≡ true → length buffer < length (statement_bytes st) → w ≡ refused_by 2 buffer fill → Answered buffer fill o w

pub answered : (buffer : List ℕ) (fill : ℕ) (o : Option Statement) → Answered buffer fill o (written buffer fill o)
unfolding written
answered buffer fill none = malformed (λ st e. absurd (none-ne-some st e)) refl
answered buffer fill (some st) =
    cond_ind (Answered buffer fill (some st)) (is_writable st) _ _
    (λ (e : is_writable st ≡ true). cond_ind (Answered buffer fill (some st)) (leb (length (statement_bytes st)) (length buffer)) _ _
    (λ l. filled st refl (filled_with_lem buffer st (true_is (is_writable st) e) (leb-true (length (statement_bytes st)) (length buffer) l)))
    (λ l. short st refl e (leb-false (length (statement_bytes st)) (length buffer) l) refl))
    (λ (e : is_writable st ≡ false). malformed (λ x q. rw (← some-injective st x q) e) refl)

-- a legal statement of at most 250 bytes that the buffer has room for is written
pub written_legal : (buffer : List ℕ) (fill : ℕ) (st : Statement) → T (legal_statement st) → length (statement_bytes st) ≤ most_body → length (statement_bytes st) ≤ length buffer
    → written buffer fill (some st) ≡ filled_with buffer (statement_bytes st)
unfolding written is_writable
written_legal buffer fill st t m h = rw (is_true (legal_statement st) t, le-leb (length (statement_bytes st)) most_body m, le-leb (length (statement_bytes st)) (length buffer) h)

-- ---- the calls

-- an answer 0 is to a statement that is there
done_some : (buffer : List ℕ) (fill : ℕ) (o : Option Statement) (w : Written) → Answered buffer fill o w → w.answer ≡ 0 → (st : Statement) × (o ≡ some st) × Filled buffer st w
unfolding refused_by
done_some buffer fill o w (filled st e f) z = (st, e, f)
done_some buffer fill o w (malformed n e) z = absurd (omega (arith, ap (λ (v : Written). v.answer) e))
done_some buffer fill o w (short st q t l e) z = absurd (omega (arith, ap (λ (v : Written). v.answer) e))

done_none : (buffer : List ℕ) (fill : ℕ) → (written buffer fill none).answer ≡ 0 → ⊥
done_none buffer fill z = let k = done_some buffer fill none _ (answered buffer fill none) z in none-ne-some k.0 k.1

done_is : (buffer : List ℕ) (fill : ℕ) (st : Statement) → (written buffer fill (some st)).answer ≡ 0 → Filled buffer st (written buffer fill (some st))
done_is buffer fill st z =
    let k = done_some buffer fill (some st) _ (answered buffer fill (some st)) z in
    subst (λ (x : Statement). Filled buffer x (written buffer fill (some st))) (sym (some-injective st k.0 k.1)) k.2

-- a begun body is exactly that of host, process and guard
pub record Begins (buffer : List ℕ) (h p : ℕ) (g : Operation) : Type 0 where
  pub guard : model.Operation
  pub was : handed g ≡ some guard
  pub now : Filled buffer (begun h p guard) (begin_on buffer h p g)

pub begin_filled : (buffer : List ℕ) (h p : ℕ) (g : Operation) → (begin_on buffer h p g).answer ≡ 0 → Begins buffer h p g
unfolding begin_on
begin_filled buffer h p g z = go (handed g) refl z
  where
    go : (o : Option model.Operation) → handed g ≡ o → (written buffer 0 (maybe o none (λ x. some (begun h p x)))).answer ≡ 0 → Begins buffer h p g
    go none e z = absurd (done_none buffer 0 z)
    go (some x) e z = record { guard = x; was = e; now = rw e (done_is buffer 0 (begun h p x) z) }

-- after an addition the filled bytes are exactly the statement that they were, with the addition
pub record Adds (grown : Statement → model.Operation → Statement) (buffer : List ℕ) (fill : ℕ) (o : Operation) : Type 0 where
  pub before : Statement
  pub addition : model.Operation
  pub was : held buffer fill ≡ some before
  pub part : handed o ≡ some addition
  pub now : Filled buffer (grown before addition) (add_to grown buffer fill o)

pub add_filled : (grown : Statement → model.Operation → Statement) (buffer : List ℕ) (fill : ℕ) (o : Operation) → (add_to grown buffer fill o).answer ≡ 0 → Adds grown buffer fill o
unfolding add_to
add_filled grown buffer fill o z = go (held buffer fill) refl (handed o) refl z
  where
    go : (s : Option Statement) → held buffer fill ≡ s → (x : Option model.Operation) → handed o ≡ x
        → (written buffer fill (maybe s none (λ st. maybe x none (λ y. some (grown st y))))).answer ≡ 0 → Adds grown buffer fill o
    go none e x f z = absurd (done_none buffer fill z)
    go (some st) e none f z = absurd (done_none buffer fill z)
    go (some st) e (some y) f z = record { before = st; addition = y; was = e; part = f; now = rw (e, f) (done_is buffer fill (grown st y) z) }

-- a buffer keeps its length
pub written_length : (buffer : List ℕ) (fill : ℕ) (o : Option Statement) → length (written buffer fill o).bytes ≡ length buffer
written_length buffer fill o = go (written buffer fill o) (answered buffer fill o)
  where
    kept : (n : ℕ) (w : Written) → w ≡ refused_by n buffer fill → length w.bytes ≡ length buffer
    kept n w e = unfold refused_by in ap (λ (v : Written). length v.bytes) e

    go : (w : Written) → Answered buffer fill o w → length w.bytes ≡ length buffer
    go w (filled st e f) = f.same
    go w (malformed n e) = kept 6 w e
    go w (short st q t l e) = kept 2 w e

-- the next addition goes on from the statement that was filled
pub filled_held : (buffer : List ℕ) (st : Statement) (w : Written) → Filled buffer st w → held w.bytes w.fill ≡ some st
unfolding held
filled_held buffer st w f = rw (le-leb w.fill (length w.bytes) (omega (arith, f.within, f.same))) f.parses
