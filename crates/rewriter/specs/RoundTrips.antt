-- The round trips of the writer: what was written is read as what was handed in, and what was read is written as it was. Assumes nothing.
use Rattle.std.specs.Prelude.{◌≡◌, refl, take, leb}
use Rattle.std.proofs.Math.Path.{sym, subst}
use Rattle.std.proofs.Common.{ap, ◌∙◌, drop-drop, leb→le, le→leb, le-leb}
use Prim.Native.Nat.{ℕ, ◌+◌, ◌-◌, ◌≤◌}
use native.Mathlib.Omega.{arith}
use Rattle.std.proofs.Math.Option.{some, some-injective}
use mathlib.Core.List.{List, [], ◌∷◌, ◌++◌, map}
use Rattle.std.proofs.Math.ListN.{length, drop, length-append, length-drop}
use Rattle.std.proofs.Math.Seq.{take-append_seam, drop-append-add}
use Rattle.std.proofs.Math.Dec.{T}
use Rattle.std.proofs.Math.Pow.{are_bytes}
use Rattle.basis.specs.Logic.{and_l, and_r, both}
use Rattle.basis.specs.Sizes.{most_body}
use Rattle.model.specs.Statement as model
use Rattle.model.specs.Statement.{Branch, Statement}
use Rattle.model.specs.Legal.{legal_statement, parse}
use Rattle.model.specs.Writing.{statement_bytes}
use Rattle.model.proofs.RoundTrip.{parse_written}
use Rattle.model.proofs.ReadBack.{parse_parts}
use Rattle.statements.specs.declared.Operation.{Operation}
use Rattle.writer.specs.Writer.{handed, begun, with_operation, with_branch, Written, is_writable, filled_with, written, held, begin_on, add_to, add_operation, add_branch}
use Rattle.writer.specs.WriterLaws.{written_legal, begin_filled, add_filled, filled_held}
use Rattle.writer.specs.HeldLaws.{held_some}
use Rattle.rewriter.specs.Additions.{Addition, operation, branch, additions, Parts, no_part, operation_part, branch_part, hand_in, hand_all, Done, last_done, next_done, grow, grow_all}
use Rattle.rewriter.specs.Fronts.{shorter, front, some_grow, grown_all, additions_all, host_all, process_all}

-- ---- a buffer whose filled bytes are a statement's

-- the buffer that the writer was begun on, with a statement's bytes at its front
abbrev pub holding : List ℕ → Statement → Written
holding buffer st = filled_with buffer (statement_bytes st)

held_front : (buffer : List ℕ) (st : Statement) → T (is_writable st) → length (statement_bytes st) ≤ length buffer → held (statement_bytes st ++ drop (length (statement_bytes st)) buffer) (length (statement_bytes st)) ≡ some st
unfolding held is_writable
held_front buffer st t h =
    let b : List ℕ = statement_bytes st in
    let n : length b ≤ length (b ++ drop (length b) buffer) = omega (arith, length-append b (drop (length b) buffer)) in
    rw (le-leb (length b) (length (b ++ drop (length b) buffer)) n, take-append_seam b (drop (length b) buffer))
    (parse_written st (and_l (legal_statement st) (leb (length b) most_body) t) (leb→le (length b) most_body (and_r (legal_statement st) (leb (length b) most_body) t)))

-- bytes past what stands at the front are those of the buffer
pub drop_front : (old buffer : List ℕ) (n : ℕ) → length old ≤ n → drop n (old ++ drop (length old) buffer) ≡ drop n buffer
drop_front old buffer n h =
    let e : n ≡ length old + (n - length old) = omega arith in
    rw e (drop-append-add old (drop (length old) buffer) (n - length old) ∙ drop-drop (n - length old) (length old) buffer)

-- longer bytes over shorter ones
front_front : (new old buffer : List ℕ) → length old ≤ length new → filled_with (old ++ drop (length old) buffer) new ≡ filled_with buffer new
unfolding filled_with
front_front new old buffer h = rw (drop_front old buffer (length new) h)

written_front : (buffer : List ℕ) (fill : ℕ) (st : Statement) → T (is_writable st) → length (statement_bytes st) ≤ length buffer → written buffer fill (some st) ≡ holding buffer st
unfolding is_writable
written_front buffer fill st t h =
    let n : ℕ = length (statement_bytes st) in
    written_legal buffer fill st (and_l (legal_statement st) (leb n most_body) t) (leb→le n most_body (and_r (legal_statement st) (leb n most_body) t)) h

-- ---- one call

module _ (grown : Statement → model.Operation → Statement) (buffer : List ℕ) (st : Statement) (p : Operation) (o : model.Operation) (e : handed p ≡ some o)
    (t : T (is_writable st)) (u : T (is_writable (grown st o))) (s : length (statement_bytes st) ≤ length (statement_bytes (grown st o))) (h : length (statement_bytes (grown st o)) ≤ length buffer) where
  pub add_front : add_to grown (holding buffer st).bytes (holding buffer st).fill p ≡ holding buffer (grown st o)
  unfolding add_to filled_with
  add_front =
      let b : List ℕ = statement_bytes st in
      let m : length (statement_bytes (grown st o)) ≤ length (b ++ drop (length b) buffer) = omega (arith, length-append b (drop (length b) buffer), length-drop (length b) buffer) in
      rw (held_front buffer st t (omega arith), e) (written_front (b ++ drop (length b) buffer) (length b) (grown st o) u m ∙ front_front (statement_bytes (grown st o)) b buffer s)

pub begin_front : (buffer : List ℕ) (h p : ℕ) (g : Operation) (o : model.Operation) → handed g ≡ some o → T (is_writable (begun h p o)) → length (statement_bytes (begun h p o)) ≤ length buffer
    → begin_on buffer h p g ≡ holding buffer (begun h p o)
unfolding begin_on
begin_front buffer h p g o e t k = rw e (written_front buffer 0 (begun h p o) t k)

module _ (buffer : List ℕ) (st : Statement) (one : 1 ≤ length st.branches) (p : Operation) (o : model.Operation) (e : handed p ≡ some o) where
  pub operation_front : T (is_writable st) → T (is_writable (grow st (operation o))) → length (statement_bytes (grow st (operation o))) ≤ length buffer
      → hand_in (holding buffer st) (operation p) ≡ holding buffer (grow st (operation o))
  unfolding hand_in grow add_operation
  operation_front t u h = add_front with_operation buffer st p o e t u (shorter st (operation o) one) h

  pub branch_front : T (is_writable st) → T (is_writable (grow st (branch o))) → length (statement_bytes (grow st (branch o))) ≤ length buffer
      → hand_in (holding buffer st) (branch p) ≡ holding buffer (grow st (branch o))
  unfolding hand_in grow add_branch
  branch_front t u h = add_front with_branch buffer st p o e t u (shorter st (branch o) one) h

-- ---- read, then written

-- every answer is 0, and at last these bytes stand at the front of the buffer
pub record Rewritten (w : Written) (xs : List (Addition Operation)) (buffer b : List ℕ) : Type 0 where
  pub done : Done w xs
  pub is : hand_all w xs ≡ filled_with buffer b

holding_done : (buffer : List ℕ) (st : Statement) → (holding buffer st).answer ≡ 0
unfolding filled_with
holding_done buffer st = refl

one_more : (w next : Written) (x : Addition Operation) (xs : List (Addition Operation)) (buffer b : List ℕ) → w.answer ≡ 0 → hand_in w x ≡ next → Rewritten next xs buffer b → Rewritten w (x ∷ xs) buffer b
unfolding hand_all
one_more w next x xs buffer b z e r = record { done = next_done z (subst (λ (v : Written). Done v xs) (sym e) r.done); is = ap (λ (v : Written). hand_all v xs) e ∙ r.is }

grown_written : (buffer : List ℕ) (st : Statement) (xs : List (Addition Operation)) (ys : List (Addition model.Operation)) → Parts xs ys → 1 ≤ length st.branches → T (is_writable (grow_all st ys))
    → length (statement_bytes (grow_all st ys)) ≤ length buffer → Rewritten (holding buffer st) xs buffer (statement_bytes (grow_all st ys))
unfolding grow_all hand_all
grown_written buffer st [] [] no_part one t h = record { done = last_done (holding_done buffer st); is = refl }
grown_written buffer st [] (_ ∷ ys) ps one t h = elim ps [ ]
grown_written buffer st (operation p ∷ xs) [] ps one t h = elim ps [ ]
grown_written buffer st (operation p ∷ xs) (branch o ∷ ys) ps one t h = elim ps [ ]
grown_written buffer st (branch p ∷ xs) [] ps one t h = elim ps [ ]
grown_written buffer st (branch p ∷ xs) (operation o ∷ ys) ps one t h = elim ps [ ]
grown_written buffer st (operation p ∷ xs) (operation o ∷ ys) (operation_part e ps) one t h =
    let f = front st (operation o ∷ ys) one t in
    let g = front (grow st (operation o)) ys (some_grow st (operation o) one) t in
    one_more (holding buffer st) (holding buffer (grow st (operation o))) (operation p) xs buffer _ (holding_done buffer st)
    (operation_front buffer st one p o e f.writable g.writable (omega (arith, g.least)))
    (grown_written buffer (grow st (operation o)) xs ys ps (some_grow st (operation o) one) t h)
grown_written buffer st (branch p ∷ xs) (branch o ∷ ys) (branch_part e ps) one t h =
    let f = front st (branch o ∷ ys) one t in
    let g = front (grow st (branch o)) ys (some_grow st (branch o) one) t in
    one_more (holding buffer st) (holding buffer (grow st (branch o))) (branch p) xs buffer _ (holding_done buffer st)
    (branch_front buffer st one p o e f.writable g.writable (omega (arith, g.least)))
    (grown_written buffer (grow st (branch o)) xs ys ps (some_grow st (branch o) one) t h)

begun_written : (buffer : List ℕ) (st : Statement) (bs : List Branch) (g : Operation) (xs : List (Addition Operation)) → st.branches ≡ bs → Parts (branch g ∷ xs) (additions bs) → T (is_writable st)
    → length (statement_bytes st) ≤ length buffer → Rewritten (begin_on buffer st.host st.process g) xs buffer (statement_bytes st)
unfolding additions
begun_written buffer st [] g xs q ps t h = elim ps [ ]
begun_written buffer st (b ∷ bs) g xs q (branch_part e ps) t h =
    let h₀ : ℕ = st.host in
    let p₀ : ℕ = st.process in
    let first : Statement = begun h₀ p₀ b.guard in
    let ys : List (Addition model.Operation) = map operation b.body ++ additions bs in
    let all : grow_all first ys ≡ st = grown_all st b bs q in
    let one : 1 ≤ length first.branches = unfold begun in omega arith in
    let u : T (is_writable (grow_all first ys)) = rw all t in
    let k : length (statement_bytes (grow_all first ys)) ≤ length buffer = rw all h in
    let f = front first ys one u in
    let begin : begin_on buffer h₀ p₀ g ≡ holding buffer first = begin_front buffer h₀ p₀ g b.guard e f.writable (omega (arith, f.least)) in
    rw begin (subst (λ (x : Statement). Rewritten (holding buffer first) xs buffer (statement_bytes x)) all (grown_written buffer first xs ys ps one u k))

-- Whoever takes a legal body apart, and hands its host, its process and the parts of its additions to a writer begun on a buffer at least as long, is answered 0 each time, and has the same bytes.
pub read_written : (b : List ℕ) (st : Statement) (buffer : List ℕ) (g : Operation) (xs : List (Addition Operation)) → T (are_bytes b) → parse b ≡ some st → length b ≤ length buffer
    → Parts (branch g ∷ xs) (additions st.branches) → Rewritten (begin_on buffer st.host st.process g) xs buffer b
unfolding is_writable
read_written b st buffer g xs t e h ps =
    let k = parse_parts b st t e in
    let w : T (is_writable st) = both (legal_statement st) (leb (length (statement_bytes st)) most_body) k.legal (rw k.bytes (le→leb (length b) most_body k.size)) in
    subst (Rewritten (begin_on buffer st.host st.process g) xs buffer) k.bytes (begun_written buffer st st.branches g xs refl ps w (rw k.bytes h))

-- ---- written, then read

done_now : (w : Written) (xs : List (Addition Operation)) → Done w xs → w.answer ≡ 0
done_now w [] (last_done z) = z
done_now w (x ∷ xs) (next_done z d) = z

-- one addition that was answered 0, and the statement with it
pub record Taken (w : Written) (st : Statement) (x : Addition Operation) : Type 0 where
  pub y : Addition model.Operation
  pub part : {xs : List (Addition Operation)} {ys : List (Addition model.Operation)} → Parts xs ys → Parts (x ∷ xs) (y ∷ ys)
  pub now : held (hand_in w x).bytes (hand_in w x).fill ≡ some (grow st y)

module _ (grown : Statement → model.Operation → Statement) (w : Written) (st : Statement) (p : Operation) (e : held w.bytes w.fill ≡ some st) where
  abbrev after : Written
  after = add_to grown w.bytes w.fill p

  add_done : (z : after.answer ≡ 0) → held after.bytes after.fill ≡ some (grown st (add_filled grown w.bytes w.fill p z).addition)
  add_done z =
      let a = add_filled grown w.bytes w.fill p z in
      let same : a.before ≡ st = some-injective a.before st (sym a.was ∙ e) in
      filled_held w.bytes _ after a.now ∙ ap (λ (x : Statement). some (grown x a.addition)) same

pub taken : (w : Written) (st : Statement) (x : Addition Operation) → held w.bytes w.fill ≡ some st → (hand_in w x).answer ≡ 0 → Taken w st x
unfolding hand_in grow add_operation add_branch
taken w st (operation p) e z = let a = add_filled with_operation w.bytes w.fill p z in record { y = operation a.addition; part = operation_part a.part; now = add_done with_operation w st p e z }
taken w st (branch p) e z = let a = add_filled with_branch w.bytes w.fill p z in record { y = branch a.addition; part = branch_part a.part; now = add_done with_branch w st p e z }

-- the filled bytes are a statement with these additions more
pub record Grown (w : Written) (st : Statement) (xs : List (Addition Operation)) : Type 0 where
  pub ys : List (Addition model.Operation)
  pub parts : Parts xs ys
  pub now : held w.bytes w.fill ≡ some (grow_all st ys)

grown_held : (w : Written) (st : Statement) (xs : List (Addition Operation)) → held w.bytes w.fill ≡ some st → Done w xs → Grown (hand_all w xs) st xs
unfolding hand_all grow_all
grown_held w st [] e d = record { ys = []; parts = no_part; now = e }
grown_held w st (x ∷ xs) e (next_done z d) =
    let t = taken w st x e (done_now (hand_in w x) xs d) in
    let r = grown_held (hand_in w x) (grow st t.y) xs t.now d in
    record { ys = t.y ∷ r.ys; parts = t.part r.parts; now = r.now }

-- the filled bytes are a legal body of this host and process, whose additions are the parts that were handed in
pub record ReadBack (h p : ℕ) (g : Operation) (xs : List (Addition Operation)) (w : Written) : Type 0 where
  pub statement : Statement
  pub parses : parse (take w.fill w.bytes) ≡ some statement
  pub host : statement.host ≡ h
  pub process : statement.process ≡ p
  pub parts : Parts (branch g ∷ xs) (additions statement.branches)

-- a begin that was done, and what was answered 0 after it
module _ (buffer : List ℕ) (h p : ℕ) (g : Operation) (z : (begin_on buffer h p g).answer ≡ 0) where
  abbrev pub first : Statement
  first = begun h p (begin_filled buffer h p g z).guard

  pub begun_held : held (begin_on buffer h p g).bytes (begin_on buffer h p g).fill ≡ some first
  begun_held = filled_held buffer first (begin_on buffer h p g) (begin_filled buffer h p g z).now

  pub read_back : (xs : List (Addition Operation)) (w : Written) → Grown w first xs → ReadBack h p g xs w
  unfolding additions begun
  read_back xs w r =
      let a = begin_filled buffer h p g z in
      let ys : List (Addition model.Operation) = r.ys in
      let adds : branch a.guard ∷ ys ≡ additions (grow_all first ys).branches = sym (additions_all first ys (omega arith)) in
      record {
        statement = grow_all first ys;
        parses = (held_some w.bytes w.fill (grow_all first ys) r.now).parses;
        host = host_all first ys;
        process = process_all first ys;
        parts = subst (Parts (branch g ∷ xs)) adds (branch_part a.was r.parts);
      }

-- Whatever is handed in, if each answer is 0 then what the filled bytes are read as is exactly that.
pub written_read : (buffer : List ℕ) (h p : ℕ) (g : Operation) (xs : List (Addition Operation)) → Done (begin_on buffer h p g) xs → ReadBack h p g xs (hand_all (begin_on buffer h p g) xs)
written_read buffer h p g xs d =
    let w : Written = begin_on buffer h p g in
    let z = done_now w xs d in
    read_back buffer h p g z xs (hand_all w xs) (grown_held w (first buffer h p g z) xs (begun_held buffer h p g z) d)
