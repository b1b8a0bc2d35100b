-- The tests of the waiting statements' bytes come to what "The state buffer" asks of them. Assumes nothing.
use Rattle.std.specs.Prelude.{◌≡◌, false, not, ◌&&◌, get_or, leb}
use Rattle.std.proofs.Math.Path.{sym, ap}
use Rattle.std.proofs.Common.{◌∙◌, take-append-drop, take_all, take_at, drop_at, length-take-le}
use mathlib.Core.List.{List, [], ◌++◌, append_assoc}
use Rattle.std.proofs.Math.Option
use Rattle.std.proofs.Math.Option.{Option, some}
use Prim.Native.Nat.{ℕ, ◌+◌, ◌-◌, ◌*◌, ◌≤◌, ◌<◌}
use native.Mathlib.Omega.{arith}
use Rattle.std.proofs.Math.ListN.{length, take, drop, length-append, length-drop}
use Rattle.std.proofs.Math.Seq.{drop-drop}
use Rattle.std.proofs.Math.Dec.{T, eqb, leb→le, le→leb}
use Rattle.std.proofs.Math.Pow.{are_bytes}
use borrow.Author.Tests.{le-leb, lt-leb}
use Rattle.basis.specs.Logic.{and_l, and_r, both, true_is, same_test}
use Rattle.basis.specs.Lists.{all, pairwise, zeros, pad, pieces, same_bytes}
use Rattle.basis.specs.ListLaws.{Each, all_at, all_of, same_refl, same→eq}
use Rattle.basis.specs.Numbers.{big_endian, number_at}
use Rattle.basis.specs.NumberLaws.{bytes_take, bytes_drop, big_endian_length, number_big_endian, number_at_lt}
use Rattle.basis.specs.PadLaws.{pad_split, number_at_at}
use Rattle.basis.specs.Sizes.{position_width, length_width, process_width, process_at, most_body, most_waiting, waiting_length_at, waiting_body_at, waiting_size, waiting_all_size}
use Rattle.model.specs.Statement.{Statement}
use Rattle.model.specs.Legal.{parse, legal_body}
use Rattle.model.specs.Writing.{statement_bytes}
use Rattle.model.proofs.ReadBack.{parse_parts, parse_some}
use Rattle.model.specs.Run.{Waiting}
use Rattle.layout.specs.States.{waiting_bytes, area, no_statement, waiting_read, entries}
use Rattle.layout.specs.Stored.{statement_of, legal_parse}
use Rattle.words.specs.Over.{zeros_at}
use Rattle.words.specs.ZeroLaws.{zerosAt→zeros, zeros→zerosAt}
use Rattle.sections.specs.Rows.{Section, HasRows, unused_zero}
use Rattle.sections.specs.RowLaws.{take_drop_take, number_written, number_of_row, pieces_at, pieces_wide, pieces_bytes, section_of, section_unused}
use Rattle.sections.specs.Shapes.{entry, Same, holds_of, area_same, area_of, holds_rows}
use Rattle.scans.specs.Tests.{ascends, ascends_within, ascends_rise, ascends_of, ascends_map, differ, all_map, pairwise_map}
use Rattle.queue.specs.Queue.{Written, waiting_shape, waiting_of, IsQueued}
use Rattle.queue.specs.QueueLaws.{process_of}
use Rattle.queue.specs.Legal.{size_in, body_in, body_fits, row_legal, earlier, in_time, other_process, queue_legal, in_order}

split_two : (a c b : List ℕ) (n : ℕ) → length a ≡ n → a ++ c ≡ b → (a ≡ take n b) × (c ≡ drop n b)
split_two a c b n l e = (sym (take_at a c n l) ∙ ap (take n) e, sym (drop_at a c n l) ∙ ap (drop n) e)

-- ---- a row

-- it is what it is read as, and the body of its statement is legal
pub record Sound (r : List ℕ) : Type 0 where
  pub same : Same waiting_shape r
  pub legal : T (legal_body (statement_bytes (waiting_read r).statement))

module _ (r : List ℕ) (long : length r ≡ waiting_size) (bytes : T (are_bytes r)) where
  abbrev len : ℕ
  len = size_in r

  abbrev body_end : ℕ
  body_end = waiting_body_at + len

  -- the tests
  record Tested : Type 0 where
    size : len ≤ most_body
    legal : T (legal_body (body_in r))
    rest : drop body_end r ≡ zeros (most_body - len)

  tested : T (row_legal r) → Tested
  unfolding row_legal body_fits
  tested t =
      let size : len ≤ most_body = leb→le len most_body (search (and_l, and_r, t) depth 6) in
      let zero : T (zeros_at r body_end (most_body - len)) = search (and_l, and_r, t) depth 6 in
      record {
        size = size;
        legal = search (and_l, and_r, t) depth 6;
        rest = sym (take_all (most_body - len) (drop body_end r) (simp length-drop (omega arith))) ∙ zerosAt→zeros r body_end (most_body - len) (omega arith) zero;
      }

  test : Tested → T (row_legal r)
  unfolding row_legal body_fits
  test s =
      let size : T (leb len most_body) = le→leb len most_body s.size in
      let rest : T (zeros_at r body_end (most_body - len)) = zeros→zerosAt r body_end (most_body - len) (take_all (most_body - len) (drop body_end r) (simp length-drop (omega arith)) ∙ s.rest) in
      let legal = s.legal in
      search (both, size, legal, rest) depth 6

  body_bytes : T (are_bytes (body_in r))
  body_bytes = bytes_take len (drop waiting_body_at r) (bytes_drop waiting_body_at r bytes)

  -- a legal body is the statement's
  body_read : T (legal_body (body_in r)) → parse (body_in r) ≡ some (waiting_read r).statement
  unfolding waiting_read
  body_read t =
      let e = legal_parse (body_in r) t in
      let w = parse_some (body_in r) (statement_of (body_in r)) e in
      e ∙ ap (λ (o : Option Statement). some (Option.get_or o no_statement)) (sym w.whole)

  written_body : T (legal_body (body_in r)) → statement_bytes (waiting_read r).statement ≡ body_in r
  written_body t = (parse_parts (body_in r) (waiting_read r).statement body_bytes (body_read t)).bytes

  body_length : len ≤ most_body → length (body_in r) ≡ len
  body_length h = length-take-le len (drop waiting_body_at r) (simp length-drop (omega arith))

  -- its bytes in their parts
  abbrev front : List ℕ
  front = take position_width r ++ (take length_width (drop waiting_length_at r) ++ body_in r)

  parts : front ++ drop body_end r ≡ r
  parts =
      let body : body_in r ++ drop body_end r ≡ drop waiting_body_at r = ap (λ (z : List ℕ). body_in r ++ z) (sym (drop-drop len waiting_body_at r)) ∙ take-append-drop len (drop waiting_body_at r) in
      let size : take length_width (drop waiting_length_at r) ++ drop waiting_body_at r ≡ drop waiting_length_at r =
      ap (λ (z : List ℕ). take length_width (drop waiting_length_at r) ++ z) (sym (drop-drop length_width waiting_length_at r)) ∙ take-append-drop length_width (drop waiting_length_at r) in
      append_assoc (take position_width r) (take length_width (drop waiting_length_at r) ++ body_in r) (drop body_end r)
      ∙ ap (λ (z : List ℕ). take position_width r ++ z) (append_assoc (take length_width (drop waiting_length_at r)) (body_in r) (drop body_end r) ∙ ap (λ (z : List ℕ). take length_width (drop waiting_length_at r) ++ z) body ∙ size)
      ∙ take-append-drop position_width r

  front_length : len ≤ most_body → length front ≡ body_end
  front_length h =
      length-append (take position_width r) (take length_width (drop waiting_length_at r) ++ body_in r)
      ∙ omega (arith, length-append (take length_width (drop waiting_length_at r)) (body_in r), body_length h, length-take-le position_width r (omega arith), length-take-le length_width (drop waiting_length_at r) (simp length-drop (omega arith)))

  -- what it is written as
  written : Tested → waiting_bytes (waiting_read r) ≡ front
  unfolding waiting_bytes waiting_read
  written e =
      let sb : statement_bytes (waiting_read r).statement ≡ body_in r = written_body e.legal in
      rw (sb, body_length e.size, number_written 0 position_width r bytes (omega arith), number_written waiting_length_at length_width r bytes (omega arith))

  pub row_sound : T (row_legal r) → Sound r
  row_sound t =
      let e : Tested = tested t in
      let l : length front ≡ body_end = front_length e.size in
      let left : waiting_size - body_end ≡ most_body - len = omega arith in
      record {
        same = ap (pad waiting_size) (written e) ∙ pad_split waiting_size front (let h = e.size in omega arith) ∙ rw (l, left, ← e.rest) parts;
        legal = rw (written_body e.legal) e.legal;
      }

  pub sound_row : Sound r → T (row_legal r)
  unfolding waiting_bytes
  sound_row e =
      let w : Waiting = waiting_read r in
      let sb : List ℕ = statement_bytes w.statement in
      let few : length sb ≤ most_body = (parse_some sb (statement_of sb) (legal_parse sb e.legal)).size in
      let p : List ℕ = big_endian position_width w.position in
      let n : List ℕ = big_endian length_width (length sb) in
      let lp : length p ≡ position_width = big_endian_length position_width w.position in
      let ln : length n ≡ length_width = big_endian_length length_width (length sb) in
      let lf : length (p ++ (n ++ sb)) ≡ waiting_body_at + length sb = length-append p (n ++ sb) ∙ omega (arith, length-append n sb) in
      let zs : List ℕ = zeros (waiting_size - (waiting_body_at + length sb)) in
      let whole : p ++ (n ++ (sb ++ zs)) ≡ r =
      sym (pad_split waiting_size (p ++ (n ++ sb)) (omega arith) ∙ ap (λ (k : ℕ). (p ++ (n ++ sb)) ++ zeros (waiting_size - k)) lf
      ∙ append_assoc p (n ++ sb) zs ∙ ap (λ (z : List ℕ). p ++ z) (append_assoc n sb zs)) ∙ e.same in
      let size : len ≡ length sb = sym (ap (number_at waiting_length_at length_width) whole) ∙ number_at_at waiting_length_at length_width p n (sb ++ zs) lp ln ∙ number_big_endian length_width (length sb) (omega arith) in
      let after : sb ++ zs ≡ drop waiting_body_at r = (split_two n (sb ++ zs) (drop position_width r) length_width ln (split_two p (n ++ (sb ++ zs)) r position_width lp whole).1).1 ∙ drop-drop length_width position_width r in
      let two = split_two sb zs (drop waiting_body_at r) len (sym size) after in
      let left : waiting_size - (waiting_body_at + length sb) ≡ most_body - len = omega arith in
      test record {
        size = omega arith;
        legal = rw (← two.0) e.legal;
        rest = sym (drop-drop len waiting_body_at r) ∙ sym two.1 ∙ ap zeros left;
      }

  -- a waiting statement that is read back
  pub read_written : Sound r → Written (waiting_read r)
  unfolding waiting_read
  read_written s =
      let e : Tested = tested (sound_row s) in
      record { position = number_at_lt 0 position_width r bytes; body = ap parse (written_body e.legal) ∙ body_read e.legal }

-- what was read of the row at index i
module _ (p : List ℕ) (n i len : ℕ) (h : i < n) (el : len ≡ number_at (i * waiting_size + waiting_length_at) length_width p) where
  abbrev row : List ℕ
  row = get_or (pieces n waiting_size p) i []

  size_is : len ≡ size_in row
  size_is = el ∙ number_of_row n waiting_size p i waiting_length_at length_width h (omega arith)

  pub no_room : most_body < len → false ≡ body_fits row
  unfolding body_fits
  no_room b = rw (← size_is, lt-leb len most_body b)

  zeros_in : (k m : ℕ) → k + m ≤ waiting_size → zeros_at row k m ≡ zeros_at p (i * waiting_size + k) m
  unfolding zeros_at
  zeros_in k m b = ap (all (λ x. eqb x 0)) (ap (λ (r : List ℕ). take m (drop k r)) (pieces_at n waiting_size p i h) ∙ (take_drop_take k m waiting_size (drop (i * waiting_size) p) b ∙ ap (take m) (drop-drop k (i * waiting_size) p)))

  pub then_zeros : (at : ℕ) → at ≡ i * waiting_size + waiting_body_at → len ≤ most_body → zeros_at p (at + len) (most_body - len) ≡ body_fits row
  unfolding body_fits
  then_zeros at ea b =
      let place : at + len ≡ i * waiting_size + (waiting_body_at + len) = omega arith in
      rw (← size_is, le-leb len most_body b, place) (sym (zeros_in (waiting_body_at + len) (most_body - len) (omega arith)))

  -- the part from the body's first byte on is the body
  pub part_body : (at : ℕ) → at ≡ i * waiting_size + waiting_body_at → len ≤ most_body → take (at + len - at) (drop at p) ≡ body_in row
  part_body at ea b =
      let e : at + len - at ≡ len = omega arith in
      rw (e, ea, ← size_is)
      (sym (ap (λ (r : List ℕ). take len (drop waiting_body_at r)) (pieces_at n waiting_size p i h) ∙ (take_drop_take waiting_body_at len waiting_size (drop (i * waiting_size) p) (omega arith) ∙ ap (take len) (drop-drop waiting_body_at (i * waiting_size) p))))

-- ---- the section

module _ (p : List ℕ) (n : ℕ) (bytes : T (are_bytes p)) (long : length p ≡ waiting_all_size) (few : n ≤ most_waiting) where
  abbrev rows : List (List ℕ)
  rows = pieces n waiting_size p

  abbrev ws : List Waiting
  ws = waiting_of p n

  room : HasRows waiting_size p n
  room = omega arith

  wide : Each (λ (r : List ℕ). (length r ≡ waiting_size) × T (are_bytes r)) rows
  wide r m = (pieces_wide n waiting_size p room r m, pieces_bytes n waiting_size p bytes r m)

  bodies : T (all (λ w. legal_body (statement_bytes w.statement)) ws) → Each (λ (r : List ℕ). T (legal_body (statement_bytes (waiting_read r).statement))) rows
  unfolding entries
  bodies t = all_at (λ r. legal_body (statement_bytes (waiting_read r).statement)) rows (rw (all_map (λ w. legal_body (statement_bytes w.statement)) waiting_read rows) at t)

  bodies_of : Each (λ (r : List ℕ). T (legal_body (statement_bytes (waiting_read r).statement))) rows → T (all (λ w. legal_body (statement_bytes w.statement)) ws)
  unfolding entries
  bodies_of h = rw (all_map (λ w. legal_body (statement_bytes w.statement)) waiting_read rows) (all_of (λ r. legal_body (statement_bytes (waiting_read r).statement)) rows h)

  -- the rows and what lies past them are legal exactly if the section is
  pub rows_queue : T (unused_zero waiting_size p n) → T (all row_legal rows) → T (queue_legal p n)
  unfolding queue_legal
  rows_queue rest t =
      let sound : Each Sound rows = λ r m. row_sound r (wide r m).0 (wide r m).1 (all_at row_legal rows t r m) in
      let e : area waiting_all_size waiting_size waiting_bytes ws ≡ p = sym (area_same waiting_shape p n long few (section_of waiting_size n p room rest) (λ r m. (sound r m).same)) in
      let one : T (same_bytes (area waiting_all_size waiting_size waiting_bytes ws) p) = rw e (true_is (same_bytes p p) (same_refl p)) in
      both (same_bytes (area waiting_all_size waiting_size waiting_bytes ws) p) (all (λ w. legal_body (statement_bytes w.statement)) ws) one (bodies_of (λ r m. (sound r m).legal))

  module _ (t : T (queue_legal p n)) where
    found : Section waiting_size p n × Each (Same waiting_shape) rows
    unfolding queue_legal
    found = area_of waiting_shape p n few (sym (same→eq (area waiting_all_size waiting_size waiting_bytes ws) p (and_l (same_bytes (area waiting_all_size waiting_size waiting_bytes ws) p) (all (λ w. legal_body (statement_bytes w.statement)) ws) t)))

    legal : Each (λ (r : List ℕ). T (legal_body (statement_bytes (waiting_read r).statement))) rows
    unfolding queue_legal
    legal = bodies (and_r (same_bytes (area waiting_all_size waiting_size waiting_bytes ws) p) (all (λ w. legal_body (statement_bytes w.statement)) ws) t)

    sound : Each Sound rows
    sound r m = record { same = found.1 r m; legal = legal r m }

    pub queue_unused : T (unused_zero waiting_size p n)
    queue_unused = section_unused waiting_size n p found.0

    pub queue_rows : T (all row_legal rows)
    queue_rows = all_of row_legal rows (λ r m. sound_row r (wide r m).0 (wide r m).1 (sound r m))

    pub legal_queued : IsQueued p n
    legal_queued = holds_of waiting_shape p n long few found.0 (λ r m. (read_written r (wide r m).0 (wide r m).1 (sound r m), found.1 r m))

-- ---- order and processes

-- positions that rise from 1 to the last
pub order_is : (p : List ℕ) (n last : ℕ) → ascends (number_at 0 position_width) 1 last (pieces n waiting_size p) ≡ in_order last (waiting_of p n)
unfolding in_order entries waiting_read
order_is p n last =
    let f : Waiting → ℕ = λ w. w.position in
    let ws : List Waiting = waiting_of p n in
    sym (ascends_map f waiting_read 1 last (pieces n waiting_size p))
    ∙ same_test (ascends f 1 last ws) (pairwise earlier ws && all (in_time last) ws)
    (λ t. both (pairwise earlier ws) (all (in_time last) ws) (ascends_rise f 1 last ws t) (ascends_within f 1 last ws t))
    (λ t. ascends_of f 1 last ws (and_r (pairwise earlier ws) (all (in_time last) ws) t) (and_l (pairwise earlier ws) (all (in_time last) ws) t))

pub processes_are : (p : List ℕ) (n : ℕ) → IsQueued p n → pairwise (differ (waiting_body_at + process_at) process_width) (pieces n waiting_size p) ≡ pairwise other_process (waiting_of p n)
processes_are p n h =
    ap (pairwise (differ (waiting_body_at + process_at) process_width)) (holds_rows waiting_shape p n (waiting_of p n) h)
    ∙ pairwise_map (λ a b. not (eqb a b)) (number_at (waiting_body_at + process_at) process_width) (λ (w : Waiting). w.statement.process) (entry waiting_shape) (waiting_of p n) (λ w m. process_of w (h.lawful w m))
