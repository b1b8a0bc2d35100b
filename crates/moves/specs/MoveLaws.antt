-- A move under way: one tuple more, moved or kept, and how it ends. Assumes nothing.
use Rattle.std.specs.Prelude.{◌≡◌, refl, true, false, length, drop}
use Rattle.std.proofs.Common.{sym, ◌∙◌, length-append, length-drop, take-append-drop, drop_of_length-le, length-take-le}
use Rattle.std.proofs.Math.Path.{ap}
use Prim.Native.Nat.{ℕ, ◌+◌, ◌-◌, ◌*◌, ◌≤◌, ◌<◌}
use native.Mathlib.Omega.{arith}
use mathlib.Core.List.{List, [], ◌∷◌, ◌++◌, append_assoc, append-nil}
use Rattle.std.proofs.Math.ListN.{take}
use Rattle.std.proofs.Math.Seq.{take_all}
use Rattle.std.proofs.lemmas.List.{take-append-le, drop-append-le}
use Rattle.basis.specs.Lists.{keep}
use Rattle.basis.specs.ListLaws.{Each, each_append}
use Rattle.basis.specs.Sizes.{space_numbers, tuple_size}
use Rattle.model.specs.Matching.{Tuple, selected}
use Rattle.model.specs.Execution.{in_space, moved}
use Rattle.words.specs.OverLaws.{over_own}
use Rattle.sections.specs.Rows.{HasRows, rows_from, rows_over}
use Rattle.sections.specs.RowLaws.{rows_further}
use Rattle.sections.specs.Shapes.{items_length, holds_length}
use Rattle.sections.specs.FirstRows.{FirstRows, rows_none, rows_one, rows_added, rows_put_in, rows_all, holds_rest}
use Rattle.tuples.specs.Section.{Legal, tuple_shape, entry_bytes, entry_at, tuple_at, tuples_of, Holds, Section}
use Rattle.tuples.specs.SectionLaws.{entry_is}
use Rattle.matching.specs.declared.Template.{Template}
use Rattle.matching.specs.Meaning.{template_is}
use Rattle.tuples.specs.Entry.{with_space}
use Rattle.moves.specs.Moves.{others, relocated, Parted, Keeps}
use Rattle.moves.specs.SelectedLaws.{tested, others_no, others_yes, others_legal, relocated_no, relocated_yes, relocated_legal, relocated_row}

-- ---- one step

module _ {p a b : List ℕ} {m k i : ℕ} {os rs : List Tuple} (h : Parted p a b m k i os rs) where
  -- the row that comes next, and those after it
  parted_entry : entry_at a i ≡ entry_at p i
  unfolding entry_at
  parted_entry = ap (take tuple_size) h.back

  parted_row : (u : Tuple) → entry_at p i ≡ entry_bytes u → FirstRows tuple_shape (rows_from tuple_size a i) 1 (u ∷ [])
  unfolding entry_at
  parted_row u is = rows_one tuple_shape (rows_from tuple_size a i) u (parted_entry ∙ is)

  later : rows_from tuple_size a (i + 1) ≡ rows_from tuple_size p (i + 1)
  later = rows_further tuple_size i (i + 1) a p (omega arith) h.back

  -- how many others there are, and how many that were moved
  others_count : length os + k ≡ i
  others_count = omega (arith, h.kept.count, length-drop m os, h.room, h.few)

  moved_count : k ≡ length rs
  moved_count = omega (arith, h.front.count, length-append (take m os) rs, length-take-le m os h.few)

  -- one that is moved
  parted_moved : (u : Tuple) (to : ℕ) (c : List ℕ) → entry_at p i ≡ entry_bytes u → HasRows tuple_size a (i + 1) → c ≡ rows_over tuple_size a (m + k) (with_space to (rows_from tuple_size a i)) 1
      → Parted p c b m (k + 1) (i + 1) os (rs ++ (in_space to u ∷ []))
  parted_moved u to c is room stored =
      let x : List Tuple = in_space to u ∷ [] in
      let r = rows_added tuple_shape a c (with_space to (rows_from tuple_size a i)) (m + k) 1 (take m os ++ rs) x h.front (relocated_row a i to u room (parted_entry ∙ is)) stored in
      let below = h.room in
      let one : m + k + 1 ≡ m + (k + 1) = omega arith in
      let gap : i + 1 - (m + (k + 1)) ≡ i - (m + k) = omega arith in
      record {
        room = omega arith;
        few = h.few;
        early = λ z. absurd (omega arith);
        front = rw (one, append_assoc (take m os) rs x) at r.0;
        kept = rw gap h.kept;
        back = rows_further tuple_size (m + k + 1) (i + 1) c a (omega arith) r.1 ∙ later;
      }

  -- those that are held put in
  parted_put_in : (x : ℕ) (d : List ℕ) → m + x + k ≡ i → HasRows tuple_size a i → d ≡ rows_over tuple_size (rows_over tuple_size a (m + x) (rows_from tuple_size a m) k) m b x → Parted p d b (m + x) k i os rs
  parted_put_in x d all room stored =
      let gap : i - (m + k) ≡ x = omega arith in
      let none : i - (m + x + k) ≡ 0 = omega arith in
      let past : length os ≤ m + x = omega (arith, others_count) in
      let r = rows_put_in tuple_shape a _ d b m k x (take m os) rs (drop m os) h.front (sym (length-take-le m os h.few)) (rw gap at h.kept) (omega arith) refl stored in
      let list : take m os ++ (drop m os ++ rs) ≡ take (m + x) os ++ rs = sym (append_assoc (take m os) (drop m os) rs) ∙ rw (take-append-drop m os, take_all (m + x) os past) in
      record {
        room = omega arith;
        few = omega (arith, others_count);
        early = λ z. omega arith;
        front = rw list at r.0;
        kept = rw none (rows_none tuple_shape b (drop (m + x) os) (drop_of_length-le os past));
        back = rw all at r.1 ∙ h.back;
      }

  -- all are seen, and none is held
  parted_all : m + k ≡ i → Section p i → Each Legal os → Each Legal rs → Holds a i (os ++ rs)
  parted_all all s legal lawful =
      let same : take m os ≡ os = take_all m os (omega (arith, others_count)) in
      rows_all tuple_shape a i (os ++ rs) (rw (all, same) at h.front) s.few (each_append Legal os rs legal lawful) (h.back ∙ holds_rest tuple_shape p i (tuples_of p i) s (i * tuple_size) (omega arith))

-- one of the others
module _ {a b : List ℕ} {m k i : ℕ} where
  -- it stays, where none was moved
  pub keeps_in_place : k ≡ 0 → Keeps a b a b m k i (m + 1)
  keeps_in_place z p os rs u h is =
      let next : List Tuple = os ++ (u ∷ []) in
      let count = others_count h in
      let here : m ≡ i = h.early z in
      let no : length rs ≤ 0 = omega (arith, moved_count h) in
      let none : rs ≡ [] = drop_of_length-le rs no in
      let old : take m os ≡ os = take_all m os (omega arith) in
      let past : length next ≤ m + 1 = omega (arith, length-append os (u ∷ [])) in
      let same : m + k ≡ i = omega arith in
      let r = (rows_added tuple_shape a a (rows_from tuple_size a i) (m + k) 1 (take m os ++ rs) (u ∷ []) h.front (parted_row h u is) (rw same (sym (over_own a (i * tuple_size) tuple_size)))).0 in
      let one : m + 1 + k ≡ m + k + 1 = omega arith in
      let gap : i + 1 - (m + 1 + k) ≡ 0 = omega arith in
      record {
        room = omega arith;
        few = omega (arith, length-append os (u ∷ []));
        early = λ y. omega arith;
        front = rw (take_all (m + 1) next past, none, append-nil next, one) (rw (old, none, append-nil os) at r);
        kept = rw gap (rows_none tuple_shape b (drop (m + 1) next) (drop_of_length-le next past));
        back = later h;
      }

  module _ {c : List ℕ} (some : k ≡ 0 → ⊥) (stored : c ≡ rows_over tuple_size b (i - (m + k)) (rows_from tuple_size a i) 1) where
    -- it is held
    pub keeps_held : Keeps a b a c m k i m
    keeps_held p os rs u h is =
        let r = (rows_added tuple_shape b c (rows_from tuple_size a i) (i - (m + k)) 1 (drop m os) (u ∷ []) h.kept (parted_row h u is) stored).0 in
        let below = h.room in
        let one : i - (m + k) + 1 ≡ i + 1 - (m + k) = omega arith in
        record {
          room = omega arith;
          few = omega (arith, h.few, length-append os (u ∷ []));
          early = λ z. absurd (some z);
          front = rw (take-append-le m os (u ∷ []) h.few) h.front;
          kept = rw (drop-append-le m os (u ∷ []) h.few) (rw one at r);
          back = later h;
        }

    -- and all that are held are put in
    pub keeps_put_in : (x : ℕ) (d : List ℕ) → m + x + k ≡ i + 1 → HasRows tuple_size a (i + 1) → d ≡ rows_over tuple_size (rows_over tuple_size a (m + x) (rows_from tuple_size a m) k) m c x → Keeps a b d c m k i (m + x)
    keeps_put_in x d all room put p os rs u h is = parted_put_in (keeps_held p os rs u h is) x d all room put

-- ---- the pass

abbrev pub Moving : (t : Template) (to : ℕ) (p : List ℕ) (n : ℕ) (a b : List ℕ) (m k i : ℕ) → Type 0
Moving t to p n a b m k i = Parted p a b m k i (others t (take i (tuples_of p n))) (relocated t to (take i (tuples_of p n)))

pub moving_start : (t : Template) (to : ℕ) (p b : List ℕ) (n : ℕ) → Moving t to p n p b 0 0 0
unfolding others relocated keep
moving_start t to p b n = record { room = omega arith; few = omega arith; early = λ z. refl; front = rows_none tuple_shape p [] refl; kept = rows_none tuple_shape b [] refl; back = refl }

module _ (t : Template) (to : ℕ) {p : List ℕ} {n : ℕ} (s : Section p n) {a b : List ℕ} {m k i : ℕ} (h : Moving t to p n a b m k i) where
  pub moving_yes : (c : List ℕ) → i < n → HasRows tuple_size a (i + 1) → selected (template_is t) (tuple_at a i) ≡ true → c ≡ rows_over tuple_size a (m + k) (with_space to (rows_from tuple_size a i)) 1
      → Moving t to p n c b m (k + 1) (i + 1)
  moving_yes c below room e stored =
      let y = tested t p a i true (parted_entry h) e in
      rw (others_no t to p n i below y, relocated_yes t to p n i below y) (parted_moved h (tuple_at p i) to c (entry_is p n i s below) room stored)

  pub moving_no : (c d : List ℕ) (r : ℕ) → i < n → selected (template_is t) (tuple_at a i) ≡ false → Keeps a b c d m k i r → Moving t to p n c d r k (i + 1)
  moving_no c d r below e keeps =
      let y = tested t p a i false (parted_entry h) e in
      rw (others_yes t to p n i below y, relocated_no t to p n i below y) (keeps p _ _ (tuple_at p i) h (entry_is p n i s below))

  pub moving_end : (d : List ℕ) → to < space_numbers → n ≤ i → i ≤ n → length a ≡ length p → d ≡ rows_over tuple_size (rows_over tuple_size a (m + (n - (m + k))) (rows_from tuple_size a m) k) m b (n - (m + k))
      → Holds d n (moved (selected (template_is t)) to (tuples_of p n))
  unfolding moved others relocated
  moving_end d small past upto long stored =
      let ts : List Tuple = tuples_of p n in
      let l = items_length tuple_shape p n in
      let e : i ≡ n = omega arith in
      let all : take i ts ≡ ts = take_all i ts (omega arith) in
      let last : Parted p a b m k n (others t ts) (relocated t to ts) = rw (all, e) at h in
      let below = last.room in
      let x : ℕ = n - (m + k) in
      let sum : m + x + k ≡ n = omega arith in
      parted_all (parted_put_in last x d sum (omega (arith, holds_length tuple_shape p n ts s, s.few)) stored) sum s (others_legal t ts s.lawful) (relocated_legal t to ts small s.lawful)
