-- The shape of a section: how an item is written and read, and what makes it lawful. What is done to the rows of a section is done to its items. Assumes nothing.
use Rattle.std.specs.Prelude.{◌≡◌, refl, ℕ, zero, suc, ◌+◌, ◌-◌, ◌*◌, ◌≤◌, ◌<◌, Bool, true, false, cond, length, take, drop, get_or}
use Rattle.std.proofs.Common.{sym, ap, ◌∙◌, mul-le-mul_right, arith}
use mathlib.Core.List.{List, [], ◌∷◌, ◌++◌, map, map-append, flat_map, Memᴰ}
use Rattle.std.proofs.lemmas.List.{length-map}
use Rattle.basis.specs.Lists.{zeros, pad, keep, pieces, remove_at}
use Rattle.basis.specs.ListLaws.{Each, each_nil, each-cons, each_append, each_map, keep_in, keep_few, remove_at_in}
use Rattle.basis.specs.PadLaws.{pad_length}
use Rattle.layout.specs.States.{area, entries}
use Rattle.layout.specs.StateLaws.{map_back}
use Rattle.layout.specs.PlaceLaws.{area_unused}
use Rattle.sections.specs.Rows.{joined, Rows, Section, index_of}
use Rattle.sections.specs.RowLaws.{pieces_at, pieces_length, rows_length, rows_read, section}

-- ---- what a section says

pub record Shape (A : Type 0) : Type 1 where
  pub size : ℕ
  pub most : ℕ
  pub write : A → List ℕ
  pub read : List ℕ → A
  pub Lawful : A → Type 0
  pub back : (a : A) → Lawful a → read (pad size (write a)) ≡ a

-- an item's row
abbrev pub entry : {A : Type 0} → Shape A → A → List ℕ
entry k a = pad k.size (k.write a)

-- the first n items that a section says
abbrev pub items : {A : Type 0} → Shape A → List ℕ → ℕ → List A
items k p n = entries k.read n k.size 0 p

-- p is the section of the n items l
pub record Holds {A : Type 0} (k : Shape A) (p : List ℕ) (n : ℕ) (l : List A) : Type 0 where
  pub rows : Rows (k.most * k.size) k.size p n (map (entry k) l)
  pub few : n ≤ k.most
  pub lawful : Each k.Lawful l

-- ---- rows of items

remove_at_map : {A B : Type 0} (f : A → B) (i : ℕ) (l : List A) → remove_at i (map f l) ≡ map f (remove_at i l)
unfolding remove_at
remove_at_map f zero [] = refl
remove_at_map f zero (a ∷ l) = refl
remove_at_map f (suc i) [] = refl
remove_at_map f (suc i) (a ∷ l) = ap (λ r. f a ∷ r) (remove_at_map f i l)

keep_map : {A B : Type 0} (t : B → Bool) (u : A → Bool) (f : A → B) (l : List A) → Each (λ (a : A). t (f a) ≡ u a) l → keep t (map f l) ≡ map f (keep u l)
unfolding keep
keep_map t u f [] h = refl
keep_map {A} {B} t u f (a ∷ l) h = rw (h a (Memᴰ.head refl)) (go (u a) (keep_map t u f l (λ b m. h b (Memᴰ.tail m))))
  where
    go : (b : Bool) → keep t (map f l) ≡ map f (keep u l) → cond b (f a ∷ keep t (map f l)) (keep t (map f l)) ≡ map f (cond b (a ∷ keep u l) (keep u l))
    go true e = ap (λ (r : List B). f a ∷ r) e
    go false e = e

index_map : {A B : Type 0} (t : B → Bool) (u : A → Bool) (f : A → B) (l : List A) → Each (λ (a : A). t (f a) ≡ u a) l → index_of t (map f l) ≡ index_of u l
unfolding index_of
index_map t u f [] h = refl
index_map t u f (a ∷ l) h = rw (h a (Memᴰ.head refl), index_map t u f l (λ b m. h b (Memᴰ.tail m)))

pub get_d_member : {A : Type 0} (l : List A) (d : A) (i : ℕ) → i < length l → Memᴰ (get_or l i d) l
get_d_member [] d i h = absurd (omega arith)
get_d_member (a ∷ l) d zero h = Memᴰ.head refl
get_d_member (a ∷ l) d (suc i) h = Memᴰ.tail (get_d_member l d i (omega arith))

-- item i is what row i says, whatever the bytes are
pub item_at : {A : Type 0} (k : Shape A) (p : List ℕ) (n : ℕ) (none : A) (i : ℕ) → i < n → get_or (items k p n) i none ≡ k.read (take k.size (drop (i * k.size) p))
unfolding entries
item_at {A} k p n none i h = at (pieces n k.size p) i (omega (arith, pieces_length n k.size p)) ∙ ap k.read (pieces_at n k.size p i h)
  where
    at : (rs : List (List ℕ)) (i : ℕ) → i < length rs → get_or (map k.read rs) i none ≡ k.read (get_or rs i [])
    at [] i h = absurd (omega arith)
    at (r ∷ rs) zero h = refl
    at (r ∷ rs) (suc i) h = at rs i (omega arith)

pub entries_length : {A : Type 0} (read : List ℕ → A) (n size at : ℕ) (b : List ℕ) → length (entries read n size at b) ≡ n
unfolding entries
entries_length read n size at b = length-map (pieces n size (drop at b)) read ∙ pieces_length n size (drop at b)

pub items_length : {A : Type 0} (k : Shape A) (p : List ℕ) (n : ℕ) → length (items k p n) ≡ n
items_length k p n = entries_length k.read n k.size 0 p

-- ---- the laws, of every shape

module _ {A : Type 0} (k : Shape A) (p : List ℕ) (n : ℕ) (l : List A) (h : Holds k p n l) where
  abbrev whole : ℕ
  whole = k.most * k.size

  pub holds_length : length p ≡ k.most * k.size
  holds_length = rows_length whole k.size p n (map (entry k) l) h.rows

  pub holds_count : n ≡ length l
  holds_count = h.rows.count ∙ length-map l (entry k)

  pub holds_room : n * k.size ≤ length p
  holds_room = omega (arith, holds_length, h.rows.room)

  pub holds_rows : pieces n k.size p ≡ map (entry k) l
  holds_rows = rows_read whole k.size p n (map (entry k) l) h.rows

  -- as the functions ask for it
  pub holds_section : Section k.size p n
  holds_section = section whole k.size p n (map (entry k) l) h.rows

  -- it is read as its items
  pub holds_read : items k p n ≡ l
  unfolding entries
  holds_read = rw holds_rows (map_back (entry k) k.read l (λ a m. k.back a (h.lawful a m)))

  pub holds : Holds k p n (items k p n)
  holds = rw holds_read h

  -- the bytes of a row
  pub holds_row : (none : A) (i : ℕ) → i < n → take k.size (drop (i * k.size) p) ≡ entry k (get_or l i none)
  holds_row none i b = sym (pieces_at n k.size p i b) ∙ ap (λ (rs : List (List ℕ)). get_or rs i []) holds_rows ∙ at l i (omega (arith, holds_count))
    where
      at : (l : List A) (i : ℕ) → i < length l → get_or (map (entry k) l) i [] ≡ entry k (get_or l i none)
      at [] i b = absurd (omega arith)
      at (a ∷ l) zero b = refl
      at (a ∷ l) (suc i) b = at l i (omega arith)

  pub holds_lawful : (none : A) (i : ℕ) → i < n → k.Lawful (get_or l i none)
  holds_lawful none i b = h.lawful (get_or l i none) (get_d_member l none i (omega (arith, holds_count)))

  -- one cut out
  pub holds_cut : (q : List ℕ) (i : ℕ) → Rows (length p) k.size q (n - 1) (remove_at i (pieces n k.size p)) → Holds k q (n - 1) (remove_at i l)
  holds_cut q i r = record {
    rows = rw (holds_length, holds_rows, remove_at_map (entry k) i l) at r;
    few = omega (arith, h.few);
    lawful = λ a m. h.lawful a (remove_at_in i l a m);
  }

  -- those that pass a test kept
  pub holds_keep : (t : List ℕ → Bool) (u : A → Bool) → ((a : A) → k.Lawful a → t (entry k a) ≡ u a) → (q : List ℕ) (m : ℕ) → Rows (length p) k.size q m (keep t (pieces n k.size p)) → Holds k q m (keep u l)
  holds_keep t u same q m r =
      let rows : Rows whole k.size q m (map (entry k) (keep u l)) = rw (holds_length, holds_rows, keep_map t u (entry k) l (λ a i. same a (h.lawful a i))) at r in
      let c : m ≡ length (keep u l) = rows.count ∙ length-map (keep u l) (entry k) in
      record { rows = rows; few = omega (arith, keep_few u l, holds_count, h.few); lawful = λ a i. h.lawful a (keep_in u l a i) }

  -- one more
  pub holds_more : (q x : List ℕ) (a : A) → n < k.most → k.Lawful a → x ≡ entry k a → Rows (length p) k.size q (n + 1) (pieces n k.size p ++ (x ∷ [])) → Holds k q (n + 1) (l ++ (a ∷ []))
  holds_more q x a few lawful e r = record {
    rows = rw (holds_length, holds_rows, e, ← map-append (entry k) l (a ∷ [])) at r;
    few = omega arith;
    lawful = each_append k.Lawful l (a ∷ []) h.lawful (each-cons k.Lawful a [] lawful (each_nil k.Lawful));
  }

  -- the first that passes a test
  pub holds_index : (t : List ℕ → Bool) (u : A → Bool) → ((a : A) → k.Lawful a → t (entry k a) ≡ u a) → index_of t (pieces n k.size p) ≡ index_of u l
  holds_index t u same = ap (index_of t) holds_rows ∙ index_map t u (entry k) l (λ a i. same a (h.lawful a i))

-- ---- the layout's word for it

joined_map : {A : Type 0} (f : A → List ℕ) (l : List A) → joined (map f l) ≡ flat_map f l
unfolding joined flat_map
joined_map f [] = refl
joined_map f (a ∷ l) = ap (λ (r : List ℕ). f a ++ r) (joined_map f l)

area_rows : {A : Type 0} (k : Shape A) (l : List A) → length l ≤ k.most → Rows (k.most * k.size) k.size (area (k.most * k.size) k.size k.write l) (length l) (map (entry k) l)
area_rows k l few =
    let fits : length l * k.size ≤ k.most * k.size = mul-le-mul_right k.size few in
    record {
      bytes = area_unused (k.most * k.size) k.size k.write l fits ∙ rw (joined_map (entry k) l);
      count = sym (length-map l (entry k));
      room = fits;
      wide = each_map (λ (r : List ℕ). length r ≡ k.size) (entry k) l (λ a m. pad_length k.size (k.write a));
    }

pub area_holds : {A : Type 0} (k : Shape A) (l : List A) → length l ≤ k.most → Each k.Lawful l → Holds k (area (k.most * k.size) k.size k.write l) (length l) l
area_holds k l few lawful = record { rows = area_rows k l few; few = few; lawful = lawful }

pub holds_area : {A : Type 0} (k : Shape A) (p : List ℕ) (n : ℕ) (l : List A) → Holds k p n l → p ≡ area (k.most * k.size) k.size k.write l
holds_area k p n l h =
    let c = holds_count k p n l h in
    h.rows.bytes ∙ rw c (sym (area_rows k l (omega (arith, h.few))).bytes)

-- ---- bytes that are found to be a section, or not

-- a row that is what it is read as
abbrev pub Same : {A : Type 0} → Shape A → List ℕ → Type 0
Same k r = entry k (k.read r) ≡ r

-- where past the rows are zeros and each row is what it is read as, the bytes are the area of what they say
pub area_same : {A : Type 0} (k : Shape A) (p : List ℕ) (n : ℕ) → length p ≡ k.most * k.size → n ≤ k.most → Section k.size p n → Each (Same k) (pieces n k.size p)
    → p ≡ area (k.most * k.size) k.size k.write (items k p n)
unfolding entries
area_same k p n long few s each =
    let same : map (entry k) (map k.read (pieces n k.size p)) ≡ pieces n k.size p = map_back k.read (entry k) (pieces n k.size p) each in
    let rows : Rows (k.most * k.size) k.size p n (map (entry k) (items k p n)) = rw (same, ← long) s in
    let c = items_length k p n in
    rows.bytes
    ∙ (ap (λ (m : ℕ). joined (map (entry k) (items k p n)) ++ zeros (k.most * k.size - m * k.size)) (sym c) ∙ sym (area_rows k (items k p n) (omega arith)).bytes)

-- where past the rows are zeros and each row is a lawful item's
pub holds_of : {A : Type 0} (k : Shape A) (p : List ℕ) (n : ℕ) → length p ≡ k.most * k.size → n ≤ k.most → Section k.size p n
    → Each (λ (r : List ℕ). k.Lawful (k.read r) × Same k r) (pieces n k.size p) → Holds k p n (items k p n)
unfolding entries
holds_of {A} k p n long few s each =
    let same : map (entry k) (map k.read (pieces n k.size p)) ≡ pieces n k.size p = map_back k.read (entry k) (pieces n k.size p) (λ r m. (each r m).1) in
    record { rows = rw (same, ← long) s; few = few; lawful = each_map k.Lawful k.read (pieces n k.size p) (λ r m. (each r m).0) }

-- and only there: bytes that are the area of what they say
pub area_of : {A : Type 0} (k : Shape A) (p : List ℕ) (n : ℕ) → n ≤ k.most → p ≡ area (k.most * k.size) k.size k.write (items k p n) → Section k.size p n × Each (Same k) (pieces n k.size p)
unfolding entries
area_of k p n few e =
    let c = items_length k p n in
    let rows : Rows (k.most * k.size) k.size p n (map (entry k) (items k p n)) = rw (← e, c) at (area_rows k (items k p n) (omega arith)) in
    (section (k.most * k.size) k.size p n _ rows, fixed (pieces n k.size p) (rows_read (k.most * k.size) k.size p n _ rows))
  where
    fixed : (rs : List (List ℕ)) → rs ≡ map (entry k) (map k.read rs) → Each (Same k) rs
    fixed [] q = each_nil _
    fixed (r ∷ rs) q = each-cons (Same k) r rs (sym (ap (λ (l : List (List ℕ)). get_or l 0 r) q)) (fixed rs (ap (drop 1) q))
