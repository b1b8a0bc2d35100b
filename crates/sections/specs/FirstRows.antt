-- The first rows of some bytes: items held beside a section, put after its own or among them, and its last ones cleared; a section's rows over other bytes. Assumes nothing.
use Rattle.std.specs.Prelude.{◌≡◌, ℕ, ◌+◌, ◌-◌, ◌*◌, ◌≤◌, length, take, drop}
use Rattle.std.proofs.Math.Path.{refl}
use Rattle.std.proofs.Common.{sym, ap, ◌∙◌, add-mul, mul-le-mul_right, length-append, length-drop, take-append-drop, take_at, drop_at, drop-drop}
use Rattle.std.proofs.Math.Nat.{zero-mul}
use native.Mathlib.Omega.{arith}
use mathlib.Core.List.Memᴰ
use mathlib.Core.List.{List, [], ◌∷◌, ◌++◌, map, map-append, append_assoc, append-nil}
use Rattle.std.proofs.lemmas.List.{length-map}
use Rattle.basis.specs.Lists.{zeros}
use Rattle.basis.specs.ListLaws.{Each, each_append, each_map}
use Rattle.basis.specs.PadLaws.{zeros_length, zeros_add, drop_zeros, pad_length}
use Rattle.words.specs.Over.{over}
use Rattle.words.specs.OverLaws.{over_split, over_parts, over_alike, take_over, drop_over_at}
use Rattle.sections.specs.Rows.{joined, Wides}
use Rattle.sections.specs.RowLaws.{after, split_rows, joined_append, joined_length, rows_rest}
use Rattle.sections.specs.Shapes.{Shape, entry, Holds, holds_count}

-- ---- rows of items at the front

-- the first n rows of some bytes are these items
pub record FirstRows {A : Type 0} (k : Shape A) (b : List ℕ) (n : ℕ) (l : List A) : Type 0 where
  pub bytes : take (n * k.size) b ≡ joined (map (entry k) l)
  pub count : n ≡ length l

module _ {A : Type 0} (k : Shape A) where
  abbrev size : ℕ
  size = k.size

  abbrev whole : ℕ
  whole = k.most * k.size

  -- the rows of items, how long they are, and those of two lists
  abbrev rows_of : List A → List ℕ
  rows_of l = joined (map (entry k) l)

  entries_wide : (l : List A) → Wides size (map (entry k) l)
  entries_wide l = each_map (λ (r : List ℕ). length r ≡ size) (entry k) l (λ a m. pad_length size (k.write a))

  rows_of_length : (l : List A) (n : ℕ) → n ≡ length l → length (rows_of l) ≡ n * size
  rows_of_length l n c = joined_length size (map (entry k) l) (entries_wide l) ∙ ap (λ (j : ℕ). j * size) (length-map l (entry k) ∙ sym c)

  rows_of_append : (l r : List A) → rows_of (l ++ r) ≡ rows_of l ++ rows_of r
  rows_of_append l r = ap joined (map-append (entry k) l r) ∙ joined_append (map (entry k) l) (map (entry k) r)

  -- bytes that are rows and others after them
  rows_are : (d rest : List ℕ) (n : ℕ) (l : List A) → n ≡ length l → d ≡ rows_of l ++ rest → FirstRows k d n l × (drop (n * size) d ≡ rest)
  rows_are d rest n l c e =
      let long : length (rows_of l) ≡ n * size = rows_of_length l n c in
      (record { bytes = ap (take (n * size)) e ∙ take_at (rows_of l) rest (n * size) long; count = c }, ap (drop (n * size)) e ∙ drop_at (rows_of l) rest (n * size) long)

  -- the first m of them apart
  rows_part : (b : List ℕ) (n m : ℕ) (l r : List A) → FirstRows k b n (l ++ r) → m ≡ length l → FirstRows k b m l × (drop (m * size) b ≡ rows_of r ++ drop (n * size) b)
  rows_part b n m l r f c =
      let rest : List ℕ = drop (n * size) b in
      rows_are b (rows_of r ++ rest) m l c
      (sym (take-append-drop (n * size) b) ∙ ap (λ (x : List ℕ). x ++ rest) (f.bytes ∙ rows_of_append l r) ∙ append_assoc (rows_of l) (rows_of r) rest)

  pub rows_none : (b : List ℕ) (l : List A) → l ≡ [] → FirstRows k b 0 l
  unfolding joined
  rows_none b l e =
      let z : 0 * size ≡ 0 = omega arith in
      rw e (record { bytes = rw z; count = refl })

  pub rows_one : (b : List ℕ) (a : A) → take size b ≡ entry k a → FirstRows k b 1 (a ∷ [])
  unfolding joined
  rows_one b a e =
      let w : 1 * size ≡ size = omega (arith, after 0 size, zero-mul size) in
      record { bytes = rw (w, append-nil (entry k a)) e; count = refl }

  -- rows put after them; what stands past those is left
  pub rows_added : (b c s : List ℕ) (n h : ℕ) (l new : List A) → FirstRows k b n l → FirstRows k s h new → c ≡ over b (n * size) s (h * size)
      → FirstRows k c (n + h) (l ++ new) × (drop ((n + h) * size) c ≡ drop ((n + h) * size) b)
  rows_added b c s n h l new f g stored =
      let sum : (n + h) * size ≡ n * size + h * size = add-mul n h size in
      let rest : List ℕ = drop ((n + h) * size) b in
      let parts : c ≡ rows_of l ++ (rows_of new ++ rest) = stored ∙ over_split b (n * size) s (h * size) ∙ rw (f.bytes, g.bytes, sum) in
      rows_are c rest (n + h) (l ++ new) (omega (arith, f.count, g.count, length-append l new))
      (parts ∙ sym (ap (λ (x : List ℕ). x ++ rest) (rows_of_append l new) ∙ append_assoc (rows_of l) (rows_of new) rest))

  -- rows put in after the first m, where the p that follow are moved up before
  pub rows_put_in : (b c d s : List ℕ) (m p h : ℕ) (l r new : List A) → FirstRows k b (m + p) (l ++ r) → m ≡ length l → FirstRows k s h new → (m + h + p) * size ≤ length b
      → c ≡ over b ((m + h) * size) (drop (m * size) b) (p * size) → d ≡ over c (m * size) s (h * size)
      → FirstRows k d (m + h + p) (l ++ (new ++ r)) × (drop ((m + h + p) * size) d ≡ drop ((m + h + p) * size) b)
  rows_put_in b c d s m p h l r new f c₁ g room up stored =
      let low : (m + h) * size ≡ m * size + h * size = add-mul m h size in
      let high : (m + h + p) * size ≡ (m + h) * size + p * size = add-mul (m + h) p size in
      let few : p ≡ length r = omega (arith, f.count, length-append l r) in
      let rest : List ℕ = drop ((m + h + p) * size) b in
      let old = rows_part b (m + p) m l r f c₁ in
      let enough : p * size ≤ length (drop (m * size) b) = simp length-drop (omega arith) in
      let front : take (m * size) c ≡ rows_of l = ap (take (m * size)) up ∙ take_over b ((m + h) * size) (drop (m * size) b) (p * size) (omega arith) enough (m * size) (omega arith) ∙ old.0.bytes in
      let block : take (p * size) (drop (m * size) b) ≡ rows_of r = ap (take (p * size)) old.1 ∙ take_at (rows_of r) (drop ((m + p) * size) b) (p * size) (rows_of_length r p few) in
      let back : drop ((m + h) * size) c ≡ rows_of r ++ rest = ap (drop ((m + h) * size)) up ∙ drop_over_at b ((m + h) * size) (drop (m * size) b) (p * size) (omega arith) enough ∙ rw (block, high) in
      let parts : d ≡ rows_of l ++ (rows_of new ++ (rows_of r ++ rest)) = stored ∙ over_split c (m * size) s (h * size) ∙ rw (front, g.bytes, ← low, back) in
      rows_are d rest (m + h + p) (l ++ (new ++ r)) (omega (arith, g.count, length-append l (new ++ r), length-append new r))
      (parts ∙ rw (rows_of_append l (new ++ r), rows_of_append new r, append_assoc (rows_of l) (rows_of new ++ rows_of r) rest, append_assoc (rows_of new) (rows_of r) rest))

  -- ---- those of a section

  holds_first : (p : List ℕ) (n : ℕ) (l : List A) → Holds k p n l → FirstRows k p n l
  holds_first p n l o = (rows_are p (zeros (whole - n * size)) n l (holds_count k p n l o) o.rows.bytes).0

  -- past its rows a section is zero
  pub holds_rest : (p : List ℕ) (n : ℕ) (l : List A) → Holds k p n l → (j : ℕ) → n * size ≤ j → drop j p ≡ zeros (whole - j)
  holds_rest p n l h j past =
      let i : ℕ = j - n * size in
      let sum : n * size + i ≡ j = omega arith in
      let less : whole - n * size - i ≡ whole - j = omega arith in
      ap (λ (m : ℕ). drop m p) (sym sum) ∙ sym (drop-drop i (n * size) p) ∙ ap (drop i) (rows_rest whole size p n (map (entry k) l) h.rows) ∙ drop_zeros i (whole - n * size) ∙ ap zeros less

  -- rows of lawful items and then zeros are one
  pub rows_all : (q : List ℕ) (n : ℕ) (l : List A) → FirstRows k q n l → n ≤ k.most → Each k.Lawful l → drop (n * size) q ≡ zeros (whole - n * size) → Holds k q n l
  rows_all q n l f few lawful rest = record {
    rows = record {
      bytes = sym (take-append-drop (n * size) q) ∙ rw (f.bytes, rest);
      count = f.count ∙ sym (length-map l (entry k));
      room = mul-le-mul_right size few;
      wide = entries_wide l;
    };
    few = few;
    lawful = lawful;
  }

  -- rows put after its own
  pub holds_added : (p q b : List ℕ) (n h : ℕ) (l new : List A) → Holds k p n l → n + h ≤ k.most → Each k.Lawful new → FirstRows k b h new → q ≡ over p (n * size) b (h * size) → Holds k q (n + h) (l ++ new)
  holds_added p q b n h l new o few lawful f stored =
      let more : n * size ≤ (n + h) * size = mul-le-mul_right size (omega arith) in
      let r = rows_added p q b n h l new (holds_first p n l o) f stored in
      rows_all q (n + h) (l ++ new) r.0 few (each_append k.Lawful l new o.lawful lawful) (r.1 ∙ holds_rest p n l o ((n + h) * size) more)

  -- its last rows cleared
  pub holds_cleared : (p q : List ℕ) (n m : ℕ) (l r : List A) → Holds k p m (l ++ r) → n ≡ length l → q ≡ over p (n * size) (zeros ((m - n) * size)) ((m - n) * size) → Holds k q n l
  holds_cleared p q n m l r o c stored =
      let few : n ≤ m = omega (arith, holds_count k p m (l ++ r) o, length-append l r) in
      let all : m * size ≡ n * size + (m - n) * size = split_rows n m size few in
      let room : m * size ≤ whole = mul-le-mul_right size o.few in
      let left : whole - n * size ≡ (m - n) * size + (whole - m * size) = omega arith in
      let past : drop (n * size + (m - n) * size) p ≡ zeros (whole - m * size) = rw (← all) (holds_rest p m (l ++ r) o (m * size) (omega arith)) in
      let front = (rows_part p m n l r (holds_first p m (l ++ r) o) c).0 in
      let new = rows_are q (zeros (whole - n * size)) n l c
      (stored ∙ over_parts p (n * size) (zeros ((m - n) * size)) ((m - n) * size) (zeros_length ((m - n) * size)) ∙ rw (front.bytes, past, left, zeros_add ((m - n) * size) (whole - m * size))) in
      rows_all q n l new.0 (omega (arith, o.few)) (λ a i. o.lawful a (Memᴰ.append_left r i)) new.1

  -- ---- over other bytes

  -- its rows over zeros
  pub over_zeros : (p : List ℕ) (n : ℕ) (l : List A) → Holds k p n l → over (zeros whole) 0 p (n * size) ≡ p
  over_zeros p n l h = over_alike (zeros whole) p (n * size) (drop_zeros (n * size) whole ∙ sym (holds_rest p n l h (n * size) (omega arith)))

  -- as many rows as either of two sections has, over the other's
  pub over_section : (p q : List ℕ) (n m j : ℕ) (l o : List A) → Holds k p n l → Holds k q m o → n ≤ j → m ≤ j → over p 0 q (j * size) ≡ q
  over_section p q n m j l o h g a b =
      over_alike p q (j * size)
      (holds_rest p n l h (j * size) (mul-le-mul_right size a) ∙ sym (holds_rest q m o g (j * size) (mul-le-mul_right size b)))
