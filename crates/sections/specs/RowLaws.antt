-- The laws of rows: bytes cut into rows and joined again, one row cut out, one more, a number in a row. Assumes nothing.
use Rattle.std.specs.Prelude.{◌≡◌, refl, ℕ, zero, suc, ◌+◌, ◌-◌, ◌*◌, ◌≤◌, ◌<◌, List, [], ◌∷◌, ◌++◌, length, take, drop, get_or, T}
use Rattle.std.proofs.Common.{sym, ap, subst, ◌∙◌, zero-mul, suc-mul, add-mul, mul-le-mul_right, arith, append_assoc, append-nil, length-append, length-drop, take-append-drop, take_at, drop_at, take_all, take-add, take-take, drop-drop, length-take-le}
use mathlib.Core.List.Memᴰ
use Rattle.std.proofs.Math.Seq.{split_at}
use Rattle.std.proofs.Math.Pow.{are_bytes}
use Rattle.basis.specs.Lists.{zeros, pad, pieces, remove_at}
use Rattle.basis.specs.ListLaws.{Each, each_nil, each-cons, each_append, remove_at_in, remove_at_length}
use Rattle.basis.specs.PadLaws.{zeros_length, pad_length, pad_split}
pub use Rattle.basis.specs.PadLaws.{zeros_add, flat_map_append}
use Rattle.basis.specs.Numbers.{big_endian, number, number_at}
use Rattle.basis.specs.NumberLaws.{bytes_take, bytes_drop, big_endian_number}
pub use Rattle.basis.specs.NumberLaws.{bytes_of_lem}
use Rattle.words.specs.Over.{over}
use Rattle.words.specs.OverLaws.{over_mid, over_append}
use Rattle.words.specs.ZeroLaws.{zerosAt→zeros, zeros→zerosAt}
use Rattle.sections.specs.Rows.{joined, Wides, Rows, Section, HasRows, rows_from, unused_zero}

-- ---- products with a size that is any

-- the place after row i
pub after : (i w : ℕ) → (i + 1) * w ≡ i * w + w
after i w = add-mul i 1 w ∙ ap (λ (k : ℕ). i * w + k) (suc-mul 0 w ∙ omega (arith, zero-mul w))

-- n rows are i, and those left
pub split_rows : (i n w : ℕ) → i ≤ n → n * w ≡ i * w + (n - i) * w
split_rows i n w h = let e : n ≡ i + (n - i) = omega arith in ap (λ (k : ℕ). k * w) e ∙ add-mul i (n - i) w

-- the places of a cut at row i of n
pub record Cuts (size n i : ℕ) : Type 0 where
  pub next : (i + 1) * size ≡ i * size + size
  pub last : (n - 1) * size ≡ i * size + (n - 1 - i) * size
  pub all : n * size ≡ (n - 1) * size + size

pub cuts : (size n i : ℕ) → i < n → Cuts size n i
cuts size n i h = record {
  next = after i size;
  last = split_rows i (n - 1) size (omega arith);
  all = let e : n ≡ n - 1 + 1 = omega arith in ap (λ (k : ℕ). k * size) e ∙ after (n - 1) size;
}

-- a row that is in use lies within the bytes
pub row_room : (size n i whole : ℕ) → n * size ≤ whole → i < n → i * size + size ≤ whole
row_room size n i whole h k = let m : (i + 1) * size ≤ n * size = mul-le-mul_right size (omega arith) in omega (arith, after i size)

-- bytes that are alike from row i on are so from a later one on
pub rows_further : (size i j : ℕ) (p q : List ℕ) → i ≤ j → rows_from size p i ≡ rows_from size q i → rows_from size p j ≡ rows_from size q j
rows_further size i j p q h e = later p ∙ ap (drop ((j - i) * size)) e ∙ sym (later q)
  where
    later : (l : List ℕ) → rows_from size l j ≡ drop ((j - i) * size) (rows_from size l i)
    later l = ap (λ (k : ℕ). drop k l) (split_rows i j size h) ∙ sym (drop-drop ((j - i) * size) (i * size) l)

-- ---- joined

pub joined_append : (rs ss : List (List ℕ)) → joined (rs ++ ss) ≡ joined rs ++ joined ss
unfolding joined
joined_append [] ss = refl
joined_append (r ∷ rs) ss = rw (joined_append rs ss) (sym (append_assoc r (joined rs) (joined ss)))

pub joined_length : (w : ℕ) (rs : List (List ℕ)) → Wides w rs → length (joined rs) ≡ length rs * w
unfolding joined
joined_length w [] h = omega (arith, zero-mul w)
joined_length w (r ∷ rs) h = length-append r (joined rs) ∙ omega (arith, h r (Memᴰ.head refl), joined_length w rs (λ s m. h s (Memᴰ.tail m)), suc-mul (length rs) w)

-- rows that are joined and cut again
pieces_joined : (w : ℕ) (rs : List (List ℕ)) (rest : List ℕ) → Wides w rs → pieces (length rs) w (joined rs ++ rest) ≡ rs
unfolding joined pieces
pieces_joined w [] rest h = refl
pieces_joined w (r ∷ rs) rest h =
    let l : length r ≡ w = h r (Memᴰ.head refl) in
    rw (append_assoc r (joined rs) rest, take_at r (joined rs ++ rest) w l, drop_at r (joined rs ++ rest) w l)
    (ap (λ (k : List (List ℕ)). r ∷ k) (pieces_joined w rs rest (λ s m. h s (Memᴰ.tail m))))

-- bytes that are cut and joined again
pub joined_pieces : (n w : ℕ) (l : List ℕ) → joined (pieces n w l) ≡ take (n * w) l
unfolding joined pieces
joined_pieces zero w l = rw (zero-mul w)
joined_pieces (suc n) w l =
    let e : suc n * w ≡ w + n * w = omega (arith, suc-mul n w) in
    rw (joined_pieces n w (drop w l), e) (sym (take-add w (n * w) l))

pub pieces_length : (n w : ℕ) (l : List ℕ) → length (pieces n w l) ≡ n
unfolding pieces
pieces_length zero w l = refl
pieces_length (suc n) w l = ap suc (pieces_length n w (drop w l))

pub pieces_wide : (n w : ℕ) (l : List ℕ) → n * w ≤ length l → Wides w (pieces n w l)
unfolding pieces
pieces_wide zero w l h = each_nil _
pieces_wide (suc n) w l h =
    let e = suc-mul n w in
    each-cons (λ (r : List ℕ). length r ≡ w) (take w l) _ (length-take-le w l (omega arith)) (pieces_wide n w (drop w l) (simp length-drop (omega arith)))

pub pieces_at : (n w : ℕ) (l : List ℕ) (i : ℕ) → i < n → get_or (pieces n w l) i [] ≡ take w (drop (i * w) l)
unfolding pieces
pieces_at zero w l i h = absurd (omega arith)
pieces_at (suc n) w l zero h = rw (zero-mul w)
pieces_at (suc n) w l (suc i) h =
    let e : w + i * w ≡ suc i * w = omega (arith, suc-mul i w) in
    pieces_at n w (drop w l) i (omega arith) ∙ rw (drop-drop (i * w) w l, e)

-- ---- a number in a row

pub take_drop_take : {A : Type 0} (k n m : ℕ) (l : List A) → k + n ≤ m → take n (drop k (take m l)) ≡ take n (drop k l)
take_drop_take zero n m l h = take-take n m l (omega arith)
take_drop_take (suc k) n zero l h = absurd (omega arith)
take_drop_take (suc k) n (suc m) [] h = refl
take_drop_take (suc k) n (suc m) (a ∷ l) h = take_drop_take k n m l (omega arith)

pub number_in_lem : (at size k w : ℕ) (b : List ℕ) → k + w ≤ size → number_at k w (take size (drop at b)) ≡ number_at (at + k) w b
unfolding number_at
number_in_lem at size k w b h = ap number (take_drop_take k w size (drop at b) h ∙ ap (take w) (drop-drop k at b))

pub number_of_row : (n size : ℕ) (p : List ℕ) (i at w : ℕ) → i < n → at + w ≤ size → number_at (i * size + at) w p ≡ number_at at w (get_or (pieces n size p) i [])
number_of_row n size p i at w h k = sym (ap (number_at at w) (pieces_at n size p i h) ∙ number_in_lem (i * size) size at w p k)

-- a number that is written again
pub number_written : (at w : ℕ) (b : List ℕ) → T (are_bytes b) → at + w ≤ length b → big_endian w (number_at at w b) ≡ take w (drop at b)
unfolding number_at
number_written at w b t h =
    let part : List ℕ = take w (drop at b) in
    let l : length part ≡ w = length-take-le w (drop at b) (simp length-drop (omega arith)) in
    subst (λ (k : ℕ). big_endian k (number part) ≡ part) l (big_endian_number part (bytes_take w (drop at b) (bytes_drop at b t)))

pub pieces_bytes : (n w : ℕ) (l : List ℕ) → T (are_bytes l) → Each (λ (r : List ℕ). T (are_bytes r)) (pieces n w l)
unfolding pieces
pieces_bytes zero w l t = each_nil _
pieces_bytes (suc n) w l t = each-cons (λ (r : List ℕ). T (are_bytes r)) (take w l) (pieces n w (drop w l)) (bytes_take w l t) (pieces_bytes n w (drop w l) (bytes_drop w l t))

-- ---- a section

-- any bytes are one whose last bytes are zero
pub section_of : (size n : ℕ) (p : List ℕ) → HasRows size p n → T (unused_zero size p n) → Section size p n
section_of size n p h t =
    let k : ℕ = n * size in
    let z : drop k p ≡ zeros (length p - k) = sym (take_all (length p - k) (drop k p) (simp length-drop (omega arith))) ∙ zerosAt→zeros p k (length p - k) (omega arith) t in
    record {
      bytes = sym (take-append-drop k p) ∙ rw (z, joined_pieces n size p);
      count = sym (pieces_length n size p);
      room = h;
      wide = pieces_wide n size p h;
    }

module _ (whole size : ℕ) (p : List ℕ) (n : ℕ) (rs : List (List ℕ)) (h : Rows whole size p n rs) where
  rows_joined : length (joined rs) ≡ n * size
  rows_joined = joined_length size rs h.wide ∙ ap (λ (k : ℕ). k * size) (sym h.count)

  pub rows_length : length p ≡ whole
  rows_length = ap length h.bytes ∙ simp (length-append, zeros_length) (omega (arith, rows_joined, h.room))

  pub rows_read : pieces n size p ≡ rs
  rows_read = rw (h.bytes, h.count) (pieces_joined size rs _ h.wide)

  pub rows_rest : drop (n * size) p ≡ zeros (whole - n * size)
  rows_rest = ap (drop (n * size)) h.bytes ∙ drop_at (joined rs) (zeros (whole - n * size)) (n * size) rows_joined

  pub section : Section size p n
  section = rw (rows_length, rows_read) h

-- past its rows are zeros
pub section_unused : (size n : ℕ) (p : List ℕ) → Section size p n → T (unused_zero size p n)
section_unused size n p s =
    zeros→zerosAt p (n * size) (length p - n * size)
    (take_all (length p - n * size) (drop (n * size) p) (simp length-drop (omega arith)) ∙ rows_rest (length p) size p n (pieces n size p) s)

-- what lies before a row, the row, what lies after it, and zeros
cut_out : (a x b z : List ℕ) (i w n : ℕ) → length a ≡ i → length x ≡ w → length b ≡ n
    → over (over (a ++ (x ++ (b ++ z))) i (drop (i + w) (a ++ (x ++ (b ++ z)))) n) (i + n) (zeros w) w ≡ a ++ (b ++ (zeros w ++ z))
cut_out a x b z i w n ha hx hb =
    let m : List ℕ = x ++ b in
    let y : List ℕ = drop n m in
    let lm : length m ≡ w + n = simp length-append (omega arith) in
    let lt : length (take n m) ≡ n = length-take-le n m (omega arith) in
    let ly : length y ≡ w = simp length-drop (omega arith) in
    let lax : length (a ++ x) ≡ i + w = simp length-append (omega arith) in
    let lab : length (a ++ b) ≡ i + n = simp length-append (omega arith) in
    let s : drop (i + w) (a ++ (x ++ (b ++ z))) ≡ b ++ z = rw (← append_assoc a x (b ++ z)) (drop_at (a ++ x) (b ++ z) (i + w) lax) in
    let q : a ++ (x ++ (b ++ z)) ≡ a ++ (take n m ++ (y ++ z)) = rw (← append_assoc x b z, ← append_assoc (take n m) y z, take-append-drop n m) in
    let one : over (a ++ (x ++ (b ++ z))) i (b ++ z) n ≡ a ++ (take n (b ++ z) ++ (y ++ z)) = rw q (over_mid a (take n m) (y ++ z) (b ++ z) i n ha lt) in
    let two : over ((a ++ b) ++ (y ++ z)) (i + n) (zeros w) w ≡ (a ++ b) ++ (take w (zeros w) ++ z) = over_mid (a ++ b) y z (zeros w) (i + n) w lab ly in
    let all : take w (zeros w) ≡ zeros w = take_all w (zeros w) (simp zeros_length (omega arith)) in
    rw (s, one, take_at b z n hb, ← append_assoc a b (y ++ z), two, all) (append_assoc a b (zeros w ++ z))

-- one row cut out: the later ones moved down, the last one's bytes cleared
pub rows_cut : (whole size : ℕ) (p q r : List ℕ) (n i : ℕ) (rs : List (List ℕ)) → Rows whole size p n rs → i < n
    → q ≡ over p (i * size) (drop ((i + 1) * size) p) ((n - 1 - i) * size) → r ≡ over q ((n - 1) * size) (zeros size) size → Rows whole size r (n - 1) (remove_at i rs)
unfolding remove_at joined
rows_cut whole size p q r n i rs h below down cleared =
    let c = h.count in
    let room = h.room in
    let a : List ℕ = joined (take i rs) in
    let x : List ℕ = get_or rs i [] in
    let b : List ℕ = joined (drop (suc i) rs) in
    let m : ℕ = whole - n * size in
    let cut : rs ≡ take i rs ++ (x ∷ drop (suc i) rs) = split_at rs i [] (omega arith) in
    let wide : Wides size (take i rs ++ (x ∷ drop (suc i) rs)) = rw (← cut) h.wide in
    let lt : length (take i rs) ≡ i = length-take-le i rs (omega arith) in
    let ld : length (drop (suc i) rs) ≡ n - 1 - i = simp length-drop (omega arith) in
    let la : length a ≡ i * size = joined_length size (take i rs) (λ s t. wide s (Memᴰ.append_left _ t)) ∙ ap (λ (k : ℕ). k * size) lt in
    let lb : length b ≡ (n - 1 - i) * size = joined_length size (drop (suc i) rs) (λ s t. wide s (Memᴰ.append_right (take i rs) (Memᴰ.tail t))) ∙ ap (λ (k : ℕ). k * size) ld in
    let lx : length x ≡ size = wide x (Memᴰ.append_right (take i rs) (Memᴰ.head refl)) in
    let old : p ≡ a ++ (x ++ (b ++ zeros m)) = h.bytes ∙ rw (ap joined cut ∙ joined_append (take i rs) (x ∷ drop (suc i) rs), append_assoc a (x ++ b) (zeros m), append_assoc x b (zeros m)) in
    let k = cuts size n i below in
    let left : whole - (n - 1) * size ≡ size + m = omega arith in
    record {
      bytes = cleared ∙ rw (down, old, k.next, k.last, cut_out a x b (zeros m) (i * size) size ((n - 1 - i) * size) la lx lb, ← k.last, left, joined_append (take i rs) (drop (suc i) rs), zeros_add size m) (sym (append_assoc a b (zeros size ++ zeros m)));
      count = omega (arith, remove_at_length i rs (omega arith));
      room = omega arith;
      wide = λ s t. h.wide s (remove_at_in i rs s t);
    }

-- one row more: its bytes after those that are there
pub rows_more : (whole size : ℕ) (p q x : List ℕ) (n : ℕ) (rs : List (List ℕ)) → Rows whole size p n rs → length x ≤ size → (n + 1) * size ≤ whole
    → q ≡ over p (n * size) x (length x) → Rows whole size q (n + 1) (rs ++ (pad size x ∷ []))
unfolding joined
rows_more whole size p q x n rs h small room stored =
    let c = h.count in
    let k : ℕ = length x in
    let m : ℕ = whole - (n + 1) * size in
    let next : (n + 1) * size ≡ n * size + size = after n size in
    let gap : List ℕ = zeros (size - k) ++ zeros m in
    let lr : length (joined rs) ≡ n * size = rows_joined whole size p n rs h in
    let sum : whole - n * size ≡ k + ((size - k) + m) = omega arith in
    let old : p ≡ joined rs ++ (zeros k ++ gap) = h.bytes ∙ rw (sum, zeros_add k ((size - k) + m), zeros_add (size - k) m) in
    let one : pad size x ≡ x ++ zeros (size - k) = pad_split size x small in
    let all : take k x ≡ x = take_all k x (omega arith) in
    record {
      bytes = stored ∙ rw (old, over_mid (joined rs) (zeros k) gap x (n * size) k lr (zeros_length k), all, joined_append rs (pad size x ∷ []), append-nil (pad size x), one, append_assoc (joined rs) (x ++ zeros (size - k)) (zeros m), append_assoc x (zeros (size - k)) (zeros m));
      count = omega (arith, length-append rs (pad size x ∷ []));
      room = room;
      wide = each_append (λ (r : List ℕ). length r ≡ size) rs _ h.wide (each-cons _ (pad size x) [] (pad_length size x) (each_nil _));
    }

-- ---- a row made in bytes that are zero

-- a row that is whole needs no more
pub pad_whole : (n : ℕ) (x : List ℕ) → length x ≡ n → pad n x ≡ x
unfolding zeros
pad_whole n x l =
    let none : n - length x ≡ 0 = omega arith in
    pad_split n x (omega arith) ∙ rw none (append-nil x)

-- right past bytes that were written
pub written_more : (d₀ d₁ d₂ : List ℕ) (at : ℕ) (x y : List ℕ) (k m : ℕ) → length x ≡ k → length y ≡ m → at + k ≤ length d₀ → d₁ ≡ over d₀ at x k → d₂ ≡ over d₁ (at + k) y m → d₂ ≡ over d₀ at (x ++ y) (k + m)
written_more d₀ d₁ d₂ at x y k m lx ly room one two = two ∙ (ap (λ (d : List ℕ). over d (at + k) y m) one ∙ over_append d₀ at x k y m room lx)

pub written_row : (size : ℕ) (d x : List ℕ) (k : ℕ) → length x ≡ k → k ≤ size → d ≡ over (zeros size) 0 x k → d ≡ pad size x
written_row size d x k l small e =
    let sum : size ≡ k + (size - k) = omega arith in
    let apart : zeros size ≡ zeros k ++ zeros (size - k) = ap zeros sum ∙ zeros_add k (size - k) in
    let all : take k x ≡ x = take_all k x (omega arith) in
    let whole : pad size x ≡ x ++ zeros (size - k) = rw (← l) (pad_split size x (omega arith)) in
    e ∙ (ap (λ (z : List ℕ). over z 0 x k) apart ∙ (over_mid [] (zeros k) (zeros (size - k)) x 0 k refl (zeros_length k) ∙ rw (all, whole)))
