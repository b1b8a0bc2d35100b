-- The laws of the parts: a run's bytes are its parts, a part that is written leaves every other, what a row of the header says, and the run whose row or section was written. Assumes nothing.
use Rattle.std.specs.Prelude.{◌≡◌, refl, ℕ, zero, suc, ◌+◌, ◌-◌, ◌*◌, ◌≤◌, ◌<◌, ◌%◌, Bool, length, get_or, set}
use Rattle.std.proofs.Math.Path.{sym}
use Rattle.std.proofs.Common.{ap, ◌∙◌, zero-add, arith, get_or-set_same, get_or-set_other}
use mathlib.Core.List.{List, [], ◌∷◌, map, flat_map, append-nil}
use Rattle.std.proofs.lemmas.List.{length-map}
use Rattle.basis.specs.Lists.{count_from, zeros, pad}
use Rattle.basis.specs.ListLaws.{count_from_length}
use Rattle.basis.specs.IndexLaws.{map_set, map_at, set_front}
use Rattle.basis.specs.Numbers.{big_endian, number_at, mask, bits}
use Rattle.basis.specs.NumberLaws.{big_endian_length, one_byte}
use Rattle.basis.specs.Sizes.{position_width, mask_width, count_width, next_width, tuple_count_width, hosts, most_monitors, last_at, mask_at, monitors_at, next_at, space_count_at, tuple_count_at, waiting_count_at, owed_at, header_used, header_size, space_size, tuple_size, waiting_size, spaces_size, tuples_size, waiting_all_size, spaces_at, tuples_at, waiting_at}
use Rattle.model.specs.Run.{Run, with_last, with_up, with_monitors, with_owed, owed_mask}
use Rattle.model.proofs.Fit.{Fit}
use Rattle.layout.specs.States.{hosts_bytes, owed_bytes, header_bytes, space_bytes, tuple_bytes, waiting_bytes, area, encode, byte_at, space_read, tuple_read, waiting_read, hosts_at, decode}
use Rattle.layout.specs.StateLaws.{area_length, encode_length}
use Rattle.layout.specs.Stored.{Stored}
use Rattle.words.specs.Over.{over}
use Rattle.words.specs.OverLaws.{over_lent, over_set}
use Rattle.words.specs.WordLaws.{number_at_1}
use Rattle.sections.specs.Rows.{joined}
use Rattle.sections.specs.Parts.{place_in, part_written}
use Rattle.sections.specs.Shapes.{Shape, Holds, entries_length, holds_length, holds_count, holds_area}
use Rattle.header.specs.Rows.{widths, parts_of, last_part, mask_part, monitors_part, owed_part, Cut, with_row, with_part}

-- ---- the parts

pub encode_parts : (s : Run) → Cut (encode s) (parts_of s)
unfolding encode header_bytes owed_bytes owed_mask count_from flat_map parts_of joined pad zeros big_endian
encode_parts s = record {
  bytes = rw (append-nil (area waiting_all_size waiting_size waiting_bytes s.waiting));
  widths = rw (area_length spaces_size space_size space_bytes s.spaces, area_length tuples_size tuple_size tuple_bytes s.tuples, area_length waiting_all_size waiting_size waiting_bytes s.waiting);
}

pub stored_parts : (b : List ℕ) (s : Run) → Stored b s → Cut b (parts_of s)
stored_parts b s h = rw h.bytes (encode_parts s)

pub is_stored : (b : List ℕ) (s : Run) → b ≡ encode s → Fit s → Stored b s
is_stored b s e f = record { bytes = e; long = ap length e ∙ encode_length s; fit = f }

pub parts_stored : (b : List ℕ) (s : Run) → Cut b (parts_of s) → Fit s → Stored b s
parts_stored b s p f = is_stored b s (p.bytes ∙ sym (encode_parts s).bytes) f

module _ (b : List ℕ) (ps : List (List ℕ)) (p : Cut b ps) where
  -- a row that is written leaves every other, and all sections
  pub row_written : (r : ℕ) → r < length widths → (n : ℕ) → Cut (with_row r n b) (set ps r (big_endian (get_or widths r 0) n))
  row_written r below n = part_written widths b ps p r below (big_endian (get_or widths r 0) n) (big_endian_length (get_or widths r 0) n)

  -- so does a section that was lent and comes back
  part_lent : (r : ℕ) → r < length widths → (x : List ℕ) → length x ≡ get_or widths r 0 → Cut (with_part r b x) (set ps r x)
  part_lent r below x e = rw (over_lent b x (place_in widths r) (get_or widths r 0) e) (part_written widths b ps p r below x e)

-- a section that was lent, and its count written
pub section_written : {A : Type 0} (k : Shape A) (b x : List ℕ) (ps : List (List ℕ)) → Cut b ps → (r c : ℕ) → r < length widths → c < length widths → k.most * k.size ≡ get_or widths r 0
    → (n : ℕ) (l : List A) → Holds k x n l → Cut (with_row c n (with_part r b x)) (set (set ps r (area (k.most * k.size) k.size k.write l)) c (big_endian (get_or widths c 0) (length l)))
section_written k b x ps p r c below counted whole n l q =
    rw (← holds_area k x n l q, ← holds_count k x n l q) (row_written (with_part r b x) (set ps r x) (part_lent b ps p r below x (holds_length k x n l q ∙ whole)) c counted n)

-- ---- a stored run with one row written

module _ {b b' : List ℕ} {s : Run} (h : Stored b s) where
  pub last_changed : {n : ℕ} → Fit (with_last s n) → b' ≡ with_row last_part n b → Stored b' (with_last s n)
  unfolding parts_of
  last_changed {n} f e = parts_stored b' (with_last s n) (rw e (row_written b (parts_of s) (stored_parts b s h) last_part (omega arith) n)) f

  pub up_changed : {us : List Bool} → Fit (with_up s us) → b' ≡ with_row mask_part (mask us) b → Stored b' (with_up s us)
  unfolding parts_of
  up_changed {us} f e = parts_stored b' (with_up s us) (rw e (row_written b (parts_of s) (stored_parts b s h) mask_part (omega arith) (mask us))) f

  pub monitors_changed : {n : ℕ} → Fit (with_monitors s n) → b' ≡ with_row monitors_part n b → Stored b' (with_monitors s n)
  unfolding parts_of
  monitors_changed {n} f e =
      let all : Cut b' (set (parts_of s) monitors_part (big_endian count_width n)) = rw e (row_written b (parts_of s) (stored_parts b s h) monitors_part (omega arith) n) in
      parts_stored b' (with_monitors s n) (rw (one_byte n (omega (arith, f.monitors))) at all) f

-- where the mask of a place stands
owed_place : (i : ℕ) → i < most_monitors → (place_in widths (owed_part + i) ≡ owed_at + i * mask_width) × (get_or widths (owed_part + i) 0 ≡ mask_width)
owed_place zero low = (refl, refl)
owed_place (suc zero) low = (refl, refl)
owed_place (suc (suc zero)) low = (refl, refl)
owed_place (suc (suc (suc zero))) low = (refl, refl)
owed_place (suc (suc (suc (suc zero)))) low = (refl, refl)
owed_place (suc (suc (suc (suc (suc zero))))) low = (refl, refl)
owed_place (suc (suc (suc (suc (suc (suc zero)))))) low = (refl, refl)
owed_place (suc (suc (suc (suc (suc (suc (suc zero))))))) low = (refl, refl)
owed_place (suc (suc (suc (suc (suc (suc (suc (suc i)))))))) low = absurd (omega arith)

pub owed_row_lem : (b : List ℕ) (n i : ℕ) → i < most_monitors → over b (owed_at + i * mask_width) (big_endian mask_width n) mask_width ≡ with_row (owed_part + i) n b
owed_row_lem b n i low = rw ((owed_place i low).0, (owed_place i low).1)

-- the parts with one mask changed
owed_parts : (s : Run) (i : ℕ) (us : List Bool) → i < most_monitors → i < length s.owed → set (parts_of s) (owed_part + i) (hosts_bytes us) ≡ parts_of (with_owed s (set s.owed i us))
unfolding parts_of count_from
owed_parts s i us low inside =
    let at : owed_part + i ≡ suc (suc (suc (suc (suc (suc (suc (suc i))))))) = omega arith in
    let f : ℕ → List ℕ = λ j. hosts_bytes (get_or s.owed j []) in
    let g : ℕ → List ℕ = λ j. hosts_bytes (get_or (set s.owed i us) j []) in
    let rows : List (List ℕ) = map f (count_from most_monitors 0) in
    let rest : List (List ℕ) = zeros (header_size - header_used) ∷ area spaces_size space_size space_bytes s.spaces ∷ area tuples_size tuple_size tuple_bytes s.tuples ∷ area waiting_all_size waiting_size waiting_bytes s.waiting ∷ [] in
    let here : hosts_bytes us ≡ g (0 + i) = ap (λ (vs : List Bool). hosts_bytes vs) (sym (ap (λ (k : ℕ). get_or (set s.owed i us) k []) (zero-add i) ∙ get_or-set_same s.owed i us [] inside)) in
    let changed : set rows i (hosts_bytes us) ≡ map g (count_from most_monitors 0) = ap (set rows i) here ∙ map_set f g most_monitors 0 i low (λ j d. ap (λ (vs : List Bool). hosts_bytes vs) (sym (get_or-set_other s.owed i j us [] (λ e. d (e ∙ sym (zero-add i)))))) in
    rw (at, set_front rows rest i (hosts_bytes us) (rw (length-map (count_from most_monitors 0) f, count_from_length most_monitors 0) low), changed)

-- a mask written anew
pub owed_changed : {b b' : List ℕ} {s : Run} → Stored b s → (i : ℕ) (us : List Bool) → i < most_monitors → Fit (with_owed s (set s.owed i us)) → b' ≡ with_row (owed_part + i) (mask us) b → Stored b' (with_owed s (set s.owed i us))
owed_changed {b} {b'} {s} h i us low f e =
    let all : Cut b' (set (parts_of s) (owed_part + i) (big_endian (get_or widths (owed_part + i) 0) (mask us))) = rw e (row_written b (parts_of s) (stored_parts b s h) (owed_part + i) (omega arith) (mask us)) in
    parts_stored b' (with_owed s (set s.owed i us)) (rw ((owed_place i low).1, owed_parts s i us low (omega (arith, h.fit.owed.masks.places))) at all) f

-- ---- what the rows say

-- one byte of it, as a number, and written
pub byte_read : (b : List ℕ) (at r : ℕ) → at < length b → r ≡ get_or b at 0 → r ≡ number_at at 1 b
byte_read b at r h e = e ∙ sym (number_at_1 at b h)

pub byte_row : (b : List ℕ) (at n : ℕ) → at < length b → n < 256 → set b at n ≡ over b at (big_endian 1 n) 1
unfolding big_endian
byte_row b at n h small =
    let e : n % 256 ≡ n = omega arith in
    over_set b at n h ∙ rw e

pub last_says : (b : List ℕ) → number_at last_at position_width b ≡ (decode b).last
unfolding decode
last_says b = refl

pub hosts_say : (b : List ℕ) → bits hosts (number_at mask_at mask_width b) ≡ (decode b).up
unfolding decode hosts_at
hosts_say b = refl

pub owed_say : (b : List ℕ) (i : ℕ) → i < most_monitors → bits hosts (number_at (owed_at + i * mask_width) mask_width b) ≡ owed_mask (decode b) i
unfolding decode hosts_at owed_mask
owed_say b i low = sym (map_at (λ j. bits hosts (number_at (owed_at + j * mask_width) mask_width b)) most_monitors 0 i [] low ∙ ap (λ (k : ℕ). bits hosts (number_at (owed_at + k * mask_width) mask_width b)) (zero-add i))

pub next_says : (b : List ℕ) → number_at next_at next_width b ≡ (decode b).next
unfolding decode
next_says b = refl

pub tuple_count_lem : (b : List ℕ) → number_at tuple_count_at tuple_count_width b ≡ length (decode b).tuples
unfolding decode
tuple_count_lem b = sym (entries_length tuple_read (number_at tuple_count_at tuple_count_width b) tuple_size tuples_at b)

module _ (b : List ℕ) (long : header_size ≤ length b) where
  pub monitors_say : number_at monitors_at count_width b ≡ (decode b).monitors
  unfolding decode byte_at
  monitors_say = number_at_1 monitors_at b (omega arith)

  pub space_count : number_at space_count_at count_width b ≡ length (decode b).spaces
  unfolding decode byte_at
  space_count = number_at_1 space_count_at b (omega arith) ∙ sym (entries_length space_read (get_or b space_count_at 0) space_size spaces_at b)

  pub waiting_count : number_at waiting_count_at count_width b ≡ length (decode b).waiting
  unfolding decode byte_at
  waiting_count = number_at_1 waiting_count_at b (omega arith) ∙ sym (entries_length waiting_read (get_or b waiting_count_at 0) waiting_size waiting_at b)
