-- A section as it is lent: what it says, its length and its bytes. When bytes are those of the run that they say: mark and unused bytes of the header are, and each section is. Assumes nothing.
use Rattle.std.specs.Prelude.{◌≡◌, ◌↔◌, Bool, ◌&&◌, ◌||◌, drop}
use Rattle.std.proofs.Math.Path.{refl, sym, ap}
use Rattle.std.proofs.Common.{ap₂, ◌∙◌, arith, true≢false, length-drop, take-take, drop-cons, length-take-le, leb→le}
use Prim.Native.Nat.{ℕ, zero, suc, ◌+◌, ◌-◌, ◌*◌, ◌≤◌, ◌<◌}
use Rattle.std.proofs.Math.Bool.{true, false, not}
use mathlib.Core.List.{List, [], ◌∷◌, map}
use Rattle.std.proofs.Math.ListN.{length, take, get_or}
use Rattle.std.proofs.Math.Seq.{take_all}
use Rattle.std.proofs.Math.Dec.{T}
use Rattle.std.proofs.Math.Pow.{are_bytes}
use borrow.Author.Tests.{lt-ltb, le-ltb}
use Rattle.basis.specs.Logic.{and_l, and_r, both, is_true, true_is}
use Rattle.basis.specs.Lists.{all, any, count_from, zeros, pieces, same_bytes}
use Rattle.basis.specs.ListLaws.{same_refl, same→eq}
use Rattle.basis.specs.IndexLaws.{map_drop}
use Rattle.basis.specs.Numbers.{big_endian, number_at, mask, bits}
use Rattle.basis.specs.NumberLaws.{number_at_lt, bytes_take, bytes_drop}
use Rattle.basis.specs.PadLaws.{mask_bits}
use Rattle.basis.specs.Sizes.{mark_width, position_width, mask_width, count_width, next_width, tuple_count_width, hosts, most_monitors, most_spaces, most_tuples, most_waiting, last_at, mask_at, monitors_at, next_at, space_count_at, tuple_count_at, waiting_count_at, owed_at, header_used, header_size, space_size, tuple_size, waiting_size, spaces_size, tuples_size, waiting_all_size, spaces_at, tuples_at, waiting_at, state_size}
use Rattle.model.specs.Run.{Run, has_room, none_owed, owes_some}
use Rattle.model.specs.Valid.{counts_fit, owed_to_given, owes_only_full}
use Rattle.layout.specs.States.{state_mark, space_bytes, tuple_bytes, waiting_bytes, area, encode, byte_at, space_read, tuple_read, waiting_read, entries, hosts_at, decode}
use Rattle.words.specs.Over.{zeros_at}
use Rattle.words.specs.OverLaws.{drop_take}
use Rattle.words.specs.ZeroLaws.{and-true, and-false, zeros_at_none, zeros_at_add, zerosAt→zeros, zeros→zerosAt, bits_zero}
use Rattle.sections.specs.Rows.{joined}
use Rattle.sections.specs.RowLaws.{number_written}
use Rattle.sections.specs.Shapes.{entries_length}
use Rattle.sections.specs.Parts.{place_in, part_read, cut_from, total, cut_joined}
use Rattle.header.specs.Rows.{widths, unused_part, spaces_part, tuples_part, waiting_part, parts_of, Cut, part_at, spaces_lent, tuples_lent, queue_lent}
use Rattle.header.specs.RowLaws.{encode_parts}
use Rattle.header.specs.Whole.{debts_fit, header_legal}

-- ---- a section of a state, lent as a part

pieces_cut : (n w m : ℕ) (l : List ℕ) → n * w ≤ m → pieces n w (take m l) ≡ pieces n w l
unfolding pieces
pieces_cut zero w m l h = refl
pieces_cut (suc n) w m l h =
    let e : w + (m - w) ≡ m = omega arith in
    let f : take w (take m l) ≡ take w l = take-take w m l (omega arith) in
    let d : drop w (take m l) ≡ take (m - w) (drop w l) = ap (λ (k : ℕ). drop w (take k l)) (sym e) ∙ drop_take w (m - w) l in
    rw (f, d, pieces_cut n w (m - w) (drop w l) (omega arith))

lent_says : {A : Type 0} (read : List ℕ → A) (n size whole at : ℕ) (b : List ℕ) → n * size ≤ whole → entries read n size 0 (take whole (drop at b)) ≡ entries read n size at b
unfolding entries
lent_says read n size whole at b h = ap (map read) (pieces_cut n size whole (drop at b) h)

module _ (b : List ℕ) where
  -- it says what the state says
  pub spaces_said : length (decode b).spaces ≤ most_spaces → entries space_read (length (decode b).spaces) space_size 0 (spaces_lent b) ≡ (decode b).spaces
  unfolding decode
  spaces_said few =
      let n : ℕ = byte_at space_count_at b in
      let c : length (entries space_read n space_size spaces_at b) ≡ n = entries_length space_read n space_size spaces_at b in
      ap (λ (m : ℕ). entries space_read m space_size 0 (spaces_lent b)) c ∙ lent_says space_read n space_size spaces_size spaces_at b (omega arith)

  pub tuples_said : length (decode b).tuples ≤ most_tuples → entries tuple_read (length (decode b).tuples) tuple_size 0 (tuples_lent b) ≡ (decode b).tuples
  unfolding decode
  tuples_said few =
      let n : ℕ = number_at tuple_count_at tuple_count_width b in
      let c : length (entries tuple_read n tuple_size tuples_at b) ≡ n = entries_length tuple_read n tuple_size tuples_at b in
      ap (λ (m : ℕ). entries tuple_read m tuple_size 0 (tuples_lent b)) c ∙ lent_says tuple_read n tuple_size tuples_size tuples_at b (omega arith)

  pub waiting_said : length (decode b).waiting ≤ most_waiting → entries waiting_read (length (decode b).waiting) waiting_size 0 (queue_lent b) ≡ (decode b).waiting
  unfolding decode
  waiting_said few =
      let n : ℕ = byte_at waiting_count_at b in
      let c : length (entries waiting_read n waiting_size waiting_at b) ≡ n = entries_length waiting_read n waiting_size waiting_at b in
      ap (λ (m : ℕ). entries waiting_read m waiting_size 0 (queue_lent b)) c ∙ lent_says waiting_read n waiting_size waiting_all_size waiting_at b (omega arith)

  -- its length, and its bytes
  pub part_long : (r : ℕ) → place_in widths r + get_or widths r 0 ≤ length b → length (part_at r b) ≡ get_or widths r 0
  part_long r h = length-take-le (get_or widths r 0) (drop (place_in widths r) b) (simp length-drop (omega arith))

  pub part_bytes : (r : ℕ) → T (are_bytes b) → T (are_bytes (part_at r b))
  part_bytes r t = bytes_take (get_or widths r 0) (drop (place_in widths r) b) (bytes_drop (place_in widths r) b t)

-- ---- the whole

-- mark, unused bytes and sections are those of the run that the bytes say
pub record Says (b : List ℕ) : Type 0 where
  pub mark : state_mark ≡ take mark_width b
  pub unused : zeros (header_size - header_used) ≡ take (header_size - header_used) (drop header_used b)
  pub spaces : area spaces_size space_size space_bytes (decode b).spaces ≡ take spaces_size (drop spaces_at b)
  pub tuples : area tuples_size tuple_size tuple_bytes (decode b).tuples ≡ take tuples_size (drop tuples_at b)
  pub waiting : area waiting_all_size waiting_size waiting_bytes (decode b).waiting ≡ take waiting_all_size (drop waiting_at b)

one_written : (at : ℕ) (b : List ℕ) → at < length b → get_or b at 0 ∷ [] ≡ take count_width (drop at b)
one_written at b h = rw (drop-cons b at 0 h)

module _ (b : List ℕ) (long : length b ≡ state_size) where
  mask_written : T (are_bytes b) → (at : ℕ) → at + mask_width ≤ length b → big_endian mask_width (mask (bits hosts (number_at at mask_width b))) ≡ take mask_width (drop at b)
  mask_written bytes at room = rw (mask_bits hosts (number_at at mask_width b) (number_at_lt at mask_width b bytes)) (number_written at mask_width b bytes room)

  says_parts : T (are_bytes b) → Says b → parts_of (decode b) ≡ cut_from 0 widths b
  unfolding parts_of decode hosts_at count_from byte_at cut_from
  says_parts bytes s =
      let mark : state_mark ≡ take mark_width b = s.mark in
      let last : big_endian position_width (number_at last_at position_width b) ≡ take position_width (drop last_at b) = number_written last_at position_width b bytes (omega arith) in
      let up : big_endian mask_width (mask (bits hosts (number_at mask_at mask_width b))) ≡ take mask_width (drop mask_at b) = mask_written bytes mask_at (omega arith) in
      let monitors : get_or b monitors_at 0 ∷ [] ≡ take count_width (drop monitors_at b) = one_written monitors_at b (omega arith) in
      let next : big_endian next_width (number_at next_at next_width b) ≡ take next_width (drop next_at b) = number_written next_at next_width b bytes (omega arith) in
      let spaces : length (entries space_read (get_or b space_count_at 0) space_size spaces_at b) ∷ [] ≡ take count_width (drop space_count_at b) =
      rw (entries_length space_read (get_or b space_count_at 0) space_size spaces_at b) (one_written space_count_at b (omega arith)) in
      let tuples : big_endian tuple_count_width (length (entries tuple_read (number_at tuple_count_at tuple_count_width b) tuple_size tuples_at b)) ≡ take tuple_count_width (drop tuple_count_at b) =
      rw (entries_length tuple_read (number_at tuple_count_at tuple_count_width b) tuple_size tuples_at b) (number_written tuple_count_at tuple_count_width b bytes (omega arith)) in
      let waiting : length (entries waiting_read (get_or b waiting_count_at 0) waiting_size waiting_at b) ∷ [] ≡ take count_width (drop waiting_count_at b) =
      rw (entries_length waiting_read (get_or b waiting_count_at 0) waiting_size waiting_at b) (one_written waiting_count_at b (omega arith)) in
      let owed : (k : ℕ) → k ≤ header_used → big_endian mask_width (mask (bits hosts (number_at k mask_width b))) ≡ take mask_width (drop k b) = λ k h. mask_written bytes k (omega arith) in
      λ i. mark i ∷ last i ∷ up i ∷ monitors i ∷ next i ∷ spaces i ∷ tuples i ∷ waiting i
      ∷ owed 17 (omega arith) i ∷ owed 19 (omega arith) i ∷ owed 21 (omega arith) i ∷ owed 23 (omega arith) i ∷ owed 25 (omega arith) i ∷ owed 27 (omega arith) i ∷ owed 29 (omega arith) i ∷ owed 31 (omega arith) i ∷ s.unused i ∷ s.spaces i ∷ s.tuples i ∷ s.waiting i ∷ []

  pub says_same : T (are_bytes b) → Says b → encode (decode b) ≡ b
  unfolding total
  says_same bytes s = (encode_parts (decode b)).bytes ∙ (ap joined (says_parts bytes s) ∙ (cut_joined 0 widths b ∙ take_all state_size b (omega arith)))

  pub same_says : encode (decode b) ≡ b → Says b
  unfolding parts_of
  same_says e =
      let cut : Cut b (parts_of (decode b)) = rw e at (encode_parts (decode b)) in
      record {
        mark = sym (part_read widths b (parts_of (decode b)) cut 0 (omega arith));
        unused = sym (part_read widths b (parts_of (decode b)) cut unused_part (omega arith));
        spaces = sym (part_read widths b (parts_of (decode b)) cut spaces_part (omega arith));
        tuples = sym (part_read widths b (parts_of (decode b)) cut tuples_part (omega arith));
        waiting = sym (part_read widths b (parts_of (decode b)) cut waiting_part (omega arith));
      }

-- ---- the owed masks

masks_zero : (b : List ℕ) → T (are_bytes b) → (n k : ℕ) → zeros_at b (owed_at + k * mask_width) (n * mask_width) ≡ none_owed (map (λ i. hosts_at (owed_at + i * mask_width) b) (count_from n k))
unfolding count_from all hosts_at
masks_zero b t zero k = zeros_at_none b (owed_at + k * mask_width)
masks_zero b t (suc n) k =
    let at : ℕ = owed_at + k * mask_width in
    let e : suc n * mask_width ≡ mask_width + n * mask_width = omega arith in
    let next : at + mask_width ≡ owed_at + suc k * mask_width = omega arith in
    ap (zeros_at b at) e ∙ zeros_at_add b at mask_width (n * mask_width)
    ∙ ap₂ {C = Bool} (λ x y. x && y) (sym (bits_zero b at mask_width hosts (number_at_lt at mask_width b t))) (ap (λ (p : ℕ). zeros_at b p (n * mask_width)) next ∙ masks_zero b t n (suc k))

-- the masks from place i on are zero exactly where their bytes are
pub none_owed_lem : (b : List ℕ) → T (are_bytes b) → (i : ℕ) → i ≤ most_monitors → zeros_at b (owed_at + i * mask_width) ((most_monitors - i) * mask_width) ≡ none_owed (drop i (decode b).owed)
unfolding decode
none_owed_lem b t i low =
    let z : 0 + i ≡ i = omega arith in
    masks_zero b t (most_monitors - i) i
    ∙ sym (ap (λ (os : List (List Bool)). none_owed os) (map_drop (λ j. hosts_at (owed_at + j * mask_width) b) most_monitors 0 i low ∙ ap (λ (k : ℕ). map (λ j. hosts_at (owed_at + j * mask_width) b) (count_from (most_monitors - i) k)) z))

-- and so are all bytes after them
pub zero_past : (b : List ℕ) → T (are_bytes b) → (i : ℕ) → i ≤ most_monitors → zeros_at b (owed_at + i * mask_width) (header_size - (owed_at + i * mask_width)) ≡ (none_owed (drop i (decode b).owed) && zeros_at b header_used (header_size - header_used))
zero_past b t i low =
    let all : header_size - (owed_at + i * mask_width) ≡ (most_monitors - i) * mask_width + (header_size - header_used) = omega arith in
    let end : owed_at + i * mask_width + (most_monitors - i) * mask_width ≡ header_used = omega arith in
    ap (zeros_at b (owed_at + i * mask_width)) all ∙ zeros_at_add b (owed_at + i * mask_width) ((most_monitors - i) * mask_width) (header_size - header_used)
    ∙ ap₂ {C = Bool} (λ x y. x && y) (none_owed_lem b t i low) (ap (λ (at : ℕ). zeros_at b at (header_size - header_used)) end)

none_any : (os : List (List Bool)) → none_owed os ≡ not (any (λ us. any (λ b. b) us) os)
unfolding all any
none_any [] = refl
none_any (us ∷ os) = go (any (λ b. b) us) (none_any os)
  where
    go : (b : Bool) → none_owed os ≡ not (any (λ us. any (λ b. b) us) os) → (not b && none_owed os) ≡ not (b || any (λ us. any (λ b. b) us) os)
    go true h = refl
    go false h = h

-- it owes nothing exactly where no mask has a host
pub owes_none : (s : Run) → none_owed (drop 0 s.owed) ≡ not (owes_some s)
unfolding owes_some
owes_none s = none_any s.owed

drop_none : (n : ℕ) (os : List (List Bool)) → T (none_owed os) → T (none_owed (drop n os))
unfolding all
drop_none zero os t = t
drop_none (suc n) [] t = t
drop_none (suc n) (us ∷ os) t = drop_none n os (and_r (not (any (λ b. b) us)) (none_owed os) t)

pub debts_fit_lem : (s : Run) → T (debts_fit s) ↔ (T (owed_to_given s) × T (owes_only_full s))
unfolding debts_fit
debts_fit_lem s = (λ t. (and_l (owed_to_given s) (owes_only_full s) t, and_r (owed_to_given s) (owes_only_full s) t), λ t. both (owed_to_given s) (owes_only_full s) t.0 t.1)

pub few_monitors : (s : Run) (m : ℕ) → m ≡ s.monitors → T (counts_fit s) → m ≤ most_monitors
unfolding counts_fit
few_monitors s m e t = rw e (leb→le s.monitors most_monitors (search (and_l, and_r, t) depth 8))

module _ (s : Run) (t : ℕ) (et : t ≡ length s.tuples) where
  -- beside fewer than 512 tuples nothing is owed
  pub debts_room : t < most_tuples → none_owed (drop 0 s.owed) ≡ debts_fit s
  unfolding debts_fit owed_to_given owes_only_full owes_some has_room
  debts_room low = rw (← et, lt-ltb t most_tuples low) (go (none_owed (drop 0 s.owed)) refl (any (λ us. any (λ b. b) us) s.owed) (none_any s.owed))
    where
      go : (a : Bool) → none_owed (drop 0 s.owed) ≡ a → (o : Bool) → none_owed (drop 0 s.owed) ≡ not o → a ≡ (none_owed (drop s.monitors s.owed) && not (o && true))
      go true q false e = sym (ap (λ (b : Bool). b && true) (is_true (none_owed (drop s.monitors s.owed)) (drop_none s.monitors s.owed (rw q tt))))
      go true q true e = absurd (true≢false (sym q ∙ e))
      go false q false e = absurd (true≢false (sym e ∙ q))
      go false q true e = sym (and-false (none_owed (drop s.monitors s.owed)))

  -- beside 512 only numbers that were given
  pub debts_full : most_tuples ≤ t → (m : ℕ) → m ≡ s.monitors → none_owed (drop m s.owed) ≡ debts_fit s
  unfolding debts_fit owed_to_given owes_only_full owes_some has_room
  debts_full over m em = rw (← et, ← em, le-ltb t most_tuples over) (go (none_owed (drop m s.owed)) (any (λ us. any (λ b. b) us) s.owed))
    where
      go : (a o : Bool) → a ≡ (a && not (o && false))
      go a true = sym (and-true a)
      go a false = sym (and-true a)

-- ---- what the tests of the header show

-- two tests, of which the second is made only where the first holds
pub and_then : (a v A B : Bool) → a ≡ A → a ≡ true → v ≡ B → v ≡ (A && B)
and_then a v A B e t f = f ∙ ap (λ (x : Bool). x && B) (sym t ∙ e)

pub and_else : (a v A B : Bool) → a ≡ A → a ≡ false → v ≡ a → v ≡ (A && B)
and_else a v A B e t f = f ∙ (t ∙ ap (λ (x : Bool). x && B) (sym t ∙ e))

-- the tests, one by one
pub record Header (b : List ℕ) : Type 0 where
  pub mark : state_mark ≡ take mark_width b
  pub unused : zeros (header_size - header_used) ≡ take (header_size - header_used) (drop header_used b)
  pub limits : T (counts_fit (decode b))
  pub debts : T (debts_fit (decode b))

module _ (b : List ℕ) (long : header_size ≤ length b) where
  pub legal_header : T (header_legal b) → Header b
  unfolding header_legal
  legal_header t = record {
    mark = same→eq state_mark (take mark_width b) (search (and_l, and_r, t) depth 4);
    unused = sym (zerosAt→zeros b header_used (header_size - header_used) (omega arith) (search (and_l, and_r, t) depth 4));
    limits = search (and_l, and_r, t) depth 5;
    debts = search (and_l, and_r, t) depth 5;
  }

  pub header_legal_lem : Header b → T (header_legal b)
  unfolding header_legal
  header_legal_lem h =
      let mark : T (same_bytes state_mark (take mark_width b)) = rw (← h.mark) (true_is (same_bytes state_mark state_mark) (same_refl state_mark)) in
      let unused : T (zeros_at b header_used (header_size - header_used)) = zeros→zerosAt b header_used (header_size - header_used) (sym h.unused) in
      let limits : T (counts_fit (decode b)) = h.limits in
      let debts : T (debts_fit (decode b)) = h.debts in
      search (both, mark, unused, limits, debts) depth 5
