-- The fresh-state call. Assumes nothing.
use Rattle.std.specs.Prelude.{◌≡◌, refl, ◌≢◌, ℕ, ◌+◌, ◌-◌, length}
use Rattle.std.proofs.Common.{sym, ap, ◌∙◌, arith, ne_eqb, eq-eqb}
use mathlib.Core.List.{List, [], ◌++◌, flat_map}
use Rattle.basis.specs.Lists.{count_from, zeros, pad}
use Rattle.basis.specs.Numbers.{big_endian, mask}
use Rattle.basis.specs.NumberLaws.{big_endian_length}
use Rattle.basis.specs.PadLaws.{zeros_length, zeros_add, pad_split}
use Rattle.basis.specs.Sizes.{count_width, next_width, header_size, space_size, tuple_size, waiting_size, spaces_size, tuples_size, waiting_all_size, state_size}
use Rattle.model.specs.Run.{fresh, owed_mask}
use Rattle.layout.specs.States.{state_mark, owed_bytes, header_bytes, space_bytes, access_bytes, tuple_bytes, waiting_bytes, area, encode}
use Rattle.calls.specs.Calls.{fresh_answer, fresh_call}
use Rattle.words.specs.Over.{over}
use Rattle.words.specs.OverLaws.{over_all, over_left, over_length}
use Rattle.header.specs.Rows.{next_part, space_count_part, with_row, with_mark}

pub fresh_refused : (b : List ℕ) → length b ≢ state_size → fresh_answer 1 b ≡ fresh_call b
unfolding fresh_call
fresh_refused b h = sym (rw (ne_eqb (length b) state_size h))

-- ---- the bytes of the fresh state

-- mark, next number and count of spaces over zeros
unfoldable stored : List ℕ → List ℕ
stored b = with_row space_count_part 1 (with_row next_part 1 (with_mark b))

header_fresh : stored (zeros header_size) ≡ pad header_size (header_bytes fresh)
unfolding stored over zeros header_bytes owed_bytes owed_mask count_from flat_map pad big_endian fresh mask
header_fresh = refl

spaces_fresh : area spaces_size space_size space_bytes fresh.spaces ≡ zeros spaces_size
unfolding area flat_map pad zeros space_bytes access_bytes big_endian fresh
spaces_fresh = refl

none_fresh : (whole size : ℕ) {A : Type 0} (write : A → List ℕ) → area whole size write [] ≡ zeros whole
unfolding area flat_map
none_fresh whole size write = let e : whole - 0 ≡ whole = omega arith in pad_split whole [] (omega arith) ∙ ap zeros e

rest_fresh : zeros (spaces_size + (tuples_size + waiting_all_size)) ≡ area spaces_size space_size space_bytes fresh.spaces ++ (area tuples_size tuple_size tuple_bytes fresh.tuples ++ area waiting_all_size waiting_size waiting_bytes fresh.waiting)
unfolding fresh
rest_fresh =
    zeros_add spaces_size (tuples_size + waiting_all_size) ∙ ap (λ (l : List ℕ). zeros spaces_size ++ l) (zeros_add tuples_size waiting_all_size)
    ∙ (λ i. sym spaces_fresh i ++ (sym (none_fresh tuples_size tuple_size tuple_bytes) i ++ sym (none_fresh waiting_all_size waiting_size waiting_bytes) i))

-- the stores of the header leave the rest
stored_left : (z rest : List ℕ) → length z ≡ header_size → stored (z ++ rest) ≡ stored z ++ rest
unfolding stored
stored_left z rest h =
    let l : length (with_mark z) ≡ header_size = over_length z _ state_mark _ (omega arith) (omega arith) ∙ h in
    let l' : length (with_row next_part 1 (with_mark z)) ≡ header_size = over_length (with_mark z) _ (big_endian next_width 1) _ (omega arith) (omega (arith, big_endian_length next_width 1)) ∙ l in
    ap (λ (x : List ℕ). with_row space_count_part 1 (with_row next_part 1 x)) (over_left z rest _ state_mark _ (omega arith))
    ∙ ap (with_row space_count_part 1) (over_left (with_mark z) rest _ (big_endian next_width 1) _ (omega arith))
    ∙ over_left (with_row next_part 1 (with_mark z)) rest _ (big_endian count_width 1) _ (omega arith)

fresh_bytes : (b : List ℕ) → length b ≡ state_size → stored (over b 0 (zeros state_size) state_size) ≡ encode fresh
unfolding encode
fresh_bytes b h =
    let rest : List ℕ = zeros (spaces_size + (tuples_size + waiting_all_size)) in
    let all : over b 0 (zeros state_size) state_size ≡ zeros header_size ++ rest = over_all b (zeros state_size) state_size (zeros_length state_size) h ∙ zeros_add header_size (spaces_size + (tuples_size + waiting_all_size)) in
    ap stored all ∙ stored_left (zeros header_size) rest (zeros_length header_size) ∙ (λ i. header_fresh i ++ rest_fresh i)

-- zeros, then the mark, the next number and the count of spaces
pub fresh_done : (b c d e f : List ℕ) → length b ≡ state_size → c ≡ over b 0 (zeros state_size) state_size → d ≡ with_mark c → e ≡ with_row next_part 1 d
    → f ≡ with_row space_count_part 1 e → fresh_answer 0 f ≡ fresh_call b
unfolding fresh_call stored
fresh_done b c d e f h ec ed ee ef = sym (rw (eq-eqb (length b) state_size h, ef, ee, ed, ec) (ap (fresh_answer 0) (sym (fresh_bytes b h))))
