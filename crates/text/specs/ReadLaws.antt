-- The bytes of a reply read as its line. Assumes nothing.
use Rattle.std.specs.Prelude.{◌≡◌, refl, ℕ, zero, suc, ◌+◌, ◌*◌, ◌≤◌, ◌<◌, length, get_or, drop}
use Rattle.std.proofs.Common.{sym, ap, ◌∙◌, add-one, arith, drop-drop, get_or-drop, le-leb}
use mathlib.Core.List.{List, [], ◌∷◌, ◌++◌, map, flat_map, append_assoc, append-nil}
use Rattle.std.proofs.Math.Option.{some}
use Rattle.basis.specs.Choice.{provided}
use Rattle.basis.specs.Numbers.{big_endian, number_at}
use Rattle.basis.specs.NumberLaws.{number_big_endian}
use Rattle.basis.specs.Sizes.{position_width, process_width, positions, processes, reply_position_at, reply_host_at, reply_process_at, reply_count_at, reply_header_size, reply_value_size}
use Rattle.model.specs.Value.{Value}
use Rattle.model.specs.Writing.{value_bytes}
use Rattle.model.specs.Run.{Reply}
use Rattle.layout.specs.Replies.{reply_value, reply_bytes}
use Rattle.layout.specs.ReplyLaws.{reply_length}
use Rattle.text.specs.Lines.{space, newline, decimal, value_text, parts_of, spaced, line_of}
use Rattle.text.specs.Written.{value_in, values_in, source_in, head_in, line_in, size_at, Fits}

-- ---- values

value_back : (v : ℕ × Value) (more : List ℕ) → value_in (reply_value v ++ more) ≡ space ∷ value_text v
unfolding value_in reply_value value_bytes value_text big_endian
value_back v more = refl

-- the text of several
abbrev pub values_text : List (ℕ × Value) → List ℕ
values_text vs = flat_map (λ (v : ℕ × Value). space ∷ value_text v) vs

value_drop : (v : ℕ × Value) (more : List ℕ) → drop reply_value_size (reply_value v ++ more) ≡ more
unfolding reply_value value_bytes big_endian
value_drop v more = refl

values_back : (vs : List (ℕ × Value)) (more : List ℕ) → values_in (length vs) (flat_map reply_value vs ++ more) ≡ values_text vs
unfolding values_in flat_map
values_back [] more = refl
values_back (v ∷ vs) more =
    let rest : List ℕ = flat_map reply_value vs ++ more in
    rw (append_assoc (reply_value v) (flat_map reply_value vs) more, value_back v rest, value_drop v rest, values_back vs more)

values_suc : (count : ℕ) (l : List ℕ) → values_in (suc count) l ≡ values_in count l ++ value_in (drop (reply_value_size * count) l)
unfolding values_in
values_suc zero l = append-nil (value_in l)
values_suc (suc count) l =
    let past : reply_value_size + reply_value_size * count ≡ reply_value_size * suc count = omega arith in
    let last : drop (reply_value_size * count) (drop reply_value_size l) ≡ drop (reply_value_size * suc count) l = drop-drop (reply_value_size * count) reply_value_size l ∙ ap (λ (k : ℕ). drop k l) past in
    ap (λ (r : List ℕ). value_in l ++ r) (values_suc count (drop reply_value_size l)) ∙ rw last (sym (append_assoc (value_in l) (values_in count (drop reply_value_size l)) (value_in (drop (reply_value_size * suc count) l))))

-- one value more
pub values_more : (count : ℕ) (l : List ℕ) → values_in (count + 1) l ≡ values_in count l ++ value_in (drop (reply_value_size * count) l)
values_more count l = rw (add-one count) (values_suc count l)

-- ---- the line of a reply

flat_map_map : {A : Type 0} (f : List ℕ → List ℕ) (g : A → List ℕ) (l : List A) → flat_map f (map g l) ≡ flat_map (λ (a : A). f (g a)) l
unfolding flat_map
flat_map_map f g [] = refl
flat_map_map f g (a ∷ l) = ap (λ (r : List ℕ). f (g a) ++ r) (flat_map_map f g l)

-- five parts with spaces between, what follows them, and its end
abbrev apart : (a b c d e rest : List ℕ) → List ℕ
apart a b c d e rest = a ++ (space ∷ b ++ (space ∷ c ++ (space ∷ d ++ (space ∷ e ++ rest))))

apart_append : (a b c d e v end : List ℕ) → apart a b c d e v ++ end ≡ apart a b c d e (v ++ end)
apart_append a b c d e v end =
    append_assoc a (space ∷ b ++ (space ∷ c ++ (space ∷ d ++ (space ∷ e ++ v)))) end
    ∙ ap (λ (r : List ℕ). a ++ (space ∷ r)) (append_assoc b (space ∷ c ++ (space ∷ d ++ (space ∷ e ++ v))) end
    ∙ ap (λ (r : List ℕ). b ++ (space ∷ r)) (append_assoc c (space ∷ d ++ (space ∷ e ++ v)) end
    ∙ ap (λ (r : List ℕ). c ++ (space ∷ r)) (append_assoc d (space ∷ e ++ v) end
    ∙ ap (λ (r : List ℕ). d ++ (space ∷ r)) (append_assoc e v end))))

apart_three : (a b c end : List ℕ) → (a ++ (space ∷ b ++ (space ∷ c))) ++ end ≡ a ++ (space ∷ b ++ (space ∷ c ++ end))
apart_three a b c end = append_assoc a (space ∷ b ++ (space ∷ c)) end ∙ ap (λ (r : List ℕ). a ++ (space ∷ r)) (append_assoc b (space ∷ c) end)

-- "single spaces between"
line_parts : (r : Reply) → line_of r
    ≡ apart (decimal r.position) (decimal r.host) (decimal r.process) (decimal r.outcome) (decimal r.branch) (values_text r.values ++ (newline ∷ []))
unfolding line_of spaced parts_of flat_map
line_parts r = rw (flat_map_map (λ (u : List ℕ). space ∷ u) value_text r.values) (apart_append (decimal r.position) (decimal r.host) (decimal r.process) (decimal r.outcome) (decimal r.branch) (values_text r.values) (newline ∷ []))

position_back : (r : Reply) (more : List ℕ) → r.position < positions → number_at reply_position_at position_width (reply_bytes r ++ more) ≡ r.position
unfolding number_at reply_bytes big_endian
position_back r more h = number_big_endian position_width r.position h

process_back : (r : Reply) (more : List ℕ) → r.process < processes → number_at reply_process_at process_width (reply_bytes r ++ more) ≡ r.process
unfolding number_at reply_bytes big_endian
process_back r more h = number_big_endian process_width r.process h

host_back : (r : Reply) (more : List ℕ) → r.host < 256 → get_or (reply_bytes r ++ more) reply_host_at 0 ≡ r.host
unfolding reply_bytes big_endian
host_back r more h = omega arith

head_back : (r : Reply) (more : List ℕ) → Fits r → head_in (reply_bytes r ++ more)
    ≡ apart (decimal r.position) (decimal r.host) (decimal r.process) (decimal r.outcome) (decimal r.branch) []
unfolding head_in source_in reply_bytes big_endian
head_back r more f =
    rw (position_back r more f.position, process_back r more f.process, host_back r more f.host, append-nil (decimal r.branch))
    (apart_three (decimal r.position) (decimal r.host) (decimal r.process) (space ∷ decimal r.outcome ++ (space ∷ decimal r.branch)))

tail_back : (r : Reply) (more : List ℕ) → values_in (get_or (reply_bytes r ++ more) reply_count_at 0) (drop reply_header_size (reply_bytes r ++ more)) ≡ values_text r.values
unfolding reply_bytes big_endian
tail_back r more = values_back r.values more

-- the bytes of a reply are read as its line
pub line_back : (r : Reply) (more : List ℕ) → Fits r → line_in (reply_bytes r ++ more) ≡ line_of r
unfolding line_in
line_back r more f =
    rw (head_back r more f, tail_back r more, line_parts r)
    (apart_append (decimal r.position) (decimal r.host) (decimal r.process) (decimal r.outcome) (decimal r.branch) [] (values_text r.values ++ (newline ∷ [])))

count_back : (r : Reply) (more : List ℕ) → get_or (reply_bytes r ++ more) reply_count_at 0 ≡ length r.values
unfolding reply_bytes big_endian
count_back r more = refl

-- and as of its size
pub size_back : (l : List ℕ) (from n : ℕ) (r : Reply) (more : List ℕ) → drop from l ≡ reply_bytes r ++ more → length (reply_bytes r) ≤ n → size_at l from n ≡ some (length (reply_bytes r))
unfolding size_at provided
size_back l from n r more p h =
    let size : ℕ = reply_header_size + reply_value_size * length r.values in
    let e : length (reply_bytes r) ≡ size = reply_length r in
    let fits : size ≤ n = omega arith in
    let count : get_or l (from + reply_count_at) 0 ≡ length r.values = sym (get_or-drop from l reply_count_at 0) ∙ ap (λ (k : List ℕ). get_or k reply_count_at 0) p ∙ count_back r more in
    rw (count, le-leb reply_header_size n (omega arith), le-leb size n fits, e)
