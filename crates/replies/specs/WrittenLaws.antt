-- The laws of a reply's parts: what the stores leave, and that the parts are the reply. Assumes nothing.
use Rattle.std.specs.Prelude as code
use Rattle.std.specs.Prelude.{None, Some}
use Rattle.std.specs.Prelude.{◌≡◌, map, refl, ℕ, zero, suc, ◌+◌, ◌*◌, ◌≤◌, ◌<◌, ◌%◌, true, false, length, take, drop, get_or, set, eqb}
use Rattle.std.proofs.Common.{sym, ap, ◌∙◌, arith, add-one, length-append, length-drop, length-set, take_all, take-suc, length-take-le}
use Rattle.std.proofs.Math.Option.{Option, none, some}
use Rattle.std.proofs.Math.ListN.{get_or-map}
use Rattle.std.proofs.lemmas.List.{length-map}
use Rattle.values.specs.declared.Scalar.{Scalar}
use Rattle.values.specs.Meaning.{scalar_is, scalar_given}
use mathlib.Core.List.{List, [], ◌∷◌, ◌++◌, flat_map, append_assoc, append-nil}
use Rattle.basis.specs.Choice.{maybe}
use Rattle.basis.specs.Numbers.{big_endian}
use Rattle.basis.specs.NumberLaws.{big_endian_length}
use Rattle.basis.specs.PadLaws.{Wide, rows_length}
use Rattle.basis.specs.Sizes.{mark_width, position_width, process_width, kind_width, bits_width, variable_width, variables, reply_position_at, reply_host_at, reply_process_at, reply_outcome_at, reply_branch_at, reply_count_at, reply_header_size, reply_kind_at, reply_bits_at, reply_value_size}
use Rattle.words.specs.Over.{over}
use Rattle.words.specs.OverLaws.{over_set, over_append, over_front, over_next, over_none, drop_over_at}
use Rattle.model.specs.Value.{Value, value}
use Rattle.model.specs.Matching.{Bindings}
use Rattle.model.specs.Writing.{value_bytes}
use Rattle.model.specs.Run.{bound_from}
use Rattle.layout.specs.Replies.{reply_mark, reply_value, reply_bytes}
use Rattle.replies.specs.Written.{head_bytes, values_bytes, bound_to, PutValues, reply, ran_values, Wrote}

-- ---- stores

-- one byte right past what already stands at the front
set_next : (d s : List ℕ) (n b : ℕ) → length s ≡ n → n < length d → set (s ++ drop n d) n b ≡ (s ++ (b ∷ [])) ++ drop (n + 1) d
set_next d s n b e h =
    let room : n < length (s ++ drop n d) = simp (length-append, length-drop) (omega arith) in
    over_set (s ++ drop n d) n b room ∙ over_next d s n (b ∷ []) 1 e refl

-- the seven stores of a head
pub head_stored : (d d₁ d₂ d₃ : List ℕ) (position host process outcome branch count : ℕ) → reply_header_size ≤ length d → host < 256
    → d₁ ≡ over d 0 reply_mark mark_width → d₂ ≡ over d₁ reply_position_at (big_endian position_width position) position_width → d₃ ≡ over (set d₂ reply_host_at host) reply_process_at (big_endian process_width process) process_width
    → set (set (set d₃ reply_outcome_at outcome) reply_branch_at branch) reply_count_at count ≡ over d 0 (head_bytes position host process outcome branch count) reply_header_size
unfolding head_bytes big_endian
head_stored d d₁ d₂ d₃ position host process outcome branch count h small e₁ e₂ e₃ =
    let a : List ℕ = reply_mark ++ big_endian position_width position in
    let b : List ℕ = a ++ (host ∷ []) in
    let c : List ℕ = b ++ big_endian process_width process in
    let f₁ : d₁ ≡ reply_mark ++ drop reply_position_at d = e₁ ∙ over_front d reply_mark mark_width refl in
    let f₂ : d₂ ≡ a ++ drop reply_host_at d = e₂ ∙ ap (λ (l : List ℕ). over l reply_position_at (big_endian position_width position) position_width) f₁ ∙ over_next d reply_mark reply_position_at (big_endian position_width position) position_width refl refl in
    let f₃ : set d₂ reply_host_at host ≡ b ++ drop reply_process_at d = ap (λ (l : List ℕ). set l reply_host_at host) f₂ ∙ set_next d a reply_host_at host refl (omega arith) in
    let f₄ : d₃ ≡ c ++ drop reply_outcome_at d = e₃ ∙ ap (λ (l : List ℕ). over l reply_process_at (big_endian process_width process) process_width) f₃ ∙ over_next d b reply_process_at (big_endian process_width process) process_width refl refl in
    let f₅ : set d₃ reply_outcome_at outcome ≡ (c ++ (outcome ∷ [])) ++ drop reply_branch_at d = ap (λ (l : List ℕ). set l reply_outcome_at outcome) f₄ ∙ set_next d c reply_outcome_at outcome refl (omega arith) in
    let f₆ : set (set d₃ reply_outcome_at outcome) reply_branch_at branch ≡ (c ++ (outcome ∷ branch ∷ [])) ++ drop reply_count_at d = ap (λ (l : List ℕ). set l reply_branch_at branch) f₅ ∙ set_next d (c ++ (outcome ∷ [])) reply_branch_at branch refl (omega arith) in
    let f₇ : set (set (set d₃ reply_outcome_at outcome) reply_branch_at branch) reply_count_at count ≡ (c ++ (outcome ∷ branch ∷ count ∷ [])) ++ drop reply_header_size d =
    ap (λ (l : List ℕ). set l reply_count_at count) f₆ ∙ set_next d (c ++ (outcome ∷ branch ∷ [])) reply_count_at count refl (omega arith) in
    let one : host % 256 ≡ host = omega arith in
    f₇ ∙ sym (over_front d (head_bytes position host process outcome branch count) reply_header_size refl ∙ rw one)

-- the three stores of a value
pub value_stored : (d : List ℕ) (at x k n : ℕ) → at + reply_value_size ≤ length d
    → over (set (set d at x) (at + reply_kind_at) k) (at + reply_bits_at) (big_endian bits_width n) bits_width ≡ over d at (reply_value (x, value k n)) reply_value_size
unfolding reply_value value_bytes
value_stored d at x k n h =
    let l : length (set d at x) ≡ length d = length-set d at x in
    let one : set d at x ≡ over d at (x ∷ []) variable_width = over_set d at x (omega arith) in
    let two : set (set d at x) (at + reply_kind_at) k ≡ over d at (x ∷ k ∷ []) reply_bits_at =
    over_set (set d at x) (at + reply_kind_at) k (omega arith) ∙ ap (λ (r : List ℕ). over r (at + reply_kind_at) (k ∷ []) kind_width) one ∙ over_append d at (x ∷ []) variable_width (k ∷ []) kind_width (omega arith) refl in
    ap (λ (r : List ℕ). over r (at + reply_bits_at) (big_endian bits_width n) bits_width) two ∙ over_append d at (x ∷ k ∷ []) reply_bits_at (big_endian bits_width n) bits_width (omega arith) refl

-- ---- values

value_wide : Wide reply_value_size reply_value
unfolding reply_value value_bytes
value_wide v = let e = big_endian_length bits_width v.1.bits in omega arith

pub values_length : (vs : List (ℕ × Value)) → length (values_bytes vs) ≡ length vs * reply_value_size
unfolding values_bytes
values_length vs = rows_length reply_value_size reply_value value_wide vs

values_more : (vs : List (ℕ × Value)) (v : ℕ × Value) → values_bytes (vs ++ (v ∷ [])) ≡ values_bytes vs ++ reply_value v
unfolding values_bytes flat_map
values_more [] v = append-nil (reply_value v)
values_more (u ∷ vs) v = ap (λ (l : List ℕ). reply_value u ++ l) (values_more vs v) ∙ sym (append_assoc (reply_value u) (flat_map reply_value vs) (reply_value v))

module _ (ss : List (code.Option Scalar)) where
  pub bound_yes : (x : ℕ) (s : Scalar) → get_or ss x None ≡ Some s → bound_to (x + 1) ss ≡ bound_to x ss ++ ((x, scalar_is s) ∷ [])
  unfolding bound_to
  bound_yes x s e = rw (add-one x, e)

  pub bound_no : (x : ℕ) → get_or ss x None ≡ None → bound_to (x + 1) ss ≡ bound_to x ss
  unfolding bound_to
  bound_no x e = rw (add-one x, e) (append-nil (bound_to x ss))

  -- ---- the loop over the variables

  -- what stands after the variables below x
  pub record Passed (x : ℕ) (d out : List ℕ) (count : ℕ) : Type 0 where
    pub number : count ≡ length (bound_to x ss)
    pub few : count ≤ x
    pub bytes : out ≡ over d reply_header_size (values_bytes (bound_to x ss)) (count * reply_value_size)

  pub passed_none : (d : List ℕ) → Passed 0 d d 0
  unfolding bound_to
  passed_none d = record { number = refl; few = omega arith; bytes = over_none d reply_header_size (values_bytes []) }

  pub passed_yes : (x : ℕ) (s : Scalar) (d out out' : List ℕ) (count : ℕ) → get_or ss x None ≡ Some s → reply_header_size + (count + 1) * reply_value_size ≤ length d → Passed x d out count
      → out' ≡ over out (reply_header_size + count * reply_value_size) (reply_value (x, scalar_is s)) reply_value_size → Passed (x + 1) d out' (count + 1)
  passed_yes x s d out out' count b room p e =
      let vs : List (ℕ × Value) = bound_to x ss in
      let v : ℕ × Value = (x, scalar_is s) in
      let l : length (values_bytes vs) ≡ count * reply_value_size = values_length vs ∙ ap (λ (n : ℕ). n * reply_value_size) (sym p.number) in
      let n : (count + 1) * reply_value_size ≡ count * reply_value_size + reply_value_size = omega arith in
      record {
        number = rw (bound_yes x s b) (sym (length-append vs (v ∷ []) ∙ omega (arith, p.number)));
        few = omega (arith, p.few);
        bytes = rw (bound_yes x s b, values_more vs v, n)
            (e ∙ ap (λ (r : List ℕ). over r (reply_header_size + count * reply_value_size) (reply_value v) reply_value_size) p.bytes ∙ over_append d reply_header_size (values_bytes vs) (count * reply_value_size) (reply_value v) reply_value_size (omega arith) l);
      }

  pub passed_no : (x : ℕ) (d out : List ℕ) (count : ℕ) → get_or ss x None ≡ None → Passed x d out count → Passed (x + 1) d out count
  passed_no x d out count b p = record { number = rw (bound_no x b) p.number; few = omega (arith, p.few); bytes = rw (bound_no x b) p.bytes }

  -- all variables are passed
  pub put_all : (x : ℕ) (d out : List ℕ) (count : ℕ) → x ≡ variables → Passed x d out count → PutValues (bound_to variables ss) d out count
  put_all x d out count e p = rw (← e) (record { number = p.number; few = omega (arith, p.few); bytes = p.bytes })

-- ---- the whole reply

reply_parts : (position host process outcome branch : ℕ) (vs : List (ℕ × Value))
    → reply_bytes (reply position host process outcome branch vs) ≡ head_bytes position host process outcome branch (length vs) ++ values_bytes vs
unfolding reply_bytes head_bytes values_bytes big_endian
reply_parts position host process outcome branch vs = refl

head_length : (position host process outcome branch count : ℕ) → length (head_bytes position host process outcome branch count) ≡ reply_header_size
unfolding head_bytes big_endian
head_length position host process outcome branch count = refl

-- a head after its values
pub wrote : (position host process outcome branch : ℕ) (vs : List (ℕ × Value)) (d out exit : List ℕ) (count : ℕ) → reply_header_size + count * reply_value_size ≤ length d → PutValues vs d out count
    → exit ≡ over out 0 (head_bytes position host process outcome branch count) reply_header_size → Wrote (reply position host process outcome branch vs) d exit (reply_header_size + count * reply_value_size)
wrote position host process outcome branch vs d out exit count room p e =
    let head : List ℕ = head_bytes position host process outcome branch count in
    let w : ℕ = count * reply_value_size in
    let lv : length (values_bytes vs) ≡ w = values_length vs ∙ ap (λ (n : ℕ). n * reply_value_size) (sym p.number) in
    let parts : reply_bytes (reply position host process outcome branch vs) ≡ head ++ values_bytes vs = rw p.number (reply_parts position host process outcome branch vs) in
    let n : length (head ++ values_bytes vs) ≡ reply_header_size + w = length-append head (values_bytes vs) ∙ omega (arith, head_length position host process outcome branch count) in
    let rest : drop reply_header_size out ≡ values_bytes vs ++ drop (reply_header_size + w) d =
    ap (drop reply_header_size) p.bytes ∙ drop_over_at d reply_header_size (values_bytes vs) w room (omega arith) ∙ ap (λ (l : List ℕ). l ++ drop (reply_header_size + w) d) (take_all w (values_bytes vs) (omega arith)) in
    record {
      bytes = rw (parts, n) (e ∙ over_front out head reply_header_size (head_length position host process outcome branch count) ∙ ap (λ (l : List ℕ). head ++ l) rest ∙ sym (append_assoc head (values_bytes vs) (drop (reply_header_size + w) d)));
      number = sym (ap length parts ∙ n);
    }

-- no values
pub put_none : (d : List ℕ) → PutValues [] d d 0
unfolding values_bytes flat_map
put_none d = record { number = refl; few = omega arith; bytes = over_none d reply_header_size [] }

-- one value
pub put_one : (d out : List ℕ) (v : ℕ × Value) → out ≡ over d reply_header_size (reply_value v) reply_value_size → PutValues (v ∷ []) d out 1
unfolding values_bytes flat_map
put_one d out v e = record { number = refl; few = omega arith; bytes = rw (append-nil (reply_value v)) e }

-- "A refused record has no values"
pub ran_failed : (outcome : ℕ) (ss : List (code.Option Scalar)) → eqb outcome 0 ≡ false → ran_values outcome ss ≡ []
unfolding ran_values
ran_failed outcome ss e = rw e

pub ran_done : (outcome : ℕ) (ss : List (code.Option Scalar)) → eqb outcome 0 ≡ true → ran_values outcome ss ≡ bound_to variables ss
unfolding ran_values
ran_done outcome ss e = rw e

-- ---- the bound variables, as the run keeps them

bound_append : (x : ℕ) (bs : Bindings) (b : Option Value) → bound_from x (bs ++ (b ∷ [])) ≡ bound_from x bs ++ maybe {B = List (ℕ × Value)} b [] (λ v. (x + length bs, v) ∷ [])
unfolding bound_from
bound_append x [] none = refl
bound_append x [] (some v) = let e : x ≡ x + 0 = omega arith in λ i. (e i, v) ∷ []
bound_append x (none ∷ bs) b = let e : suc x + length bs ≡ x + suc (length bs) = omega arith in rw (bound_append (suc x) bs b, e)
bound_append x (some u ∷ bs) b = let e : suc x + length bs ≡ x + suc (length bs) = omega arith in rw (bound_append (suc x) bs b, e)

pub bound_from_lem : (ss : List (code.Option Scalar)) (n : ℕ) → n ≤ length ss → bound_to n ss ≡ bound_from 0 (take n (map scalar_given ss))
unfolding bound_to bound_from
bound_from_lem ss zero h = refl
bound_from_lem ss (suc n) h =
    let vs : Bindings = map scalar_given ss in
    let l : length vs ≡ length ss = length-map ss scalar_given in
    let k : length (take n vs) ≡ n = length-take-le n vs (omega arith) in
    let place : 0 + length (take n vs) ≡ n = omega arith in
    rw (take-suc vs n none (omega arith), bound_append 0 (take n vs) (get_or vs n none), ← bound_from_lem ss n (omega arith), get_or-map scalar_given ss n None, place)
