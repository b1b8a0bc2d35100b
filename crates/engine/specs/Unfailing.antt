-- Operations that cannot fail: moves, and outs that make no sum, where there is room for their tuples. Assumes nothing.
use Rattle.std.specs.Prelude.{◌≡◌, refl, ℕ, zero, suc, ◌+◌, ◌-◌, ◌≤◌, ◌<◌, Bool, true, false, not, ◌&&◌, ◌||◌, List, [], ◌∷◌, ◌++◌, map, ◌⊎◌, Some, drop, get_or, T, leb, eqb}
use Rattle.std.proofs.Common.{sym, ap, subst, ◌∙◌, inl, inr, length-append, le-leb, ne_eqb, add-one, drop-cons, drop_of_length-le}
use native.Mathlib.Omega.{arith}
use Rattle.std.proofs.Math.Option.{none, some, some-injective, none-ne-some}
use Rattle.std.proofs.Math.ListN.{length, get_or-map}
use Rattle.std.proofs.lemmas.List.{length-map}
use Rattle.basis.specs.Logic.{and_l, and_r}
use Rattle.basis.specs.Lists.{all, keep}
use Rattle.basis.specs.ListLaws.{keep_length}
use Rattle.basis.specs.Sizes.{most_tuples, space_width}
use Rattle.model.specs.Value.{Value}
use Rattle.model.specs.Statement as Model
use Rattle.model.specs.Statement.{actual, formal, reference, sum, difference, anonymous, ranged, deposit, transfer}
use Rattle.model.specs.Matching.{Tuple, Bindings, value_of, selects}
use Rattle.model.specs.Execution.{failed, made, made_all, appended, in_space, moved, perform, and_then, perform_all}
use Rattle.model.specs.Reading.{◌>>=◌, give, natural, counted, chosen_by, field, on_space, on_spaces, operation}
use Rattle.model.proofs.ReadBack.{then_some}
use Rattle.statements.specs.At.{which}
use Rattle.statements.specs.Fixed.{fixed_byte}
use Rattle.statements.specs.Operations.{suffix_operation}
use Rattle.statements.specs.Flat.{field_of, field_is, fields_are, few_fields, operation_of, operation_is, Reads, operation_at}
use Rattle.statements.specs.Front.{bare_at, bare_is}
use Rattle.statements.specs.declared.Field.{Field}
use Rattle.statements.specs.declared.Operation.{Operation}
use Rattle.statements.specs.declared.Bare.{Bare}
use Rattle.bindings.specs.declared.Vars.{Vars}
use Rattle.bindings.specs.Fields.{fields_in}
use Rattle.walk.specs.Standing.{no_items, First, first_of}
use Rattle.walk.specs.Walk.{Operations, operations_at, read_next, pass_next}
use Rattle.operations.specs.Performing.{result_is, Leaves}

-- a field of an out that gives its value, or its variable's, as it is
unfoldable pub is_plain : Model.Field → Bool
is_plain (actual v) = true
is_plain (formal k x) = false
is_plain (reference x) = true
is_plain (sum x v) = false
is_plain (difference x v) = false
is_plain (anonymous k) = false
is_plain (ranged k r x) = false

-- with so much room for tuples
pub data CannotFail : (room : ℕ) → List Model.Operation → Type 0 where
  none_left : {room : ℕ} → CannotFail room []
  an_out : {room s : ℕ} {fs : List Model.Field} {os : List Model.Operation} → T (all is_plain fs) → CannotFail room os → CannotFail (room + 1) (deposit s fs ∷ os)
  a_move : {room from to : ℕ} {fs : List Model.Field} {os : List Model.Operation} → CannotFail room os → CannotFail room (transfer true from to fs ∷ os)

-- ---- none fails

plain_made : (bs : Bindings) (f : Model.Field) → T (is_plain f) → (v : Value) × (made bs f ≡ some v)
unfolding is_plain made
plain_made bs (actual v) t = (v, refl)
plain_made bs (formal k x) t = absurd t
plain_made bs (reference x) t = (value_of bs x, refl)
plain_made bs (sum x v) t = absurd t
plain_made bs (difference x v) t = absurd t
plain_made bs (anonymous k) t = absurd t
plain_made bs (ranged k r x) t = absurd t

all_made : (bs : Bindings) (fs : List Model.Field) → T (all is_plain fs) → (vs : List Value) × (made_all bs fs ≡ some vs)
unfolding all made_all
all_made bs [] t = ([], refl)
all_made bs (f ∷ fs) t =
    let v = plain_made bs f (and_l (is_plain f) (all is_plain fs) t) in
    let vs = all_made bs fs (and_r (is_plain f) (all is_plain fs) t) in
    (v.0 ∷ vs.0, rw (v.1, vs.1))

moved_length : (p : Tuple → Bool) (to : ℕ) (ts : List Tuple) → length (moved p to ts) ≡ length ts
unfolding moved
moved_length p to ts = rw (length-append (keep (λ t. not (p t)) ts) (map (in_space to) (keep p ts)), length-map (keep p ts) (in_space to)) (keep_length p ts)

pub none_fails : (free : ℕ) (all : List Model.Operation) → CannotFail free all → (bs : Bindings) (ts : List Tuple) → length ts + free ≤ most_tuples → (k : ℕ) → perform_all all bs ts ≡ failed k → ⊥
unfolding perform_all and_then perform appended
none_fails free all none_left bs ts few k e = let z : ◌≡◌ {A = ℕ} 0 1 = cc in omega arith
none_fails free all (an_out {room} {s} {fs} {os} t h) bs ts few k e =
    let v = all_made bs fs t in
    let new : List Tuple = record { space = s; values = v.0 } ∷ [] in
    let fits : leb (length ts + 1) most_tuples ≡ true = le-leb (length ts + 1) most_tuples (omega arith) in
    let step : perform_all (deposit s fs ∷ os) bs ts ≡ perform_all os bs (ts ++ new) = rw (v.1, fits) in
    none_fails room os h bs (ts ++ new) (omega (arith, length-append ts new)) k (sym step ∙ e)
none_fails free all (a_move {from} {to} {fs} {os} h) bs ts few k e =
    let after : List Tuple = moved (selects bs from fs) to ts in
    none_fails free os h bs after (omega (arith, moved_length (selects bs from fs) to ts)) k e

-- so the outcome is 0
pub unfailing : (room : ℕ) (os : List Model.Operation) (bs : Bindings) (ts : List Tuple) (outcome n : ℕ) (w : Vars) (q : List ℕ) → length ts + room ≤ most_tuples → Leaves (perform_all os bs ts) outcome n w q → CannotFail room os → outcome ≡ 0
unfolding result_is
unfailing room os bs ts zero n w q few x h = refl
unfailing room os bs ts (suc k) n w q few x h = absurd (none_fails room os h bs ts few (suc k) (sym x.is))

-- ---- passed over

-- what is read after a space, or two
made_on : (make : ℕ → List Model.Field → Model.Operation) (l : List ℕ) (o : Model.Operation) (rest : List ℕ) → on_space make l ≡ some (o, rest) → (s : ℕ) × (fs : List Model.Field) × (o ≡ make s fs)
unfolding on_space give
made_on make l o rest e =
    let x = then_some (natural space_width) (λ s. counted field >>= λ fs. give (make s fs)) l (o, rest) e in
    let y = then_some (counted field) (λ fs. give (make x.item fs)) x.left (o, rest) x.later in
    (x.item, y.item, ap (λ (r : Model.Operation × List ℕ). r.0) (sym (some-injective (make x.item y.item, y.left) (o, rest) y.later)))

made_on_two : (make : ℕ → ℕ → List Model.Field → Model.Operation) (l : List ℕ) (o : Model.Operation) (rest : List ℕ) → on_spaces make l ≡ some (o, rest) → (from : ℕ) × (to : ℕ) × (fs : List Model.Field) × (o ≡ make from to fs)
unfolding on_spaces on_space
made_on_two make l o rest e =
    let x = then_some (natural space_width) (λ from. on_space (make from)) l (o, rest) e in
    let y = made_on (make x.item) x.left o rest x.later in
    (x.item, y.0, y.1, y.2)

-- an operation at a position, by its code byte
module _ (b : List ℕ) (at : ℕ) (o : Model.Operation) (rest : List ℕ) (e : operation (drop at b) ≡ some (o, rest)) where
  within : at < length b
  unfolding operation chosen_by ◌>>=◌
  within = go (which (at + 1) (length b))
    where
      go : (at + 1 ≤ length b) ⊎ (length b < at + 1) → at < length b
      go (inl h) = omega arith
      go (inr h) = let none : operation (drop at b) ≡ none = rw (fixed_byte.short b at h) in absurd (none-ne-some (o, rest) (sym none ∙ e))

  is_out : get_or b at 0 ≡ 5 → (s : ℕ) × (fs : List Model.Field) × (o ≡ deposit s fs)
  unfolding operation chosen_by ◌>>=◌
  is_out c =
      let l = within in
      let chosen : operation (drop at b) ≡ on_space deposit (drop (at + 1) b) = rw (fixed_byte.enough b at (omega arith), c) in
      made_on deposit (drop (at + 1) b) o rest (sym chosen ∙ e)

  is_move : get_or b at 0 ≡ 6 → (from : ℕ) × (to : ℕ) × (fs : List Model.Field) × (o ≡ transfer true from to fs)
  unfolding operation chosen_by ◌>>=◌
  is_move c =
      let l = within in
      let chosen : operation (drop at b) ≡ on_spaces (transfer true) (drop (at + 1) b) = rw (fixed_byte.enough b at (omega arith), c) in
      made_on_two (transfer true) (drop (at + 1) b) o rest (sym chosen ∙ e)

-- the fields of an out as the code holds it
out_fields : (o : Operation) (s : ℕ) (fs : List Model.Field) → operation_is o ≡ deposit s fs → fields_in o ≡ fs
unfolding operation_is operation_of
out_fields o s fs e = go o.code e
  where
    go : (k : ℕ) → operation_of k o.from o.to (fields_in o) ≡ deposit s fs → fields_in o ≡ fs
    go zero e = let z : ◌≡◌ {A = ℕ} 0 1 = cc in absurd (omega arith)
    go (suc zero) e = let z : ◌≡◌ {A = ℕ} 0 1 = cc in absurd (omega arith)
    go (suc (suc zero)) e = let z : ◌≡◌ {A = ℕ} 0 1 = cc in absurd (omega arith)
    go (suc (suc (suc zero))) e = let z : ◌≡◌ {A = ℕ} 0 1 = cc in absurd (omega arith)
    go (suc (suc (suc (suc zero)))) e = let z : ◌≡◌ {A = ℕ} 0 1 = cc in absurd (omega arith)
    go (suc (suc (suc (suc (suc zero))))) e = cc
    go (suc (suc (suc (suc (suc (suc zero)))))) e = let z : ◌≡◌ {A = ℕ} 0 1 = cc in absurd (omega arith)
    go (suc (suc (suc (suc (suc (suc (suc k))))))) e = let z : ◌≡◌ {A = ℕ} 0 1 = cc in absurd (omega arith)

-- an operation that cannot fail was passed over: with the room that it leaves the others decide
abbrev pub Passes : List ℕ → (at room end left : ℕ) → Type 0
Passes b at room end left = (m : ℕ) → Operations b at (suc m) → Operations b end m × (CannotFail left (operations_at b end m) → CannotFail room (operations_at b at (suc m)))

module _ (b : List ℕ) (at m : ℕ) (h : Operations b at (suc m)) where
  abbrev one : First operation few_fields b at m
  one = first_of operation suffix_operation few_fields b at m h

  code_within : at < length b
  code_within = within b at one.item (drop one.end b) one.reads

  first_same : (o : Model.Operation) (os : List Model.Operation) → operations_at b at (suc m) ≡ o ∷ os → o ≡ one.item
  first_same o os e = let f = one.items in cc

pub pass_out : (b : List ℕ) (at room : ℕ) (r : Operation × ℕ) → Reads (Some r) (operation_at b at) → get_or b at 0 ≡ 5 → 0 < room → T (all is_plain (fields_in r.0)) → Passes b at room r.1 (room - 1)
pass_out b at room r e c pos t m h =
    let n = read_next b at m h r e in
    let d = is_out b at (one b at m h).item (drop (one b at m h).end b) (one b at m h).reads c in
    let is : operation_is r.0 ≡ deposit d.0 d.1 = first_same b at m h (operation_is r.0) (operations_at b r.1 m) n.items ∙ d.2 in
    let plain : T (all is_plain d.1) = subst (λ (fs : List Model.Field). T (all is_plain fs)) (out_fields r.0 d.0 d.1 is) t in
    let more : room - 1 + 1 ≡ room = omega arith in
    let items : operations_at b at (suc m) ≡ deposit d.0 d.1 ∷ operations_at b r.1 m = n.items ∙ ap (λ (o : Model.Operation). o ∷ operations_at b r.1 m) is in
    (n.later, λ s. subst (CannotFail room) (sym items) (subst (λ (k : ℕ). CannotFail k (deposit d.0 d.1 ∷ operations_at b r.1 m)) more (an_out plain s)))

pub pass_move : (b : List ℕ) (at room : ℕ) (r : Bare × ℕ) → bare_is (Some r) ≡ bare_at (operation_at b at) → get_or b at 0 ≡ 6 → Passes b at room r.1 room
pass_move b at room r e c m h =
    let p = pass_next b at m h r e in
    let d = is_move b at (one b at m h).item (drop (one b at m h).end b) (one b at m h).reads c in
    let is : p.item ≡ transfer true d.0 d.1 d.2 = first_same b at m h p.item (operations_at b r.1 m) p.next.items ∙ d.3 in
    let items : operations_at b at (suc m) ≡ transfer true d.0 d.1 d.2 ∷ operations_at b r.1 m = p.next.items ∙ ap (λ (o : Model.Operation). o ∷ operations_at b r.1 m) is in
    (p.next.later, λ s. subst (CannotFail room) (sym items) (a_move s))

-- as the code goes through them: those from a position on decide
pub record Passing (b : List ℕ) (at count room next left free : ℕ) : Type 0 where
  pub stands : Operations b next left
  pub decide : CannotFail free (operations_at b next left) → CannotFail room (operations_at b at count)

pub passing_start : (b : List ℕ) (at count room : ℕ) → Operations b at count → Passing b at count room at (count - 0) room
passing_start b at count room h = let e : count - 0 ≡ count = omega arith in rw e (record { stands = h; decide = λ k. k })

module _ (b : List ℕ) (at count room next left free : ℕ) (h : Passing b at count room next left free) where
  -- none is left
  pub passing_end : left ≡ 0 → CannotFail room (operations_at b at count)
  passing_end z = h.decide (subst (CannotFail free) (sym (ap (operations_at b next) z ∙ no_items operation b next)) none_left)

  module _ (m : ℕ) (s : left ≡ suc m) where
    pub to_come_lem : Operations b next (suc m)
    to_come_lem = subst (Operations b next) s h.stands

    pub passing_within : next < length b
    passing_within = code_within b next m to_come_lem

    pub passing_turn : (end free' : ℕ) → Passes b next free end free' → Passing b at count room end m free'
    passing_turn end free' p =
        let x = p m to_come_lem in
        record { stands = x.0; decide = λ k. h.decide (subst (λ (n : ℕ). CannotFail free (operations_at b next n)) (sym s) (x.1 k)) }

-- ---- the fields of an out

-- forms 0 and 2
pub plain_form : (f : Field) → is_plain (field_is f) ≡ (eqb f.form 0 || eqb f.form 2)
unfolding field_is field_of is_plain
plain_form f = go f.form
  where
    go : (form : ℕ) → is_plain (field_of form f.kind f.variable f.bits f.highest) ≡ (eqb form 0 || eqb form 2)
    go zero = refl
    go (suc zero) = refl
    go (suc (suc zero)) = refl
    go (suc (suc (suc zero))) = refl
    go (suc (suc (suc (suc zero)))) = refl
    go (suc (suc (suc (suc (suc zero))))) = refl
    go (suc (suc (suc (suc (suc (suc n)))))) =
        let form : ℕ = suc (suc (suc (suc (suc (suc n))))) in
        rw (ne_eqb form 0 (λ z. omega arith), ne_eqb form 2 (λ z. omega arith))

-- the field of the code with number j stands first of those from j on
pub plain_at : (l : List Field) (j : ℕ) (d : Field) → j < length l → drop j (fields_are l) ≡ field_is (get_or l j d) ∷ drop (j + 1) (fields_are l)
unfolding fields_are
plain_at l j d h =
    let few : j < length (map field_is l) = omega (arith, length-map l field_is) in
    drop-cons (map field_is l) j (field_is d) few ∙ rw (get_or-map field_is l j d, add-one j)

pub plain_past : (l : List Field) (j : ℕ) → length l ≤ j → drop j (fields_are l) ≡ []
unfolding fields_are
plain_past l j h = drop_of_length-le (map field_is l) (let few : length (map field_is l) ≤ j = omega (arith, length-map l field_is) in few)

-- whether the fields from number j on are plain decides
abbrev pub PlainFrom : List Model.Field → ℕ → Type 0
PlainFrom fs j = all is_plain fs ≡ all is_plain (drop j fs)

module _ (fs : List Model.Field) (j : ℕ) (h : PlainFrom fs j) where
  pub plain_all : drop j fs ≡ [] → true ≡ all is_plain fs
  unfolding all
  plain_all e = sym (h ∙ rw e)

  module _ (f : Model.Field) (e : drop j fs ≡ f ∷ drop (j + 1) fs) (t : Bool) (q : t ≡ is_plain f) where
    whole : all is_plain fs ≡ (t && all is_plain (drop (j + 1) fs))
    unfolding all
    whole = h ∙ rw (e, q)

    pub plain_stop : t ≡ false → false ≡ all is_plain fs
    plain_stop z = sym (whole ∙ rw z)

    pub plain_more : t ≡ true → PlainFrom fs (j + 1)
    plain_more z = whole ∙ rw z
