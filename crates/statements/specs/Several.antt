-- Several things one after the other: what is read so far, then the rest. Assumes nothing.
use Rattle.std.specs.Prelude.{◌≡◌, refl, ℕ, zero, suc, ◌+◌, ◌-◌, ◌≤◌, ◌<◌, Bool, List, [], ◌∷◌, ◌++◌, length, take, drop, set, replicate, T}
use Rattle.std.proofs.Common.{sym, ap, ◌∙◌, arith, add-one, append_assoc, append-nil, length-set, take-suc-set}
use Rattle.std.proofs.Math.Option.{Option, none, some, some-injective, none-ne-some}
use Rattle.std.proofs.lemmas.List.{map-append, length-take-le, take-append-le}
use Rattle.basis.specs.Choice.{maybe}
use Rattle.basis.specs.Logic.{and_l, and_r, both}
use Rattle.basis.specs.Lists.{all}
use Rattle.words.specs.ZeroLaws.{all_append}
use Rattle.model.specs.Statement as model
use Rattle.model.specs.Reading.{Reader, ◌>>=◌, give, several, field}
use Rattle.statements.specs.At.{Suffix, read_at, read_at_some, read_at_none, some_read_at, none_read_at}
use Rattle.statements.specs.Fields.{FieldAt, absent, present, field_at_lem, field_there}
use Rattle.statements.specs.Flat.{has_form, field_is, fields_are}
use Rattle.statements.specs.declared.Field.{Field}

-- what was read before, and what is read now
unfoldable pub prepend : {A : Type 0} → List A → Option (List A × List ℕ) → Option (List A × List ℕ)
prepend done none = none
prepend done (some r) = some (done ++ r.0, r.1)

pub several_start : {A : Type 0} (p : Reader A) (n : ℕ) (s : List ℕ) → several p n s ≡ prepend [] (several p n s)
unfolding prepend
several_start {A} p n s = go (several p n s)
  where
    go : (o : Option (List A × List ℕ)) → o ≡ prepend [] o
    go none = refl
    go (some r) = refl

-- one more
pub several_turn : {A : Type 0} (p : Reader A) (done : List A) (m : ℕ) (s rest : List ℕ) (a : A) → p s ≡ some (a, rest)
    → prepend done (several p (suc m) s) ≡ prepend (done ++ (a ∷ [])) (several p m rest)
unfolding prepend several ◌>>=◌ give
several_turn {A} p done m s rest a e = rw e (go (several p m rest))
  where
    go : (o : Option (List A × List ℕ)) → prepend done (maybe o none (λ r. some (a ∷ r.0, r.1))) ≡ prepend (done ++ (a ∷ [])) o
    go none = refl
    go (some r) = rw append_assoc

-- one is missing
pub several_stop : {A : Type 0} (p : Reader A) (done : List A) (m : ℕ) (s : List ℕ) → p s ≡ none → prepend done (several p (suc m) s) ≡ none
unfolding prepend several ◌>>=◌
several_stop p done m s e = rw e

-- all are read
pub several_done : {A : Type 0} (p : Reader A) (done : List A) (s : List ℕ) → prepend done (several p 0 s) ≡ some (done, s)
unfolding prepend several give
several_done p done s = rw append-nil

-- ---- a test that all pass

pub all_replicate : {A : Type 0} (p : A → Bool) (n : ℕ) (a : A) → T (p a) → T (all p (replicate n a))
unfolding all
all_replicate p zero a t = tt
all_replicate p (suc n) a t = both (p a) (all p (replicate n a)) t (all_replicate p n a t)

pub all_set : {A : Type 0} (p : A → Bool) (l : List A) (i : ℕ) (a : A) → T (all p l) → T (p a) → T (all p (set l i a))
unfolding all
all_set p [] i a t u = tt
all_set p (b ∷ l) zero a t u = both (p a) (all p l) u (and_r (p b) (all p l) t)
all_set p (b ∷ l) (suc i) a t u = both (p b) (all p (set l i a)) (and_l (p b) (all p l) t) (all_set p l i a (and_r (p b) (all p l) t) u)

pub all_take : {A : Type 0} (p : A → Bool) (n : ℕ) (l : List A) → T (all p l) → T (all p (take n l))
unfolding all
all_take p zero l t = tt
all_take p (suc n) [] t = tt
all_take p (suc n) (a ∷ l) t = both (p a) (all p (take n l)) (and_l (p a) (all p l) t) (all_take p n l (and_r (p a) (all p l) t))

pub all_drop : {A : Type 0} (p : A → Bool) (n : ℕ) (l : List A) → T (all p l) → T (all p (drop n l))
unfolding all
all_drop p zero l t = t
all_drop p (suc n) [] t = tt
all_drop p (suc n) (a ∷ l) t = all_drop p n l (and_r (p a) (all p l) t)

all_join : {A : Type 0} (p : A → Bool) (l k : List A) → T (all p l) → T (all p k) → T (all p (l ++ k))
all_join p l k t u = rw (all_append p l k) (both (all p l) (all p k) t u)

-- ---- fields

-- a field that lacks every part has a form
pub blank_form : (f : Field) → f.form ≡ 0 → T (has_form f)
unfolding has_form
blank_form f e = rw e tt

pub suffix_field : Suffix field
suffix_field s rest a e = go (field_at_lem s 0)
  where
    go : FieldAt s 0 → (k : ℕ) × (rest ≡ drop k s)
    go (absent n f) = absurd (none-ne-some (a, rest) (sym f ∙ e))
    go (present h) = (0 + h.width, ap (λ (r : model.Field × List ℕ). r.1) (sym (some-injective _ (a, rest) (sym (field_there s 0 h) ∙ e))))

-- i of so many fields are read, up to a position; each place holds one of the seven forms
pub record Underway (b : List ℕ) (at count : ℕ) (fields : List Field) (end i : ℕ) : Type 0 where
  pub few : i ≤ count
  pub within : end ≤ length b
  pub room : length fields ≡ count
  pub formed : T (all has_form fields)
  pub rest : several field count (drop at b) ≡ prepend (fields_are (take i fields)) (several field (count - i) (drop end b))

pub fields_start : (b : List ℕ) (at count : ℕ) (blank : List Field) → at ≤ length b → count ≤ length blank → T (all has_form blank) → Underway b at count (take count blank) at 0
unfolding fields_are
fields_start b at count blank l r t = record {
  few = omega arith;
  within = l;
  room = length-take-le count blank r;
  formed = all_take has_form count blank t;
  rest = let e : count - 0 ≡ count = omega arith in rw e (several_start field count (drop at b));
}

-- the fields up to one that was just put in
fields_set : (fields : List Field) (i : ℕ) (f : Field) → i < length fields → fields_are (take (i + 1) (set fields i f)) ≡ fields_are (take i fields) ++ (field_is f ∷ [])
unfolding fields_are
fields_set fields i f h = rw (add-one i, take-suc-set fields i f h) (map-append field_is (take i fields) (f ∷ []))

pub fields_turn : (b : List ℕ) (at count : ℕ) (fields : List Field) (end i : ℕ) (r : Field × ℕ) → i < count → Underway b at count fields end i
    → some (field_is r.0, r.1) ≡ read_at field b end → T (has_form r.0) → Underway b at count (set fields i r.0) r.1 (i + 1)
fields_turn b at count fields end i r h u e t =
    let k = read_at_some field suffix_field b end (field_is r.0) r.1 (sym e) in
    let m : count - i ≡ suc (count - (i + 1)) = omega arith in
    record {
      few = omega arith;
      within = k.within;
      room = length-set fields i r.0 ∙ u.room;
      formed = all_set has_form fields i r.0 u.formed t;
      rest = rw (fields_set fields i r.0 (omega (arith, u.room))) (u.rest ∙ rw m (several_turn field (fields_are (take i fields)) (count - (i + 1)) (drop end b) (drop r.1 b) (field_is r.0) k.reads));
    }

pub fields_stop : (b : List ℕ) (at count : ℕ) (fields : List Field) (end i : ℕ) → i < count → Underway b at count fields end i → none ≡ read_at field b end → none ≡ read_at (several field count) b at
fields_stop b at count fields end i h u e =
    let m : count - i ≡ suc (count - (i + 1)) = omega arith in
    let k : field (drop end b) ≡ none = read_at_none field b end (sym e) in
    sym (none_read_at (several field count) b at (u.rest ∙ rw m (several_stop field (fields_are (take i fields)) (count - (i + 1)) (drop end b) k)))

pub fields_done : (b : List ℕ) (at count : ℕ) (fields left : List Field) (end i : ℕ) → count ≤ i → Underway b at count fields end i → T (all has_form left)
    → (some (fields_are (take count (fields ++ left)), end) ≡ read_at (several field count) b at) × T (all has_form (fields ++ left))
fields_done b at count fields left end i h u t =
    let same : i ≡ count = omega arith in
    let z : count - i ≡ 0 = omega arith in
    let few : take count (fields ++ left) ≡ take count fields = take-append-le count fields left (omega (arith, u.room)) in
    let all : several field count (drop at b) ≡ some (fields_are (take count fields), drop end b) = rw (z, same) at u.rest ∙ several_done field (fields_are (take count fields)) (drop end b) in
    (rw few (sym (some_read_at (several field count) b at (fields_are (take count fields)) end all u.within)), all_join has_form fields left u.formed t)
