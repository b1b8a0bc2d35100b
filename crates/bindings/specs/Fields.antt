-- The fields of an operation as the code holds it, one after the other. Assumes nothing.
use Rattle.std.specs.Prelude.{◌≡◌, refl, ℕ, zero, suc, ◌+◌, ◌≤◌, ◌<◌, List, [], ◌∷◌, ◌++◌, map, length, take, drop, get_or}
use Rattle.std.proofs.Common.{sym, ap, subst, ◌∙◌, arith, add-one, drop_of_length-le, take-suc, drop-cons, get_or-take, length-take-le}
use mathlib.Core.List.Memᴰ
use Rattle.std.proofs.lemmas.List.{map-append, length-map}
use Rattle.std.proofs.Math.ListN.{get_or-map}
use Rattle.basis.specs.ListLaws.{Each}
use Rattle.model.specs.Statement as Model
use Rattle.statements.specs.declared.Field.{Field}
use Rattle.statements.specs.declared.Operation.{Operation}
use Rattle.statements.specs.Flat.{field_is, fields_are}

abbrev pub fields_in : Operation → List Model.Field
fields_in o = fields_are (take o.count o.fields)

-- a field of which every part is 0
abbrev pub no_field : Field
no_field = record { form = 0; kind = 0; variable = 0; bits = 0; highest = 0 }

-- the field with number j stands first of those from j on
abbrev pub Next : Operation → ℕ → Type 0
Next o j = drop j (fields_in o) ≡ field_is (get_or o.fields j no_field) ∷ drop (j + 1) (fields_in o)

-- an array of structs has as many elements as its values
pub length_mapped : (X Y : Type 0) (f : X → Y) (l : List X) (n : ℕ) → length (map f l) ≡ n → length l ≡ n
length_mapped X Y f l n e = sym (length-map l f) ∙ e

-- one field more
pub fields_more : (l : List Field) (i : ℕ) (d : Field) → i < length l → fields_are (take (i + 1) l) ≡ fields_are (take i l) ++ (field_is (get_or l i d) ∷ [])
unfolding fields_are
fields_more l i d h = rw (add-one i, take-suc l i d h) (map-append field_is (take i l) (get_or l i d ∷ []))

-- as many as are taken
pub fields_length : (l : List Field) (i : ℕ) → i ≤ length l → length (fields_are (take i l)) ≡ i
unfolding fields_are
fields_length l i h = length-map (take i l) field_is ∙ length-take-le i l h

-- the fields of the code from one on
pub fields_drop : (l : List Field) (n i : ℕ) (d : Field) → i < n → n ≤ length l → drop i (fields_are (take n l)) ≡ field_is (get_or l i d) ∷ drop (i + 1) (fields_are (take n l))
unfolding fields_are
fields_drop l n i d h k =
    let fs : List Model.Field = map field_is (take n l) in
    let few : i < length fs = omega (arith, length-map (take n l) field_is, length-take-le n l k) in
    let at : get_or fs i (field_is d) ≡ field_is (get_or l i d) = get_or-map field_is (take n l) i d ∙ ap field_is (get_or-take n l i d h) in
    drop-cons fs i (field_is d) few ∙ rw (at, add-one i)

pub fields_past : (l : List Field) (n : ℕ) → n ≤ length l → drop n (fields_are (take n l)) ≡ []
unfolding fields_are
fields_past l n h = let all : length (map field_is (take n l)) ≤ n = omega (arith, length-map (take n l) field_is, length-take-le n l h) in drop_of_length-le (map field_is (take n l)) all

-- what holds of each holds of one that stands first from some place on
pub each_drop : {A : Type 0} (P : A → Type 0) (l : List A) (j : ℕ) (a : A) (r : List A) → Each P l → drop j l ≡ a ∷ r → P a
each_drop P [] zero a r h e = let z : ◌≡◌ {A = ℕ} 0 1 = cc in absurd (omega arith)
each_drop P [] (suc j) a r h e = let z : ◌≡◌ {A = ℕ} 0 1 = cc in absurd (omega arith)
each_drop P (b ∷ l) zero a r h e = let q : b ≡ a = cc in subst P q (h b (Memᴰ.head refl))
each_drop P (b ∷ l) (suc j) a r h e = each_drop P l j a r (λ c i. h c (Memᴰ.tail i)) e
