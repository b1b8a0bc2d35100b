-- What the fields of a template ask for. Assumes nothing.
use Rattle.std.specs.Prelude.{◌≡◌, Bool, true, false, List, [], ◌∷◌, ◌++◌, map, length, take, get_or, set, leb}
use Rattle.std.proofs.Math.Path.{refl}
use Rattle.std.proofs.Common.{sym, ap, ap₂, ◌∙◌, arith, add-one, get_or-set_same, get_or-set_other, le-leb}
use Prim.Native.Nat.{ℕ, zero, suc, ◌+◌, ◌<◌}
use Rattle.std.proofs.lemmas.List.{map-append}
use Rattle.basis.specs.Choice.{provided}
use Rattle.model.specs.Value.{value}
use Rattle.model.specs.Matching.{Bindings, value_of, TemplateField, actual_of, template_field}
use Rattle.matching.specs.Meaning.{template_field_is, template_field_at, template_fields_from}
use Rattle.statements.specs.declared.Field.{Field}
use Rattle.bindings.specs.Fields.{fields_more}
use Rattle.statements.specs.Flat.{field_of, field_is, fields_are}

-- ---- one field

module _ (bs : Bindings) (f : Field) where
  -- form 0
  pub asks_actual : f.form ≡ 0 → template_field_is f.kind true f.bits f.bits ≡ template_field bs (field_is f)
  unfolding field_is field_of template_field provided
  asks_actual e = rw e

  -- form 2
  pub asks_reference : f.form ≡ 2 → (k n : ℕ) → value k n ≡ value_of bs f.variable → template_field_is k true n n ≡ template_field bs (field_is f)
  unfolding field_is field_of template_field provided
  asks_reference e k n h = rw e (ap actual_of h)

  -- of the others form 6, the last, gives its range
  pub asks_last : (f.form ≡ 0 → ⊥) → (f.form ≡ 2 → ⊥) → template_field_is f.kind (leb 6 f.form) f.bits f.highest ≡ template_field bs (field_is f)
  unfolding field_is field_of template_field provided
  asks_last a b = go f.form a b
    where
      go : (n : ℕ) → (n ≡ 0 → ⊥) → (n ≡ 2 → ⊥) → template_field_is f.kind (leb 6 n) f.bits f.highest ≡ template_field bs (field_of n f.kind f.variable f.bits f.highest)
      go zero a b = absurd (a refl)
      go (suc zero) a b = refl
      go (suc (suc zero)) a b = absurd (b refl)
      go (suc (suc (suc zero))) a b = refl
      go (suc (suc (suc (suc zero)))) a b = refl
      go (suc (suc (suc (suc (suc zero))))) a b = refl
      go (suc (suc (suc (suc (suc (suc n)))))) a b = rw (le-leb 6 (suc (suc (suc (suc (suc (suc n)))))) (omega arith))

-- ---- the fields of a template, one after the other

-- one field more, at place i
template_more : (ks : List ℕ) (gs : List Bool) (ls hs : List ℕ) (j c i k : ℕ) (g : Bool) (l h : ℕ) → j + c ≡ i → i < length ks → i < length gs → i < length ls → i < length hs
    → template_fields_from (set ks i k) (set gs i g) (set ls i l) (set hs i h) j (suc c) ≡ template_fields_from ks gs ls hs j c ++ (template_field_is k g l h ∷ [])
unfolding template_fields_from
template_more ks gs ls hs j zero i k g l h e a b c d =
    let same : j ≡ i = omega arith in
    rw (same, get_or-set_same ks i k 0 a, get_or-set_same gs i g false b, get_or-set_same ls i l 0 c, get_or-set_same hs i h 0 d)
template_more ks gs ls hs j (suc m) i k g l h e a b c d =
    let other : j ≡ i → ⊥ = λ q. omega arith in
    rw (get_or-set_other ks i j k 0 other, get_or-set_other gs i j g false other, get_or-set_other ls i j l 0 other, get_or-set_other hs i j h 0 other)
    (ap (λ (fs : List TemplateField). template_field_at ks gs ls hs j ∷ fs) (template_more ks gs ls hs (suc j) m i k g l h (omega arith) a b c d))

-- one turn over the fields of the code
pub ask_turn : (bs : Bindings) (fs : List Field) (none : Field) (ks : List ℕ) (gs : List Bool) (ls hs : List ℕ) (i k : ℕ) (g : Bool) (l h : ℕ)
    → i < length fs → i < length ks → i < length gs → i < length ls → i < length hs → template_fields_from ks gs ls hs 0 i ≡ map (template_field bs) (fields_are (take i fs))
    → template_field_is k g l h ≡ template_field bs (field_is (get_or fs i none))
    → template_fields_from (set ks i k) (set gs i g) (set ls i l) (set hs i h) 0 (i + 1) ≡ map (template_field bs) (fields_are (take (i + 1) fs))
ask_turn bs fs none ks gs ls hs i k g l h a b c d e front x =
    rw (add-one i) (template_more ks gs ls hs 0 i i k g l h (omega arith) b c d e)
    ∙ ap₂ {C = List TemplateField} (λ (fs : List TemplateField) (f : TemplateField). fs ++ (f ∷ [])) front x
    ∙ sym (ap (map (template_field bs)) (fields_more fs i none a) ∙ map-append (template_field bs) (fields_are (take i fs)) (field_is (get_or fs i none) ∷ []))
