-- Two templates, field by field, and the answers of the call. Assumes nothing.
use Rattle.std.proofs.Math.Path.{◌≡◌, refl, sym}
use Rattle.std.proofs.Common.{true≢false, ap, inl, inr, ◌∙◌, eq-eqb, ne_eqb}
use Prim.Native.Nat.{ℕ, suc, ◌+◌, ◌-◌, ◌≤◌, ◌<◌}
use native.Mathlib.Omega.{arith}
use Rattle.std.proofs.Math.Numerals.{add-one}
use Rattle.std.proofs.Math.Nat.{sub-zero}
use Rattle.std.specs.Prelude as rust
use Rattle.std.specs.Option.{ok_or}
use Rattle.std.specs.Result.{IsErr, IsErrAnd}
use Rattle.std.specs.Prelude.{None, Some, Bool, true, false, ◌&&◌, ◌||◌, ◌⊎◌, cond, Result, Ok, Err, length, get_or, eqb}
use Rattle.std.proofs.Math.Bool.{and-false}
use Rattle.std.proofs.Math.Option.{Option, none, some}
use mathlib.Core.List.{List, [], ◌∷◌}
use Rattle.basis.specs.Choice.{maybe}
use Rattle.model.specs.Statement.{Field}
use Rattle.model.specs.Matching.{TemplateField}
use Rattle.model.specs.Meeting.{refers, template_of, fields_meet, each_meets, meet, meeting, lookup_in, can_meet}
use Rattle.statements.specs.declared.Operation.{Operation}
use Rattle.meeting.specs.declared.Unmet.{Unmet}
use Rattle.meeting.specs.declared.Unmet.TheVariants.{Malformed, Refers}
use Rattle.matching.specs.declared.Template.{Template}
use Rattle.matching.specs.Meaning.{template_fields_from, template_is}
use Rattle.matching.specs.SearchLaws.{field_at, fields_from, template_length}
use Rattle.alone.specs.Alone.{ReadAlone, alone_is, sought_by}

-- ---- two templates

other_counts : (fs gs : List TemplateField) → (length fs ≡ length gs → ⊥) → each_meets fs gs ≡ false
unfolding each_meets
other_counts [] [] n = absurd (n refl)
other_counts [] (g ∷ gs) n = refl
other_counts (f ∷ fs) [] n = refl
other_counts (f ∷ fs) (g ∷ gs) n = rw (other_counts fs gs (λ e. n (ap suc e))) (and-false (fields_meet f g))

module _ (a b : Template) where
  spaces_differ : (a.space ≡ b.space → ⊥) → false ≡ meet (template_is a) (template_is b)
  unfolding meet
  spaces_differ n = rw (ne_eqb a.space b.space n)

  counts_differ : (a.count ≡ b.count → ⊥) → false ≡ meet (template_is a) (template_is b)
  unfolding meet
  counts_differ n =
      rw (other_counts (fields_from a 0 a.count) (fields_from b 0 b.count) (λ e. n (sym (template_length a 0 a.count) ∙ e ∙ template_length b 0 b.count)))
      (sym (and-false (eqb a.space b.space)))

  pub differ : (a.space ≡ b.space → ⊥) ⊎ ((a.space ≡ b.space) × (a.count ≡ b.count → ⊥)) → false ≡ meet (template_is a) (template_is b)
  differ (inl n) = spaces_differ n
  differ (inr (s, n)) = counts_differ n

  -- those before field i meet, and the rest decides
  pub record Meeting (n i : ℕ) : Type 0 where
    pub few : i ≤ n
    pub rest : meet (template_is a) (template_is b) ≡ each_meets (fields_from a i (n - i)) (fields_from b i (n - i))

  pub meeting_start : a.space ≡ b.space → a.count ≡ b.count → Meeting a.count 0
  unfolding meet
  meeting_start s c = record { few = omega arith; rest = rw (eq-eqb a.space b.space s, ← c, sub-zero a.count) }

  module _ (n i : ℕ) (h : i < n) (m : Meeting n i) where
    one_more : meet (template_is a) (template_is b) ≡ (fields_meet (field_at a i) (field_at b i) && each_meets (fields_from a (i + 1) (n - (i + 1))) (fields_from b (i + 1) (n - (i + 1))))
    unfolding template_fields_from each_meets
    one_more = let e : n - i ≡ suc (n - (i + 1)) = omega arith in m.rest ∙ rw (e, add-one i)

    pub meeting_miss : fields_meet (field_at a i) (field_at b i) ≡ false → false ≡ meet (template_is a) (template_is b)
    meeting_miss e = sym (one_more ∙ rw e)

    pub meeting_more : fields_meet (field_at a i) (field_at b i) ≡ true → Meeting n (i + 1)
    meeting_more e = record { few = omega arith; rest = one_more ∙ rw e }

  pub meeting_end : (n i : ℕ) → n ≤ i → Meeting n i → true ≡ meet (template_is a) (template_is b)
  unfolding template_fields_from each_meets
  meeting_end n i h m = let e : n - i ≡ 0 = omega arith in sym (m.rest ∙ rw e)

-- ---- the answers

-- the number that the call gives
abbrev pub answer_is : Result Bool Unmet → ℕ
answer_is (Ok t) = cond t 1 0
answer_is (Err Malformed) = 6
answer_is (Err Refers) = 19

same : (x y : Operation) → ◌≡◌ {A = Result Operation Unmet} (Ok x) (Ok y) → x ≡ y
same x y q = grind arith

-- an error that is passed on
pub passed_on : (r : Result Bool Unmet) (P : Unmet → Type 0) (f : Unmet) → IsErr r → IsErrAnd r P → ((e : Unmet) → P e → e ≡ f) → answer_is r ≡ answer_is (Err f)
passed_on (Ok t) P f i h g = absurd (true≢false (sym i))
passed_on (Err e) P f i h g = rw (g e h)

-- what was read of some bytes
module _ (r : rust.Option Operation) (o : Option (ℕ × List Field)) (h : ReadAlone r o) (e : Unmet) where
  pub was_read : (x : Operation) → Ok x ≡ ok_or r e → some (sought_by x) ≡ o
  was_read x q = go r q h.is
    where
      go : (r : rust.Option Operation) → Ok x ≡ ok_or r e → alone_is r ≡ o → some (sought_by x) ≡ o
      go None q k = absurd (grind arith)
      go (Some y) q k = ap (λ z. some (sought_by z)) (same x y q) ∙ k

  pub nothing_read : (f : Unmet) → Err f ≡ ok_or r e → none ≡ o
  nothing_read f q = go r q h.is
    where
      go : (r : rust.Option Operation) → Err f ≡ ok_or r e → alone_is r ≡ o → none ≡ o
      go None q k = k
      go (Some y) q k = absurd (grind arith)

  pub why_not : (f : Unmet) → Err f ≡ ok_or r e → f ≡ e
  why_not f q = go r q
    where
      go : (r : rust.Option Operation) → Err f ≡ ok_or r e → f ≡ e
      go None q = grind arith
      go (Some y) q = absurd (grind arith)

module _ (a b : List ℕ) where
  pub first_malformed : none ≡ lookup_in a → 6 ≡ can_meet a b
  unfolding can_meet
  first_malformed h = rw (← h)

  pub second_malformed : none ≡ lookup_in b → 6 ≡ can_meet a b
  unfolding can_meet
  second_malformed h = rw (← h) (go (lookup_in a))
    where
      go : (o : Option (ℕ × List Field)) → ◌≡◌ {A = ℕ} 6 (maybe o 6 (λ x. 6))
      go none = refl
      go (some x) = refl

  module _ (x y : Operation) (h : some (sought_by x) ≡ lookup_in a) (k : some (sought_by y) ≡ lookup_in b) where
    both_read : can_meet a b ≡ meeting (sought_by x) (sought_by y)
    unfolding can_meet
    both_read = rw (← h, ← k)

    pub one_refers : true ≡ (refers (sought_by x).1 || refers (sought_by y).1) → 19 ≡ can_meet a b
    unfolding meeting
    one_refers e = sym (both_read ∙ rw (← e))

    pub meets_told : false ≡ (refers (sought_by x).1 || refers (sought_by y).1) → (t : Bool) → t ≡ meet (template_of (sought_by x)) (template_of (sought_by y)) → cond t 1 0 ≡ can_meet a b
    unfolding meeting
    meets_told e t q = sym (both_read ∙ rw (← e, ← q))
