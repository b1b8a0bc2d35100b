-- Rule 1 in its words: what a template asks of a tuple, which match is taken, and what it binds. Assumes nothing.
use Rattle.std.specs.Prelude.{◌≡◌, ◌↔◌, Bool, ◌&&◌, length, get_or, set, T, eqb}
use Rattle.std.proofs.Math.Path.{refl}
use Rattle.std.proofs.Common.{sym, ap, subst, ◌∙◌, true≢false, arith, length-set, get_or-set_same, get_or-set_other}
use Prim.Native.Nat.{ℕ, zero, suc, ◌<◌}
use Rattle.std.proofs.Math.Bool.{true, false}
use Rattle.std.proofs.Math.Option.{Option, none, some, some-injective, none-ne-some}
use mathlib.Core.List.Memᴰ
use mathlib.Core.List.{List, [], ◌∷◌, ◌++◌, map}
use Rattle.std.proofs.lemmas.List.{length-map}
use Rattle.std.proofs.Math.Dec.{not_T, eqb→eq, eqb_refl}
use borrow.Author.Tests.{eqb-true, eq-eqb, ne_eqb}
use Rattle.basis.specs.Choice.{maybe, maybe-ind}
use Rattle.basis.specs.Logic.{and_l, and_r, both, is_true, is_false, true_is}
use Rattle.basis.specs.Lists.{Found}
use Rattle.basis.specs.ListLaws.{Each}
use Rattle.basis.specs.IndexLaws.{At, Least, Decides, first_least, first_nowhere}
use Rattle.model.specs.Value.{Value, Range, exactly, at_most, is_within}
use Rattle.model.specs.Statement.{Field, actual, formal, reference, sum, difference, anonymous, ranged, binder_of}
use Rattle.model.specs.Matching.{Tuple, Bindings, value_of, TemplateField, template_field, Template, template, same_count, each_pair, same_kind, same_kinds, same_value, same_values, no_mismatch, in_count, in_kinds, in_values, mismatch_number, unless, first_mismatch, same_space, is_match, selected, matches, selects, oldest, bind_field, bind}
use Rattle.model.proofs.OrderLaws.{within_exactly}
use Rattle.model.proofs.BinderLaws.{BindsAt, BoundIn, binder_binds, binds_binder, values_set}

-- ---- document 003, section 5.1, in its words: of a template μ and a tuple τ

-- "have the same number of fields"
abbrev pub SameNumber : Template → Tuple → Type 0
SameNumber μ τ = length τ.values ≡ length μ.fields

-- "have the same types"
abbrev pub SameType : TemplateField → Value → Type 0
SameType f v = f.kind ≡ v.kind

abbrev pub OtherType : TemplateField → Value → Type 0
OtherType f v = ¬ (f.kind ≡ v.kind)

-- "from lowest to highest, both included"
abbrev pub Within : (kind : ℕ) → Range → (bits : ℕ) → Type 0
Within k r n = T (at_most k r.lowest n) × T (at_most k n r.highest)

-- they match: the value lies in the range, if one is given
abbrev pub SameGiven : TemplateField → Value → Type 0
SameGiven f v = (r : Range) → f.given ≡ some r → Within f.kind r v.bits

-- a range is given, and the value does not lie in it
abbrev pub OtherGiven : TemplateField → Value → Type 0
OtherGiven f v = (r : Range) × (f.given ≡ some r) × ¬ Within f.kind r v.bits

-- "Each pair of corresponding fields"
abbrev pub EachPair : (TemplateField → Value → Type 0) → List TemplateField → List Value → Type 0
EachPair P fs vs = (i : ℕ) (f : TemplateField) (v : Value) → At fs i f → At vs i v → P f v

-- some pair of them
pub record SomePair (P : TemplateField → Value → Type 0) (fs : List TemplateField) (vs : List Value) : Type 0 where
  pub index : ℕ
  pub field : TemplateField
  pub value : Value
  pub asked : At fs index field
  pub there : At vs index value
  pub is : P field value

-- ---- a test of each pair

module _ (test : TemplateField → Value → Bool) (P : TemplateField → Value → Type 0) where
  pairs_pass : ((f : TemplateField) (v : Value) → (test f v ≡ true) ↔ P f v) → (fs : List TemplateField) (vs : List Value) → (each_pair test fs vs ≡ true) → EachPair P fs vs
  unfolding each_pair
  pairs_pass d [] vs e i f v a b = absurd (none-ne-some f a)
  pairs_pass d (g ∷ fs) [] e i f v a b = absurd (none-ne-some v b)
  pairs_pass d (g ∷ fs) (u ∷ vs) e zero f v a b =
      rw (← some-injective g f a, ← some-injective u v b) ((d g u).0 (is_true (test g u) (and_l (test g u) (each_pair test fs vs) (true_is _ e))))
  pairs_pass d (g ∷ fs) (u ∷ vs) e (suc i) f v a b = pairs_pass d fs vs (is_true _ (and_r (test g u) (each_pair test fs vs) (true_is _ e))) i f v a b

  pairs_passed : ((f : TemplateField) (v : Value) → (test f v ≡ true) ↔ P f v) → (fs : List TemplateField) (vs : List Value) → EachPair P fs vs → (each_pair test fs vs ≡ true)
  unfolding each_pair
  pairs_passed d [] vs h = refl
  pairs_passed d (g ∷ fs) [] h = refl
  pairs_passed d (g ∷ fs) (u ∷ vs) h = rw ((d g u).1 (h 0 g u refl refl), pairs_passed d fs vs (λ i f v a b. h (suc i) f v a b))

  pair_fails : ((f : TemplateField) (v : Value) → (test f v ≡ false) ↔ P f v) → (fs : List TemplateField) (vs : List Value) → (each_pair test fs vs ≡ false) → SomePair P fs vs
  unfolding each_pair
  pair_fails d [] vs e = absurd (true≢false e)
  pair_fails d (g ∷ fs) [] e = absurd (true≢false e)
  pair_fails d (g ∷ fs) (u ∷ vs) e = go (test g u) refl (pair_fails d fs vs) e
    where
      go : (b : Bool) → test g u ≡ b → (each_pair test fs vs ≡ false → SomePair P fs vs) → (b && each_pair test fs vs) ≡ false → SomePair P (g ∷ fs) (u ∷ vs)
      go false q later e = record { index = 0; field = g; value = u; asked = refl; there = refl; is = (d g u).0 q }
      go true q later e =
          let r = later e in
          record { index = suc r.index; field = r.field; value = r.value; asked = r.asked; there = r.there; is = r.is }

  pair_failed : ((f : TemplateField) (v : Value) → (test f v ≡ false) ↔ P f v) → (fs : List TemplateField) (vs : List Value) (i : ℕ) (f : TemplateField) (v : Value) → At fs i f → At vs i v → P f v → (each_pair test fs vs ≡ false)
  unfolding each_pair
  pair_failed d [] vs i f v a b p = absurd (none-ne-some f a)
  pair_failed d (g ∷ fs) [] i f v a b p = absurd (none-ne-some v b)
  pair_failed d (g ∷ fs) (u ∷ vs) zero f v a b p = rw (some-injective g f a, some-injective u v b, (d f v).1 p)
  pair_failed d (g ∷ fs) (u ∷ vs) (suc i) f v a b p = rw (pair_failed d fs vs i f v a b p) (and-false (test g u))
    where
      and-false : (b : Bool) → (b && false) ≡ false
      and-false true = refl
      and-false false = refl

-- ---- the tests of a pair are the words

same_type : (f : TemplateField) (v : Value) → (same_kind f v ≡ true) ↔ SameType f v
unfolding same_kind
same_type f v = (λ e. eqb-true f.kind v.kind e, λ e. eq-eqb f.kind v.kind e)

other_type : (f : TemplateField) (v : Value) → (same_kind f v ≡ false) ↔ OtherType f v
unfolding same_kind
other_type f v = (λ e q. absurd (true≢false (sym (eq-eqb f.kind v.kind q) ∙ e)), λ n. ne_eqb f.kind v.kind n)

within_iff : (k : ℕ) (r : Range) (n : ℕ) → T (is_within k r n) ↔ Within k r n
unfolding is_within
within_iff k r n = (λ t. (and_l (at_most k r.lowest n) (at_most k n r.highest) t, and_r (at_most k r.lowest n) (at_most k n r.highest) t), λ w. both (at_most k r.lowest n) (at_most k n r.highest) w.0 w.1)

same_given : (f : TemplateField) (v : Value) → (same_value f v ≡ true) ↔ SameGiven f v
unfolding same_value
same_given f v = go f.given
  where
    go : (o : Option Range) → (maybe o true (λ r. is_within f.kind r v.bits) ≡ true) ↔ ((r : Range) → o ≡ some r → Within f.kind r v.bits)
    go none = (λ e r q. absurd (none-ne-some r q), λ h. refl)
    go (some a) = (λ e r q. rw (← some-injective a r q) ((within_iff f.kind a v.bits).0 (true_is _ e)), λ h. is_true _ ((within_iff f.kind a v.bits).1 (h a refl)))

other_given : (f : TemplateField) (v : Value) → (same_value f v ≡ false) ↔ OtherGiven f v
unfolding same_value
other_given f v = go f.given
  where
    go : (o : Option Range) → (maybe o true (λ r. is_within f.kind r v.bits) ≡ false) ↔ ((r : Range) × (o ≡ some r) × ¬ Within f.kind r v.bits)
    go none = (λ e. absurd (true≢false e), λ h. absurd (none-ne-some h.0 h.1))
    go (some a) = (
      λ e. (a, refl, λ q. absurd (true≢false (sym (is_true _ ((within_iff f.kind a v.bits).1 q)) ∙ e))),
      λ h. is_false (is_within f.kind a v.bits) (not_T (is_within f.kind a v.bits) (λ t. h.2 (rw (← some-injective a h.0 h.1) ((within_iff f.kind a v.bits).0 t)))),
    )

-- ---- which fails first

abbrev told : Bool → Bool → Bool → ℕ
told a b c = mismatch_number (unless a in_count (unless b in_kinds (unless c in_values no_mismatch)))

told_1 : (a b c : Bool) → (told a b c ≡ 1) ↔ (a ≡ false)
unfolding mismatch_number
told_1 false b c = (λ e. refl, λ e. refl)
told_1 true false c = (λ e. absurd (omega arith), λ e. absurd (true≢false e))
told_1 true true false = (λ e. absurd (omega arith), λ e. absurd (true≢false e))
told_1 true true true = (λ e. absurd (omega arith), λ e. absurd (true≢false e))

told_2 : (a b c : Bool) → (told a b c ≡ 2) ↔ ((a ≡ true) × (b ≡ false))
unfolding mismatch_number
told_2 false b c = (λ e. absurd (omega arith), λ e. absurd (true≢false (sym e.0)))
told_2 true false c = (λ e. (refl, refl), λ e. refl)
told_2 true true false = (λ e. absurd (omega arith), λ e. absurd (true≢false e.1))
told_2 true true true = (λ e. absurd (omega arith), λ e. absurd (true≢false e.1))

told_3 : (a b c : Bool) → (told a b c ≡ 3) ↔ ((a ≡ true) × (b ≡ true) × (c ≡ false))
unfolding mismatch_number
told_3 false b c = (λ e. absurd (omega arith), λ e. absurd (true≢false (sym e.0)))
told_3 true false c = (λ e. absurd (omega arith), λ e. absurd (true≢false (sym e.1)))
told_3 true true false = (λ e. (refl, refl, refl), λ e. refl)
told_3 true true true = (λ e. absurd (omega arith), λ e. absurd (true≢false e.2))

told_0 : (a b c : Bool) → (told a b c ≡ 0) ↔ ((a ≡ true) × (b ≡ true) × (c ≡ true))
unfolding mismatch_number
told_0 false b c = (λ e. absurd (omega arith), λ e. absurd (true≢false (sym e.0)))
told_0 true false c = (λ e. absurd (omega arith), λ e. absurd (true≢false (sym e.1)))
told_0 true true false = (λ e. absurd (omega arith), λ e. absurd (true≢false (sym e.2)))
told_0 true true true = (λ e. (refl, refl, refl), λ e. refl)

module _ (μ : Template) (τ : Tuple) where
  abbrev answer : ℕ
  answer = mismatch_number (first_mismatch μ τ)

  abbrev there : ℕ
  there = length τ.values

  abbrev wanted : ℕ
  wanted = length μ.fields

  -- 1 exactly if the numbers of fields differ
  pub count_fails : (answer ≡ 1) ↔ (¬ SameNumber μ τ)
  unfolding first_mismatch same_count
  count_fails = (
    λ e q. absurd (true≢false (sym (eq-eqb there wanted q) ∙ (told_1 (eqb there wanted) (same_kinds μ τ) (same_values μ τ)).0 e)),
    λ d. (told_1 (eqb there wanted) (same_kinds μ τ) (same_values μ τ)).1 (ne_eqb there wanted d),
  )

  -- 2 exactly if they agree and some kind differs
  pub kinds_fail : (answer ≡ 2) ↔ (SameNumber μ τ × SomePair OtherType μ.fields τ.values)
  unfolding first_mismatch same_count same_kinds
  kinds_fail = (
    λ e. let h = (told_2 (eqb there wanted) (same_kinds μ τ) (same_values μ τ)).0 e in (eqb-true there wanted h.0, pair_fails same_kind OtherType other_type μ.fields τ.values h.1),
    λ h.
        let p = h.1 in
        (told_2 (eqb there wanted) (same_kinds μ τ) (same_values μ τ)).1
        (eq-eqb there wanted h.0, pair_failed same_kind OtherType other_type μ.fields τ.values p.index p.field p.value p.asked p.there p.is),
  )

  -- 3 exactly if those agree and some value lies out of the range that is given
  pub values_fail : (answer ≡ 3) ↔ (SameNumber μ τ × EachPair SameType μ.fields τ.values × SomePair OtherGiven μ.fields τ.values)
  unfolding first_mismatch same_count same_kinds same_values
  values_fail = (
    λ e.
        let h = (told_3 (eqb there wanted) (same_kinds μ τ) (same_values μ τ)).0 e in
        (eqb-true there wanted h.0, pairs_pass same_kind SameType same_type μ.fields τ.values h.1, pair_fails same_value OtherGiven other_given μ.fields τ.values h.2),
    λ h.
        let p = h.2 in
        (told_3 (eqb there wanted) (same_kinds μ τ) (same_values μ τ)).1 (
          eq-eqb there wanted h.0,
          pairs_passed same_kind SameType same_type μ.fields τ.values h.1,
          pair_failed same_value OtherGiven other_given μ.fields τ.values p.index p.field p.value p.asked p.there p.is,
        ),
  )

  -- none exactly if all three hold
  pub all_hold : (answer ≡ 0) ↔ (SameNumber μ τ × EachPair SameType μ.fields τ.values × EachPair SameGiven μ.fields τ.values)
  unfolding first_mismatch same_count same_kinds same_values
  all_hold = (
    λ e.
        let h = (told_0 (eqb there wanted) (same_kinds μ τ) (same_values μ τ)).0 e in
        (eqb-true there wanted h.0, pairs_pass same_kind SameType same_type μ.fields τ.values h.1, pairs_pass same_value SameGiven same_given μ.fields τ.values h.2),
    λ h. (told_0 (eqb there wanted) (same_kinds μ τ) (same_values μ τ)).1
        (eq-eqb there wanted h.0, pairs_passed same_kind SameType same_type μ.fields τ.values h.1, pairs_passed same_value SameGiven same_given μ.fields τ.values h.2),
  )

  -- the same, by the tests
  tests_hold : (answer ≡ 0) ↔ (SameNumber μ τ × (same_kinds μ τ ≡ true) × (same_values μ τ ≡ true))
  unfolding first_mismatch same_count
  tests_hold = (
    λ e. let h = (told_0 (eqb there wanted) (same_kinds μ τ) (same_values μ τ)).0 e in (eqb-true there wanted h.0, h.1, h.2),
    λ h. (told_0 (eqb there wanted) (same_kinds μ τ) (same_values μ τ)).1 (eq-eqb there wanted h.0, h.1, h.2),
  )

  -- a match: the same space, and none fails
  pub match_iff : T (is_match μ τ) ↔ ((τ.space ≡ μ.space) × (answer ≡ 0))
  unfolding is_match same_space
  match_iff = (
    λ t. (eqb→eq τ.space μ.space (and_l (eqb τ.space μ.space) (eqb answer 0) t), eqb→eq answer 0 (and_r (eqb τ.space μ.space) (eqb answer 0) t)),
    λ h. both (eqb τ.space μ.space) (eqb answer 0) (rw h.0 (eqb_refl μ.space)) (rw h.1 tt),
  )

-- ---- rule 1 in document 01's words

-- What a field of a template asks of the value in its place: form 0 that value, form 2 the variable's value, in kind and bytes; forms 1 and 5 any value of the kind; form 6 one of the kind that lies in its range. (Forms 3 and 4 stand in no template.)
abbrev pub Asks : Bindings → Field → Value → Type 0
Asks bs (actual u) v = u ≡ v
Asks bs (formal k x) v = k ≡ v.kind
Asks bs (reference x) v = value_of bs x ≡ v
Asks bs (sum x u) v = u.kind ≡ v.kind
Asks bs (difference x u) v = u.kind ≡ v.kind
Asks bs (anonymous k) v = k ≡ v.kind
Asks bs (ranged k r x) v = (k ≡ v.kind) × Within k r v.bits

-- "A template matches when space, field count, kinds and given values agree"
pub record Matches (bs : Bindings) (s : ℕ) (fs : List Field) (t : Tuple) : Type 0 where
  pub space : t.space ≡ s
  pub count : length t.values ≡ length fs
  pub agree : (i : ℕ) (f : Field) (v : Value) → At fs i f → At t.values i v → Asks bs f v

-- of move and copy: "0 fields match every tuple of the space"
abbrev pub Selects : Bindings → ℕ → List Field → Tuple → Type 0
Selects bs s [] t = t.space ≡ s
Selects bs s (f ∷ fs) t = Matches bs s (f ∷ fs) t

-- ---- the tests are the words

-- "Values are equal when kind and bytes are"
same_value_lem : (u v : Value) → T (eqb u.kind v.kind) → T (eqb u.bits v.bits) → u ≡ v
same_value_lem u v k b =
    let e = eqb→eq u.kind v.kind k in
    let f = eqb→eq u.bits v.bits b in
    λ i. record { kind = e i; bits = f i }

equal_kind : (u v : Value) → u ≡ v → T (eqb u.kind v.kind)
equal_kind u v e = rw (← e) (eqb_refl u.kind)

-- a range of one value has the value with its bits, and no other
exact_bits : (k : ℕ) (u v : Value) → T (is_within k (exactly u.bits) v.bits) → T (eqb u.bits v.bits)
exact_bits k u v t = subst T (within_exactly k u.bits v.bits) t

equal_bits : (k : ℕ) (u v : Value) → u ≡ v → T (is_within k (exactly u.bits) v.bits)
equal_bits k u v e = rw (within_exactly k u.bits v.bits, ← e) (eqb_refl u.bits)

abbrev Tested : Bindings → Field → Value → Type 0
Tested bs f v = T (same_kind (template_field bs f) v) × T (same_value (template_field bs f) v)

field_asks : (bs : Bindings) (f : Field) (v : Value) → Tested bs f v ↔ Asks bs f v
unfolding template_field same_kind same_value
field_asks bs (actual u) v = (λ t. same_value_lem u v t.0 (exact_bits u.kind u v t.1), λ e. (equal_kind u v e, equal_bits u.kind u v e))
field_asks bs (formal k x) v = (λ t. eqb→eq k v.kind t.0, λ e. (rw e (eqb_refl v.kind), tt))
field_asks bs (reference x) v =
    let u = value_of bs x in
    (λ t. same_value_lem u v t.0 (exact_bits u.kind u v t.1), λ e. (equal_kind u v e, equal_bits u.kind u v e))
field_asks bs (sum x u) v = (λ t. eqb→eq u.kind v.kind t.0, λ e. (rw e (eqb_refl v.kind), tt))
field_asks bs (difference x u) v = (λ t. eqb→eq u.kind v.kind t.0, λ e. (rw e (eqb_refl v.kind), tt))
field_asks bs (anonymous k) v = (λ t. eqb→eq k v.kind t.0, λ e. (rw e (eqb_refl v.kind), tt))
field_asks bs (ranged k r x) v = (λ t. (eqb→eq k v.kind t.0, (within_iff k r v.bits).0 t.1), λ q. (rw q.0 (eqb_refl v.kind), (within_iff k r v.bits).1 q.1))

fields_ask : (bs : Bindings) (fs : List Field) (vs : List Value) → T (each_pair same_kind (map (template_field bs) fs) vs) → T (each_pair same_value (map (template_field bs) fs) vs)
    → (i : ℕ) (f : Field) (v : Value) → At fs i f → At vs i v → Asks bs f v
unfolding each_pair
fields_ask bs [] vs k g i f v a b = absurd (none-ne-some f a)
fields_ask bs (h ∷ fs) [] k g i f v a b = absurd (none-ne-some v b)
fields_ask bs (h ∷ fs) (u ∷ vs) k g zero f v a b =
    let r = (field_asks bs h u).0 (and_l (same_kind (template_field bs h) u) _ k, and_l (same_value (template_field bs h) u) _ g) in
    rw (← some-injective h f a, ← some-injective u v b) r
fields_ask bs (h ∷ fs) (u ∷ vs) k g (suc i) f v a b = fields_ask bs fs vs (and_r (same_kind (template_field bs h) u) _ k) (and_r (same_value (template_field bs h) u) _ g) i f v a b

fields_asked : (bs : Bindings) (fs : List Field) (vs : List Value) → ((i : ℕ) (f : Field) (v : Value) → At fs i f → At vs i v → Asks bs f v)
    → T (each_pair same_kind (map (template_field bs) fs) vs) × T (each_pair same_value (map (template_field bs) fs) vs)
unfolding each_pair
fields_asked bs [] vs h = (tt, tt)
fields_asked bs (f ∷ fs) [] h = (tt, tt)
fields_asked bs (f ∷ fs) (v ∷ vs) h =
    let r = (field_asks bs f v).1 (h 0 f v refl refl) in
    let q = fields_asked bs fs vs (λ i g w a b. h (suc i) g w a b) in
    (both (same_kind (template_field bs f) v) _ r.0 q.0, both (same_value (template_field bs f) v) _ r.1 q.1)

-- "A template matches when space, field count, kinds and given values agree", and only then
pub matches_iff : (bs : Bindings) (s : ℕ) (fs : List Field) → Decides (matches bs s fs) (Matches bs s fs)
unfolding same_kinds same_values
matches_iff bs s fs t = (
  λ m.
      let h = (match_iff (template bs s fs) t).0 m in
      let c = (tests_hold (template bs s fs) t).0 h.1 in
      record { space = h.0; count = c.0 ∙ length-map fs (template_field bs); agree = fields_ask bs fs t.values (true_is _ c.1) (true_is _ c.2) },
  λ m.
      let h = fields_asked bs fs t.values m.agree in
      (match_iff (template bs s fs) t).1 (m.space, (tests_hold (template bs s fs) t).1 (m.count ∙ sym (length-map fs (template_field bs)), is_true _ h.0, is_true _ h.1)),
)

-- of a tuple of the template's space: none fails exactly if it matches
pub none_fails : (bs : Bindings) (s : ℕ) (fs : List Field) (t : Tuple) → t.space ≡ s → (mismatch_number (first_mismatch (template bs s fs) t) ≡ 0) ↔ Matches bs s fs t
none_fails bs s fs t e = (λ n. (matches_iff bs s fs t).0 ((match_iff (template bs s fs) t).1 (e, n)), λ m. ((match_iff (template bs s fs) t).0 ((matches_iff bs s fs t).1 m)).1)

-- a form 2 of another kind than the value in its place: the kinds fail, and not the values
pub reference_kind : (bs : Bindings) (s : ℕ) (fs : List Field) (t : Tuple) (i x : ℕ) (v : Value) → length t.values ≡ length fs → At fs i (reference x) → At t.values i v → ¬ ((value_of bs x).kind ≡ v.kind)
    → mismatch_number (first_mismatch (template bs s fs) t) ≡ 2
unfolding template_field
reference_kind bs s fs t i x v e a b n =
    (kinds_fail (template bs s fs) t).1 (e ∙ sym (length-map fs (template_field bs)), record { index = i; field = template_field bs (reference x); value = v; asked = at_map (template_field bs) fs i (reference x) a; there = b; is = n })
  where
    at_map : (g : Field → TemplateField) (l : List Field) (i : ℕ) (f : Field) → At l i f → At (map g l) i (g f)
    at_map g [] i f a = absurd (none-ne-some f a)
    at_map g (h ∷ l) zero f a = ap (λ (k : Field). some (g k)) (some-injective h f a)
    at_map g (h ∷ l) (suc i) f a = at_map g l i f a

-- of move and copy: "0 fields match every tuple of the space"
pub selects_iff : (bs : Bindings) (s : ℕ) (fs : List Field) → Decides (selects bs s fs) (Selects bs s fs)
unfolding selected same_space
selects_iff bs s [] t = (λ m. eqb→eq t.space s m, λ e. rw e (eqb_refl s))
selects_iff bs s (f ∷ fs) t = rw (ne_eqb (suc (length (map (template_field bs) fs))) 0 (λ q. omega arith)) (matches_iff bs s (f ∷ fs) t)

-- a tuple that a template matches has its count and its kinds
pub matched : (bs : Bindings) (s : ℕ) (fs : List Field) (t : Tuple) → T (matches bs s fs t) → (length t.values ≡ length fs) × T (each_pair same_kind (map (template_field bs) fs) t.values)
unfolding same_kinds
matched bs s fs t m =
    let h = (tests_hold (template bs s fs) t).0 ((match_iff (template bs s fs) t).0 m).1 in
    (h.0 ∙ length-map fs (template_field bs), true_is _ h.1)

-- ---- the oldest match

-- the match taken is the one of the least index
pub oldest_least : (bs : Bindings) (s : ℕ) (fs : List Field) (ts : List Tuple) (f : Found Tuple) → oldest bs s fs ts ≡ some f → Least (Matches bs s fs) ts f.index f.item
unfolding oldest
oldest_least bs s fs ts f e = first_least (matches bs s fs) (Matches bs s fs) (matches_iff bs s fs) ts f e

-- none is taken only where no tuple matches
pub oldest_none : (bs : Bindings) (s : ℕ) (fs : List Field) (ts : List Tuple) → oldest bs s fs ts ≡ none → Each (λ t. ¬ Matches bs s fs t) ts
unfolding oldest
oldest_none bs s fs ts e = first_nowhere (matches bs s fs) (Matches bs s fs) (matches_iff bs s fs) ts e

-- ---- what it binds

-- a field that does not bind the variable leaves it
bind_field_other : (bs : Bindings) (f : Field) (v : Value) (x : ℕ) → ((k : ℕ) → ¬ BindsAt k x f) → get_or (bind_field bs f v) x none ≡ get_or bs x none
unfolding bind_field
bind_field_other bs f v x h =
    maybe-ind (λ (cs : Bindings). get_or cs x none ≡ get_or bs x none) (binder_of f) bs _ (λ e. refl)
    (λ b e. get_or-set_other bs b.variable x (some v) none (λ q. h b.kind (rw q (binder_binds f b e))))

-- a variable that no field binds keeps its value
pub bind_other : (bs : Bindings) (fs : List Field) (vs : List Value) (x : ℕ) → ((k : ℕ) → ¬ BoundIn k x fs) → get_or (bind bs fs vs) x none ≡ get_or bs x none
unfolding bind
bind_other bs [] vs x h = refl
bind_other bs (f ∷ fs) [] x h = refl
bind_other bs (f ∷ fs) (v ∷ vs) x h =
    bind_other (bind_field bs f v) fs vs x (λ k q. h k (q.0, Memᴰ.tail q.1, q.2))
    ∙ bind_field_other bs f v x (λ k e. h k (f, Memᴰ.head refl, e))

-- there are as many variables after binding as before
pub bind_field_length : (bs : Bindings) (f : Field) (v : Value) → length (bind_field bs f v) ≡ length bs
unfolding bind_field
bind_field_length bs f v = maybe-ind (λ (cs : Bindings). length cs ≡ length bs) (binder_of f) bs _ (λ e. refl) (λ b e. length-set bs b.variable (some v))

-- Forms 1 and 6 bind: the variable has the value in its field's place, where no later field binds it again
pub bind_formal : (bs : Bindings) (front back : List Field) (f : Field) (k x : ℕ) (us : List Value) (v : Value) (vs : List Value) → BindsAt k x f → x < length bs → length us ≡ length front → ((j : ℕ) → ¬ BoundIn j x back)
    → get_or (bind bs (front ++ (f ∷ back)) (us ++ (v ∷ vs))) x none ≡ some v
unfolding bind
bind_formal bs [] back f k x [] v vs b h e n = rw (values_set bs f v _ (binds_binder k x f b)) (bind_other (set bs x (some v)) back vs x n ∙ get_or-set_same bs x (some v) none h)
bind_formal bs [] back f k x (u ∷ us) v vs b h e n = absurd (omega arith)
bind_formal bs (g ∷ front) back f k x [] v vs b h e n = absurd (omega arith)
bind_formal bs (g ∷ front) back f k x (u ∷ us) v vs b h e n = bind_formal (bind_field bs g u) front back f k x us v vs b (rw (bind_field_length bs g u) h) (omega arith) n
