-- "Whether two templates can ever meet is answered .. by 1 exactly if one tuple exists that both match, else by 0", and when by 6 and 19. Assumes nothing.
use Rattle.std.specs.Prelude.{◌≡◌, ◌↔◌, ◌⊎◌, ℕ, zero, suc, ◌≤◌, Bool, true, false, ◌&&◌, ◌||◌, cond, List, [], ◌∷◌, map, T, eqb}
use Rattle.std.proofs.Math.Path.{refl, sym}
use Rattle.std.proofs.Common.{ap, ap₂, subst, ◌∙◌, inl, inr, arith, true≢false, T_not, le→leb}
use Rattle.std.proofs.Math.Option.{Option, none, some, some-injective, none-ne-some}
use mathlib.Core.List.Memᴰ
use Rattle.std.proofs.Math.ListN.{length, length-map}
use Rattle.std.proofs.Math.Dec.{leb, eqb→eq, eqb_refl}
use Rattle.std.specs.Float.Ieee.{of_bits}
use Rattle.basis.specs.Choice.{maybe}
use Rattle.basis.specs.Logic.{and_l, and_r, both, is_true, true_is, false_is, or_l, or_r, or_cases, same_test}
use Rattle.basis.specs.Lists.{all, any}
use Rattle.basis.specs.ListLaws.{Each, each_map}
use Rattle.basis.specs.IndexLaws.{Decides}
use Rattle.basis.specs.Sizes.{most_fields}
use Rattle.model.specs.Value.{Value, value, legal_metres, legal_value, at_most, Range}
use Rattle.model.specs.Statement.{Field, actual, formal, reference, sum, difference, anonymous, ranged}
use Rattle.model.specs.Legal.{no_kinds, form_of, template_forms, legal_lookup}
use Rattle.model.specs.Matching.{Tuple, unbound, TemplateField, template_field, Template, template, is_match, matches, Bindings}
use Rattle.model.specs.Meeting.{every_kind, lookup_in, refers, overlap, fields_meet, each_meets, meet, meeting, can_meet, template_of}
use Rattle.model.specs.Valid.{legal_tuple}
use Rattle.model.proofs.OrderLaws.{at_most_refl, at_most_total, at_most_trans}
use Rattle.model.proofs.MatchingLaws.{SameType, Within, SameGiven, EachPair, all_hold, match_iff}
use Rattle.model.proofs.CheckLaws.{Some, any_iff}
use Rattle.model.proofs.LegalWords.{FormIn, throughout_in}
use Rattle.model.proofs.AloneLaws.{AloneOk, taken, legal_alone}

-- ---- the tuple

-- the higher of two values of a kind
unfoldable pub higher : (kind a b : ℕ) → ℕ
higher k a b = cond (at_most k a b) b a

-- the higher of the two lowest values where both give a range, the lowest of the one that does, 0 where neither does
unfoldable pub shared_bits : (kind : ℕ) (first second : Option Range) → ℕ
shared_bits k none none = 0
shared_bits k none (some q) = q.lowest
shared_bits k (some r) none = r.lowest
shared_bits k (some r) (some q) = higher k r.lowest q.lowest

unfoldable pub meeting_value : TemplateField → TemplateField → Value
meeting_value f g = value f.kind (shared_bits f.kind f.given g.given)

unfoldable pub meeting_values : List TemplateField → List TemplateField → List Value
meeting_values [] gs = []
meeting_values (f ∷ fs) [] = []
meeting_values (f ∷ fs) (g ∷ gs) = meeting_value f g ∷ meeting_values fs gs

-- the tuple that both of two templates match, if they meet
unfoldable pub meeting_tuple : Template → Template → Tuple
meeting_tuple μ ν = record { space = μ.space; values = meeting_values μ.fields ν.fields }

-- ---- a pair of fields

-- the value lies in the range, if one is given
abbrev Inside : (kind : ℕ) → Option Range → (bits : ℕ) → Type 0
Inside k none n = Unit {0}
Inside k (some r) n = Within k r n

inside_iff : (k : ℕ) (o : Option Range) (n : ℕ) → Inside k o n ↔ ((r : Range) → o ≡ some r → Within k r n)
inside_iff k none n = (λ i r e. absurd (none-ne-some r e), λ h. tt)
inside_iff k (some a) n = (λ i r e. rw (← some-injective a r e) i, λ h. h a refl)

-- what legality asks of a field's range: a legal lowest value, at most the highest; with no range 0 is a value of the kind
abbrev Fair : (kind : ℕ) → Option Range → Type 0
Fair k none = T (legal_value (value k 0))
Fair k (some r) = T (legal_value (value k r.lowest)) × T (at_most k r.lowest r.highest)

abbrev FairField : TemplateField → Type 0
FairField f = Fair f.kind f.given

abbrev share : (kind : ℕ) → Option Range → Option Range → Bool
share k o p = maybe o true (λ r. maybe p true (λ q. overlap k r q))

-- two ranges of a kind that overlap have the higher of their lowest values, which is legal
share_to : (k : ℕ) (o p : Option Range) → Fair k o → Fair k p → T (share k o p) → T (legal_value (value k (shared_bits k o p))) × Inside k o (shared_bits k o p) × Inside k p (shared_bits k o p)
unfolding shared_bits higher overlap
share_to k none none a b t = (a, tt, tt)
share_to k none (some q) a b t = (b.0, tt, (at_most_refl k q.lowest, b.1))
share_to k (some r) none a b t = (a.0, (at_most_refl k r.lowest, a.1), tt)
share_to k (some r) (some q) a b t = go (at_most k r.lowest q.lowest) refl (at_most_total k r.lowest q.lowest)
  where
    first : T (at_most k r.lowest q.highest)
    first = and_l (at_most k r.lowest q.highest) (at_most k q.lowest r.highest) t

    second : T (at_most k q.lowest r.highest)
    second = and_r (at_most k r.lowest q.highest) (at_most k q.lowest r.highest) t

    go : (c : Bool) → at_most k r.lowest q.lowest ≡ c → T (at_most k r.lowest q.lowest) ⊎ T (at_most k q.lowest r.lowest)
        → T (legal_value (value k (cond c q.lowest r.lowest))) × Within k r (cond c q.lowest r.lowest) × Within k q (cond c q.lowest r.lowest)
    go true e s = (b.0, (true_is _ e, second), (at_most_refl k q.lowest, b.1))
    go false e (inl s) = absurd (T_not (at_most k r.lowest q.lowest) (false_is (at_most k r.lowest q.lowest) e) s)
    go false e (inr s) = (a.0, (at_most_refl k r.lowest, a.1), (s, first))

-- two ranges that have a value in common overlap
share_from : (k : ℕ) (o p : Option Range) (n : ℕ) → Inside k o n → Inside k p n → T (share k o p)
unfolding overlap
share_from k none p n i j = tt
share_from k (some r) none n i j = tt
share_from k (some r) (some q) n i j =
    both (at_most k r.lowest q.highest) (at_most k q.lowest r.highest) (at_most_trans k r.lowest n q.highest i.0 j.1) (at_most_trans k q.lowest n r.highest j.0 i.1)

-- the value is what a field of a template asks for
abbrev Suits : TemplateField → Value → Type 0
Suits f v = SameType f v × SameGiven f v

fields_to : (f g : TemplateField) → FairField f → FairField g → T (fields_meet f g) → T (legal_value (meeting_value f g)) × Suits f (meeting_value f g) × Suits g (meeting_value f g)
unfolding fields_meet meeting_value
fields_to f g a b t =
    let e : f.kind ≡ g.kind = eqb→eq f.kind g.kind (and_l (eqb f.kind g.kind) (share f.kind f.given g.given) t) in
    let n = shared_bits f.kind f.given g.given in
    let s = share_to f.kind f.given g.given a (rw e b) (and_r (eqb f.kind g.kind) (share f.kind f.given g.given) t) in
    (s.0, (refl, (inside_iff f.kind f.given n).0 s.1), (sym e, subst (λ (k : ℕ). (r : Range) → g.given ≡ some r → Within k r n) e ((inside_iff f.kind g.given n).0 s.2)))

fields_from_lem : (f g : TemplateField) (v : Value) → Suits f v → Suits g v → T (fields_meet f g)
unfolding fields_meet
fields_from_lem f g v a b =
    let e : f.kind ≡ g.kind = a.0 ∙ sym b.0 in
    let j : Inside f.kind g.given v.bits = rw e ((inside_iff g.kind g.given v.bits).1 b.1) in
    both (eqb f.kind g.kind) (share f.kind f.given g.given) (rw e (eqb_refl g.kind))
    (share_from f.kind f.given g.given v.bits ((inside_iff f.kind f.given v.bits).1 a.1) j)

-- ---- the fields of two templates

-- the values are what the fields ask for
record Fits (fs : List TemplateField) (vs : List Value) : Type 0 where
  count : length vs ≡ length fs
  kinds : EachPair SameType fs vs
  given : EachPair SameGiven fs vs

fits_nil : Fits [] []
fits_nil = record { count = refl; kinds = λ i f v a b. absurd (none-ne-some f a); given = λ i f v a b. absurd (none-ne-some f a) }

pair_cons : (P : TemplateField → Value → Type 0) (f : TemplateField) (v : Value) (fs : List TemplateField) (vs : List Value) → P f v → EachPair P fs vs → EachPair P (f ∷ fs) (v ∷ vs)
pair_cons P f v fs vs p h zero g w a b = rw (← some-injective f g a, ← some-injective v w b) p
pair_cons P f v fs vs p h (suc i) g w a b = h i g w a b

fits_cons : (f : TemplateField) (v : Value) (fs : List TemplateField) (vs : List Value) → Suits f v → Fits fs vs → Fits (f ∷ fs) (v ∷ vs)
fits_cons f v fs vs s h = record { count = ap suc h.count; kinds = pair_cons SameType f v fs vs s.0 h.kinds; given = pair_cons SameGiven f v fs vs s.1 h.given }

fits_head : (f : TemplateField) (v : Value) (fs : List TemplateField) (vs : List Value) → Fits (f ∷ fs) (v ∷ vs) → Suits f v
fits_head f v fs vs h = (h.kinds 0 f v refl refl, h.given 0 f v refl refl)

fits_tail : (f : TemplateField) (v : Value) (fs : List TemplateField) (vs : List Value) → Fits (f ∷ fs) (v ∷ vs) → Fits fs vs
fits_tail f v fs vs h = let c = h.count in record { count = omega arith; kinds = λ i g w a b. h.kinds (suc i) g w a b; given = λ i g w a b. h.given (suc i) g w a b }

each_to : (fs gs : List TemplateField) → Each FairField fs → Each FairField gs → T (each_meets fs gs) → T (all legal_value (meeting_values fs gs)) × Fits fs (meeting_values fs gs) × Fits gs (meeting_values fs gs)
unfolding each_meets meeting_values all
each_to [] [] a b t = (tt, fits_nil, fits_nil)
each_to [] (g ∷ gs) a b t = absurd t
each_to (f ∷ fs) [] a b t = absurd t
each_to (f ∷ fs) (g ∷ gs) a b t =
    let s = fields_to f g (a f (Memᴰ.head refl)) (b g (Memᴰ.head refl)) (and_l (fields_meet f g) (each_meets fs gs) t) in
    let r = each_to fs gs (λ h i. a h (Memᴰ.tail i)) (λ h i. b h (Memᴰ.tail i)) (and_r (fields_meet f g) (each_meets fs gs) t) in
    let v = meeting_value f g in
    let vs = meeting_values fs gs in
    (both (legal_value v) (all legal_value vs) s.0 r.0, fits_cons f v fs vs s.1 r.1, fits_cons g v gs vs s.2 r.2)

each_from : (fs gs : List TemplateField) (vs : List Value) → Fits fs vs → Fits gs vs → T (each_meets fs gs)
unfolding each_meets
each_from [] [] vs a b = tt
each_from [] (g ∷ gs) vs a b = let c = a.count in let d = b.count in absurd (omega arith)
each_from (f ∷ fs) [] vs a b = let c = a.count in let d = b.count in absurd (omega arith)
each_from (f ∷ fs) (g ∷ gs) [] a b = let c = a.count in absurd (omega arith)
each_from (f ∷ fs) (g ∷ gs) (v ∷ vs) a b =
    both (fields_meet f g) (each_meets fs gs) (fields_from_lem f g v (fits_head f v fs vs a) (fits_head g v gs vs b)) (each_from fs gs vs (fits_tail f v fs vs a) (fits_tail g v gs vs b))

-- a tuple matches exactly if it has the space and its values are what the fields ask for
match_fits : (μ : Template) (τ : Tuple) → T (is_match μ τ) ↔ ((τ.space ≡ μ.space) × Fits μ.fields τ.values)
match_fits μ τ = (
  λ t.
      let m = (match_iff μ τ).0 t in
      let h = (all_hold μ τ).0 m.1 in
      (m.0, record { count = h.0; kinds = h.1; given = h.2 }),
  λ q. (match_iff μ τ).1 (q.0, (all_hold μ τ).1 (q.1.count, q.1.kinds, q.1.given)),
)

-- ---- a form 2

-- a form 2 is among the fields
abbrev pub Refers : List Field → Type 0
Refers fs = Some (λ f. (x : ℕ) × (f ≡ reference x)) fs

reference_iff : Decides (λ f. eqb (form_of f) 2) (λ f. (x : ℕ) × (f ≡ reference x))
unfolding form_of
reference_iff f = (to f, λ q. rw q.1 tt)
  where
    to : (f : Field) → T (eqb (form_of f) 2) → (x : ℕ) × (f ≡ reference x)
    to (actual v) t = absurd t
    to (formal k x) t = absurd t
    to (reference x) t = (x, refl)
    to (sum x v) t = absurd t
    to (difference x v) t = absurd t
    to (anonymous k) t = absurd t
    to (ranged k r x) t = absurd t

-- the test that one is
pub refers_iff : (fs : List Field) → T (refers fs) ↔ Refers fs
unfolding refers
refers_iff fs = any_iff (λ f. eqb (form_of f) 2) (λ f. (x : ℕ) × (f ≡ reference x)) reference_iff fs

-- ---- what legality gives

zero_legal : (k : ℕ) → k ≤ 2 → T (legal_value (value k 0))
unfolding legal_value legal_metres of_bits
zero_legal zero h = tt
zero_legal (suc zero) h = tt
zero_legal (suc (suc zero)) h = tt
zero_legal (suc (suc (suc k))) h = absurd (omega arith)

fair_field : (left : List Field) (f : Field) → AloneOk left f → ¬ ((x : ℕ) × (f ≡ reference x)) → FairField (template_field unbound f)
unfolding template_field
fair_field left (actual v) o n = (o.1, at_most_refl v.kind v.bits)
fair_field left (formal k x) o n = zero_legal k (o.0 k x (inl refl)).0
fair_field left (reference x) o n = absurd (n (x, refl))
fair_field left (sum x v) o n = absurd o.1
fair_field left (difference x v) o n = absurd o.1
fair_field left (anonymous k) o n = zero_legal k o.1
fair_field left (ranged k r x) o n = (o.1.1, o.1.3)

fair : (x : ℕ × List Field) → T (legal_lookup every_kind no_kinds x.0 x.1) → refers x.1 ≡ false → Each FairField (template_of x).fields
fair x t n =
    each_map FairField (template_field unbound) x.1
    (λ f i.
    let o = throughout_in (λ left f. FormIn template_forms f × AloneOk left f) x.1 f ((legal_alone x.0 x.1).0 t).1 i in
    fair_field o.0 f o.1.1 (λ q. T_not (refers x.1) (false_is (refers x.1) n) ((refers_iff x.1).1 (f, i, q))))

-- ---- one legal tuple that both match

-- a legal tuple that both of two operations' spaces and fields match, with no variable bound
pub record InBoth (x y : ℕ × List Field) (τ : Tuple) : Type 0 where
  pub legal : T (legal_tuple τ)
  pub first : T (matches unbound x.0 x.1 τ)
  pub second : T (matches unbound y.0 y.1 τ)

module _ (x y : ℕ × List Field) where
  both_from : (τ : Tuple) → InBoth x y τ → T (meet (template_of x) (template_of y))
  unfolding meet
  both_from τ h =
      let a = (match_fits (template_of x) τ).0 h.first in
      let b = (match_fits (template_of y) τ).0 h.second in
      let e : x.0 ≡ y.0 = sym a.0 ∙ b.0 in
      both (eqb x.0 y.0) (each_meets (template_of x).fields (template_of y).fields) (rw e (eqb_refl y.0)) (each_from (template_of x).fields (template_of y).fields τ.values a.1 b.1)

  both_to : T (legal_lookup every_kind no_kinds x.0 x.1) → T (legal_lookup every_kind no_kinds y.0 y.1) → refers x.1 ≡ false → refers y.1 ≡ false → T (meet (template_of x) (template_of y))
      → InBoth x y (meeting_tuple (template_of x) (template_of y))
  unfolding meet meeting_tuple legal_tuple
  both_to p q m n t =
      let fs = (template_of x).fields in
      let gs = (template_of y).fields in
      let vs = meeting_values fs gs in
      let e : x.0 ≡ y.0 = eqb→eq x.0 y.0 (and_l (eqb x.0 y.0) (each_meets fs gs) t) in
      let r = each_to fs gs (fair x p m) (fair y q n) (and_r (eqb x.0 y.0) (each_meets fs gs) t) in
      let size = ((legal_alone x.0 x.1).0 p).0.1 in
      let count : length vs ≡ length x.1 = r.1.count ∙ length-map x.1 (template_field unbound) in
      record {
        legal =
            both (leb 1 (length vs) && leb (length vs) most_fields) (all legal_value vs)
            (both (leb 1 (length vs)) (leb (length vs) most_fields) (rw count (le→leb 1 (length x.1) size.0)) (rw count (le→leb (length x.1) most_fields size.1))) r.0;
        first = (match_fits (template_of x) (meeting_tuple (template_of x) (template_of y))).1 (refl, r.1);
        second = (match_fits (template_of y) (meeting_tuple (template_of x) (template_of y))).1 (e, r.2);
      }

-- ---- the answers

-- by their tests: whether one refers, whether they meet
abbrev answer : (r m : Bool) → ℕ
answer r m = cond r 19 (cond m 1 0)

module _ (a b : List ℕ) (x y : ℕ × List Field) (first : lookup_in a ≡ some x) (second : lookup_in b ≡ some y) where
  both_given : can_meet a b ≡ meeting x y
  unfolding can_meet
  both_given = rw (first, second)

  module _ (m : refers x.1 ≡ false) (n : refers y.1 ≡ false) where
    neither_refers : can_meet a b ≡ answer false (meet (template_of x) (template_of y))
    unfolding meeting
    neither_refers = both_given ∙ rw (m, n) refl

    -- a tuple that both match: in each place the higher of the two lowest values where both give a range, the lowest of the one that does, 0 where neither does
    pub meeting_tuple_lem : can_meet a b ≡ 1 → InBoth x y (meeting_tuple (template_of x) (template_of y))
    meeting_tuple_lem e = both_to x y (taken a x first).legal (taken b y second).legal m n (go (meet (template_of x) (template_of y)) (sym neither_refers ∙ e))
      where
        go : (c : Bool) → answer false c ≡ 1 → T c
        go true e = tt
        go false e = absurd (omega arith)

    -- "by 1 exactly if one tuple exists that both match"
    pub meet_iff : (can_meet a b ≡ 1) ↔ ((τ : Tuple) × InBoth x y τ)
    meet_iff = (λ e. (meeting_tuple (template_of x) (template_of y), meeting_tuple_lem e), λ h. neither_refers ∙ rw (is_true (meet (template_of x) (template_of y)) (both_from x y h.0 h.1)))

    -- "else by 0": exactly if there is none
    pub apart_iff : (can_meet a b ≡ 0) ↔ ((τ : Tuple) → ¬ InBoth x y τ)
    apart_iff = (λ e τ h. let f = meet_iff.1 (τ, h) in omega arith, λ h. neither_refers ∙ go (meet (template_of x) (template_of y)) refl h)
      where
        go : (c : Bool) → meet (template_of x) (template_of y) ≡ c → ((τ : Tuple) → ¬ InBoth x y τ) → answer false c ≡ 0
        go true e h = absurd (h (meeting_tuple (template_of x) (template_of y)) (meeting_tuple_lem (neither_refers ∙ rw e)))
        go false e h = refl

answer_not_6 : (r m : Bool) → ¬ (answer r m ≡ 6)
answer_not_6 true m e = omega arith
answer_not_6 false true e = omega arith
answer_not_6 false false e = omega arith

answer_19 : (r m : Bool) → (answer r m ≡ 19) ↔ T r
answer_19 true m = (λ e. tt, λ t. refl)
answer_19 false true = (λ e. absurd (omega arith), λ t. absurd t)
answer_19 false false = (λ e. absurd (omega arith), λ t. absurd t)

-- 6 exactly if one of them is no such operation
pub malformed_iff : (a b : List ℕ) → (can_meet a b ≡ 6) ↔ ((lookup_in a ≡ none) ⊎ (lookup_in b ≡ none))
unfolding can_meet meeting
malformed_iff a b = go (lookup_in a) (lookup_in b)
  where
    never : (x y : ℕ × List Field) → (some x ≡ none) ⊎ (some y ≡ none) → ⊥
    never x y (inl e) = none-ne-some x (sym e)
    never x y (inr e) = none-ne-some y (sym e)

    go : (o p : Option (ℕ × List Field)) → (maybe o 6 (λ x. maybe p 6 (meeting x)) ≡ 6) ↔ ((o ≡ none) ⊎ (p ≡ none))
    go none p = (λ e. inl refl, λ h. refl)
    go (some x) none = (λ e. inr refl, λ h. refl)
    go (some x) (some y) = (λ e. absurd (answer_not_6 (refers x.1 || refers y.1) (meet (template_of x) (template_of y)) e), λ h. absurd (never x y h))

-- two such operations, and a form 2 in one of them
pub record OneRefers (a b : List ℕ) : Type 0 where
  pub one : ℕ × List Field
  pub other : ℕ × List Field
  pub first : lookup_in a ≡ some one
  pub second : lookup_in b ≡ some other
  pub refers : Refers one.1 ⊎ Refers other.1

-- "Any form 2 is refused 19, after 6": exactly if both are such operations and a form 2 is in one of them
pub refers_19 : (a b : List ℕ) → (can_meet a b ≡ 19) ↔ OneRefers a b
unfolding can_meet meeting
refers_19 a b = (go (lookup_in a) (lookup_in b) refl refl, λ h. rw (h.first, h.second) ((answer_19 (refers h.one.1 || refers h.other.1) (meet (template_of h.one) (template_of h.other))).1 (from h.one h.other h.refers)))
  where
    from : (x y : ℕ × List Field) → Refers x.1 ⊎ Refers y.1 → T (refers x.1 || refers y.1)
    from x y (inl r) = or_l (refers x.1) (refers y.1) ((refers_iff x.1).1 r)
    from x y (inr r) = or_r (refers x.1) (refers y.1) ((refers_iff y.1).1 r)

    to : (x y : ℕ × List Field) → T (refers x.1) ⊎ T (refers y.1) → Refers x.1 ⊎ Refers y.1
    to x y (inl t) = inl ((refers_iff x.1).0 t)
    to x y (inr t) = inr ((refers_iff y.1).0 t)

    go : (o p : Option (ℕ × List Field)) → lookup_in a ≡ o → lookup_in b ≡ p → maybe o 6 (λ x. maybe p 6 (meeting x)) ≡ 19 → OneRefers a b
    go none p q r e = absurd (omega arith)
    go (some x) none q r e = absurd (omega arith)
    go (some x) (some y) q r e =
        let t = (answer_19 (refers x.1 || refers y.1) (meet (template_of x) (template_of y))).0 e in
        record { one = x; other = y; first = q; second = r; refers = to x y (or_cases (refers x.1) (refers y.1) t) }

refers_not : (fs : List Field) → refers fs ≡ false → ¬ Refers fs
refers_not fs e r = T_not (refers fs) (false_is (refers fs) e) ((refers_iff fs).1 r)

-- two such operations with no form 2
pub record NeitherRefers (a b : List ℕ) : Type 0 where
  pub one : ℕ × List Field
  pub other : ℕ × List Field
  pub first : lookup_in a ≡ some one
  pub second : lookup_in b ≡ some other
  pub one_not : ¬ Refers one.1
  pub other_not : ¬ Refers other.1

-- the four answers, and what each says
pub data Answer (a b : List ℕ) : ℕ → Type 0 where
  malformed : (lookup_in a ≡ none) ⊎ (lookup_in b ≡ none) → Answer a b 6
  variable : OneRefers a b → Answer a b 19
  meets : (h : NeitherRefers a b) (τ : Tuple) → InBoth h.one h.other τ → Answer a b 1
  apart : (h : NeitherRefers a b) → ((τ : Tuple) → ¬ InBoth h.one h.other τ) → Answer a b 0

-- there is no other
pub answers : (a b : List ℕ) → Answer a b (can_meet a b)
unfolding can_meet meeting
answers a b = go (lookup_in a) (lookup_in b) refl refl
  where
    by_tests : (x y : ℕ × List Field) → lookup_in a ≡ some x → lookup_in b ≡ some y → (l r m : Bool) → refers x.1 ≡ l → refers y.1 ≡ r → meet (template_of x) (template_of y) ≡ m → Answer a b (answer (l || r) m)
    by_tests x y q p true r m e f g = variable (record { one = x; other = y; first = q; second = p; refers = inl ((refers_iff x.1).0 (true_is _ e)) })
    by_tests x y q p false true m e f g = variable (record { one = x; other = y; first = q; second = p; refers = inr ((refers_iff y.1).0 (true_is _ f)) })
    by_tests x y q p false false m e f g = last m g
      where
        neither : NeitherRefers a b
        neither = record { one = x; other = y; first = q; second = p; one_not = refers_not x.1 e; other_not = refers_not y.1 f }

        last : (m : Bool) → meet (template_of x) (template_of y) ≡ m → Answer a b (answer false m)
        last true g = meets neither (meeting_tuple (template_of x) (template_of y)) (both_to x y (taken a x q).legal (taken b y p).legal e f (true_is _ g))
        last false g = apart neither (λ τ h. T_not (meet (template_of x) (template_of y)) (false_is (meet (template_of x) (template_of y)) g) (both_from x y τ h))

    go : (o p : Option (ℕ × List Field)) → lookup_in a ≡ o → lookup_in b ≡ p → Answer a b (maybe o 6 (λ x. maybe p 6 (meeting x)))
    go none p q r = malformed (inl q)
    go (some x) none q r = malformed (inr r)
    go (some x) (some y) q r = by_tests x y q r (refers x.1) (refers y.1) (meet (template_of x) (template_of y)) refl refl refl

-- ---- the two in either order

share_turned : (k : ℕ) (o p : Option Range) → T (share k o p) → T (share k p o)
unfolding overlap
share_turned k none none t = tt
share_turned k none (some q) t = tt
share_turned k (some r) none t = tt
share_turned k (some r) (some q) t =
    both (at_most k q.lowest r.highest) (at_most k r.lowest q.highest) (and_r (at_most k r.lowest q.highest) (at_most k q.lowest r.highest) t)
    (and_l (at_most k r.lowest q.highest) (at_most k q.lowest r.highest) t)

fields_turned : (f g : TemplateField) → T (fields_meet f g) → T (fields_meet g f)
unfolding fields_meet
fields_turned f g t =
    let e : f.kind ≡ g.kind = eqb→eq f.kind g.kind (and_l (eqb f.kind g.kind) (share f.kind f.given g.given) t) in
    let s = share_turned f.kind f.given g.given (and_r (eqb f.kind g.kind) (share f.kind f.given g.given) t) in
    both (eqb g.kind f.kind) (share g.kind g.given f.given) (rw e (eqb_refl g.kind)) (rw (← e) s)

each_turned : (fs gs : List TemplateField) → T (each_meets fs gs) → T (each_meets gs fs)
unfolding each_meets
each_turned [] [] t = tt
each_turned [] (g ∷ gs) t = t
each_turned (f ∷ fs) [] t = t
each_turned (f ∷ fs) (g ∷ gs) t =
    both (fields_meet g f) (each_meets gs fs) (fields_turned f g (and_l (fields_meet f g) (each_meets fs gs) t)) (each_turned fs gs (and_r (fields_meet f g) (each_meets fs gs) t))

meet_turned : (μ ν : Template) → T (meet μ ν) → T (meet ν μ)
unfolding meet
meet_turned μ ν t =
    let e : μ.space ≡ ν.space = eqb→eq μ.space ν.space (and_l (eqb μ.space ν.space) (each_meets μ.fields ν.fields) t) in
    both (eqb ν.space μ.space) (each_meets ν.fields μ.fields) (rw e (eqb_refl ν.space)) (each_turned μ.fields ν.fields (and_r (eqb μ.space ν.space) (each_meets μ.fields ν.fields) t))

meeting_turned : (x y : ℕ × List Field) → meeting x y ≡ meeting y x
unfolding meeting
meeting_turned x y = ap₂ answer (or_turned (refers x.1) (refers y.1)) (same_test (meet (template_of x) (template_of y)) (meet (template_of y) (template_of x)) (meet_turned (template_of x) (template_of y)) (meet_turned (template_of y) (template_of x)))
  where
    or_turned : (a b : Bool) → (a || b) ≡ (b || a)
    or_turned true true = refl
    or_turned true false = refl
    or_turned false true = refl
    or_turned false false = refl

-- the answer is the same in either order
pub meet_symmetric : (a b : List ℕ) → can_meet a b ≡ can_meet b a
unfolding can_meet
meet_symmetric a b = go (lookup_in a) (lookup_in b)
  where
    go : (o p : Option (ℕ × List Field)) → maybe o 6 (λ x. maybe p 6 (meeting x)) ≡ maybe p 6 (λ y. maybe o 6 (meeting y))
    go none none = refl
    go none (some y) = refl
    go (some x) none = refl
    go (some x) (some y) = meeting_turned x y

-- ---- in any branch

-- what a template without form 2 asks for does not hang on the variables that are bound
pub template_free : (bs : Bindings) (s : ℕ) (fs : List Field) → refers fs ≡ false → template bs s fs ≡ template unbound s fs
unfolding refers any template_field form_of
template_free bs s fs e = ap (λ (gs : List TemplateField). record { space = s; fields = gs }) (go fs e)
  where
    field : (f : Field) → eqb (form_of f) 2 ≡ false → template_field bs f ≡ template_field unbound f
    field (actual v) n = refl
    field (formal k x) n = refl
    field (reference x) n = absurd (true≢false n)
    field (sum x v) n = refl
    field (difference x v) n = refl
    field (anonymous k) n = refl
    field (ranged k r x) n = refl

    go : (l : List Field) → refers l ≡ false → map (template_field bs) l ≡ map (template_field unbound) l
    go [] n = refl
    go (f ∷ l) n = first (eqb (form_of f) 2) refl n (go l)
      where
        first : (t : Bool) → eqb (form_of f) 2 ≡ t → (t || any (λ g. eqb (form_of g) 2) l) ≡ false → (refers l ≡ false → map (template_field bs) l ≡ map (template_field unbound) l)
            → template_field bs f ∷ map (template_field bs) l ≡ template_field unbound f ∷ map (template_field unbound) l
        first true q n later = absurd (true≢false n)
        first false q n later = λ i. field f q i ∷ later n i
