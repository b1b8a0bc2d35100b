-- The fields of one operation are legal exactly if they are so in words: the kinds that legality carries along are those of the fields so far. Assumes nothing.
use Rattle.std.specs.Prelude.{◌≡◌, refl, ◌↔◌, ◌≢◌, ◌⊎◌, ℕ, ◌≤◌, ◌<◌, Bool, false, not, ◌&&◌, length, set, T, ltb, eqb}
use Rattle.std.proofs.Common.{sym, ap, subst, ◌∙◌, inl, inr, arith, length-set, get_or-set_same, get_or-set_other, eqb→eq, ltb→lt, lt→ltb}
use Rattle.std.proofs.Math.Bool.{true}
use Rattle.std.proofs.Math.Option.{Option, none, some, some-injective, none-ne-some}
use mathlib.Core.List.Memᴰ
use mathlib.Core.List.{List, [], ◌∷◌, ◌++◌, append-nil, append_assoc, Memᴰ}
use Rattle.std.proofs.Math.Dec.{not_T, eqb_refl}
use Rattle.basis.specs.Choice.{maybe, maybe-ind, is_some}
use Rattle.basis.specs.Logic.{and_l, and_r, both, not_eq}
use Rattle.basis.specs.Lists.{is_in}
use Rattle.basis.specs.Sizes.{variables}
use Rattle.model.specs.Value.{Value, value, name, is_kind, legal_value, Range, at_most}
use Rattle.model.specs.Statement.{Field, actual, formal, reference, sum, difference, anonymous, ranged, Binder, binder_of}
use Rattle.model.specs.Legal.{Kinds, kind_in, form_of, summable, legal_range, legal_parts, legal_binder, legal_field, bind_kind, bind_kinds, legal_fields}
use Rattle.model.proofs.CheckLaws.{in_iff}
use Rattle.model.proofs.BinderLaws.{BindsAt, BoundIn, binder_binds, binds_binder}
use Rattle.model.proofs.RoundTrip.{legal_range_lem}
use Rattle.model.proofs.LegalWords.{RangeOk, BinderOk, PartsOk, FieldOk, FormIn, Throughout, throughout_cons, throughout_head, throughout_tail, throughout_nil}

-- what a field binds, if it binds
abbrev pub BindersOk : (sofar : List Field) → Field → Type 0
BindersOk sofar f = (k x : ℕ) → BindsAt k x f → BinderOk sofar k x

-- ---- the kinds so far are those of the fields so far

-- the variables that the fields bind, each at its kind, and no others
pub record Tell (ks : Kinds) (fs : List Field) : Type 0 where
  pub places : length ks ≡ variables
  pub each : (x k : ℕ) → (kind_in ks x ≡ some k) ↔ BoundIn k x fs

tell_none : (ks : Kinds) (fs : List Field) (x : ℕ) → Tell ks fs → (kind_in ks x ≡ none) ↔ ((k : ℕ) → ¬ BoundIn k x fs)
tell_none ks fs x t = (λ e k m. none-ne-some k (sym e ∙ (t.each x k).1 m), λ n. go (kind_in ks x) refl n)
  where
    go : (o : Option ℕ) → kind_in ks x ≡ o → ((k : ℕ) → ¬ BoundIn k x fs) → kind_in ks x ≡ none
    go none q n = q
    go (some k) q n = absurd (n k ((t.each x k).0 q))

-- one field more
more_bound : (k x : ℕ) (fs : List Field) (f : Field) → BoundIn k x fs → BoundIn k x (fs ++ (f ∷ []))
more_bound k x fs f q = (q.0, Memᴰ.append_left (f ∷ []) q.1, q.2)

last_bound : (k x : ℕ) (fs : List Field) (f : Field) → BindsAt k x f → BoundIn k x (fs ++ (f ∷ []))
last_bound k x fs f e = (f, Memᴰ.append_right fs (Memᴰ.head refl), e)

bound_cases : (k x : ℕ) (fs : List Field) (f : Field) → BoundIn k x (fs ++ (f ∷ [])) → BoundIn k x fs ⊎ BindsAt k x f
bound_cases k x fs f q = go (Memᴰ.append_cases fs q.1)
  where
    go : Memᴰ q.0 fs ⊎ Memᴰ q.0 (f ∷ []) → BoundIn k x fs ⊎ BindsAt k x f
    go (inl m) = inl (q.0, m, q.2)
    go (inr m) = inr (subst (BindsAt k x) (Memᴰ.eq_of_singleton m) q.2)

-- a field that binds nothing
tell_more : (ks : Kinds) (fs : List Field) (f : Field) → binder_of f ≡ none → Tell ks fs → Tell ks (fs ++ (f ∷ []))
tell_more ks fs f n t = record { places = t.places; each = λ x k. (λ e. more_bound k x fs f ((t.each x k).0 e), λ m. go x k (bound_cases k x fs f m)) }
  where
    go : (x k : ℕ) → BoundIn k x fs ⊎ BindsAt k x f → kind_in ks x ≡ some k
    go x k (inl m) = (t.each x k).1 m
    go x k (inr e) = absurd (none-ne-some _ (sym n ∙ binds_binder k x f e))

-- a field that binds
tell_binder : (ks : Kinds) (fs : List Field) (f : Field) (b : Binder) → binder_of f ≡ some b → b.variable < variables → ((j : ℕ) → ¬ BoundIn j b.variable fs) → Tell ks fs
    → Tell (set ks b.variable (some b.kind)) (fs ++ (f ∷ []))
tell_binder ks fs f b q low new t = record { places = length-set ks b.variable (some b.kind) ∙ t.places; each = λ y j. go y j (eqb y b.variable) refl }
  where
    here : kind_in (set ks b.variable (some b.kind)) b.variable ≡ some b.kind
    here = get_or-set_same ks b.variable (some b.kind) none (omega (arith, t.places))

    is : (j y : ℕ) → BindsAt j y f → b ≡ record { kind = j; variable = y }
    is j y e = some-injective b _ (sym q ∙ binds_binder j y f e)

    same : (j : ℕ) → BoundIn j b.variable fs ⊎ BindsAt j b.variable f → kind_in (set ks b.variable (some b.kind)) b.variable ≡ some j
    same j (inl m) = absurd (new j m)
    same j (inr e) = here ∙ ap (λ (c : Binder). some c.kind) (is j b.variable e)

    other : (y j : ℕ) → y ≢ b.variable → BoundIn j y fs ⊎ BindsAt j y f → kind_in ks y ≡ some j
    other y j d (inl m) = (t.each y j).1 m
    other y j d (inr e) = absurd (d (sym (ap (λ (c : Binder). c.variable) (is j y e))))

    go : (y j : ℕ) (c : Bool) → eqb y b.variable ≡ c → (kind_in (set ks b.variable (some b.kind)) y ≡ some j) ↔ BoundIn j y (fs ++ (f ∷ []))
    go y j true p =
        let e : y ≡ b.variable = eqb→eq y b.variable (rw p tt) in
        rw e (
          λ p. last_bound j b.variable fs f (subst (λ (i : ℕ). BindsAt i b.variable f) (some-injective b.kind j (sym here ∙ p)) (binder_binds f b q)),
          λ m. same j (bound_cases j b.variable fs f m),
        )
    go y j false p =
        let d : y ≢ b.variable = not_eq y b.variable (rw p tt) in
        rw (get_or-set_other ks b.variable y (some b.kind) none d) (
          λ e. more_bound j y fs f ((t.each y j).0 e),
          λ m. other y j d (bound_cases j y fs f m),
        )

-- a field that binds nothing, or what it may
tell_bind : (ks : Kinds) (sofar : List Field) (f : Field) → BindersOk sofar f → Tell ks sofar → Tell (bind_kind ks f) (sofar ++ (f ∷ []))
unfolding bind_kind
tell_bind ks sofar f o t =
    maybe-ind (λ (js : Kinds). Tell js (sofar ++ (f ∷ []))) (binder_of f) ks _ (λ e. tell_more ks sofar f e t)
    (λ b e. let h = o b.kind b.variable (binder_binds f b e) in tell_binder ks sofar f b e h.1 h.2 t)

-- ---- a field

-- kinds 0 to 2
pub kind_iff : (k : ℕ) → T (is_kind k) ↔ (k ≤ 2)
unfolding is_kind
kind_iff k = (λ t. let l = ltb→lt k 3 t in omega arith, λ h. lt→ltb k 3 (omega arith))

unbound_iff : (o : Option ℕ) → T (not (is_some o)) ↔ (o ≡ none)
unfolding is_some
unbound_iff none = (λ t. refl, λ e. tt)
unbound_iff (some k) = (λ t. absurd t, λ e. absurd (none-ne-some k (sym e)))

bound_iff : (o : Option ℕ) → T (is_some o) ↔ ((k : ℕ) × (o ≡ some k))
unfolding is_some
bound_iff none = (λ t. absurd t, λ q. none-ne-some q.0 q.1)
bound_iff (some k) = (λ t. (k, refl), λ q. tt)

summable_iff : (o : Option ℕ) (v : Value) → T (summable o v) ↔ ((o ≡ some v.kind) × (v.kind ≢ name) × T (legal_value v))
unfolding summable
summable_iff none v = (λ t. absurd t, λ q. none-ne-some v.kind q.0)
summable_iff (some k) v = (
  λ t.
      let e : k ≡ v.kind = eqb→eq k v.kind (and_l (eqb k v.kind) (not (eqb k name)) (and_l (eqb k v.kind && not (eqb k name)) (legal_value v) t)) in
      let d : T (not (eqb k name)) = and_r (eqb k v.kind) (not (eqb k name)) (and_l (eqb k v.kind && not (eqb k name)) (legal_value v) t) in
      (ap some e, not_eq v.kind name (rw e at d), and_r (eqb k v.kind && not (eqb k name)) (legal_value v) t),
  λ q.
      let e : k ≡ v.kind = some-injective k v.kind q.0 in
      both (eqb k v.kind && not (eqb k name)) (legal_value v) (both (eqb k v.kind) (not (eqb k name)) (rw e (eqb_refl v.kind)) (not_T (eqb k name) (λ t. q.1 (sym e ∙ eqb→eq k name t)))) q.2,
)

summed_iff : (earlier : Kinds) (before : List Field) (x : ℕ) (v : Value) → Tell earlier before → T (summable (kind_in earlier x) v) ↔ (BoundIn v.kind x before × (v.kind ≢ name) × T (legal_value v))
summed_iff earlier before x v t =
    let r = summable_iff (kind_in earlier x) v in
    (λ s. let q = r.0 s in ((t.each x v.kind).0 q.0, q.1, q.2), λ q. r.1 ((t.each x v.kind).1 q.0, q.1, q.2))

-- a range, not of names, with two legal ends in order
pub range_iff : (k : ℕ) (r : Range) → T (legal_range k r) ↔ RangeOk k r
unfolding legal_range
range_iff k r = (
  λ t. let l = legal_range_lem k r t in (not_eq k name l.0, l.1, l.2, l.3),
  λ q. let d : T (not (eqb k name)) = not_T (eqb k name) (λ t. q.0 (eqb→eq k name t)) in search (both, d, q.1, q.2, q.3) depth 16,
)

parts_iff : (earlier : Kinds) (before : List Field) → Tell earlier before → (f : Field) → T (legal_parts earlier f) ↔ PartsOk before f
unfolding legal_parts
parts_iff earlier before t (actual v) = (λ s. s, λ s. s)
parts_iff earlier before t (formal k x) = (λ s. tt, λ s. tt)
parts_iff earlier before t (reference x) = (
  λ s. let q = (bound_iff (kind_in earlier x)).0 s in (q.0, (t.each x q.0).0 q.1),
  λ q. (bound_iff (kind_in earlier x)).1 (q.0, (t.each x q.0).1 q.1),
)
parts_iff earlier before t (sum x v) = summed_iff earlier before x v t
parts_iff earlier before t (difference x v) = summed_iff earlier before x v t
parts_iff earlier before t (anonymous k) = kind_iff k
parts_iff earlier before t (ranged k r x) = range_iff k r

-- both of two tests
pub and_iff : (a b : Bool) (A B : Type 0) → (T a ↔ A) → (T b ↔ B) → T (a && b) ↔ (A × B)
and_iff a b A B f g = (λ t. (f.0 (and_l a b t), g.0 (and_r a b t)), λ q. both a b (f.1 q.0) (g.1 q.1))

binder_iff : (now : Kinds) (sofar : List Field) → Tell now sofar → (b : Binder) → T (legal_binder now b) ↔ BinderOk sofar b.kind b.variable
unfolding legal_binder
binder_iff now sofar u b =
    let x = b.variable in
    let low : T (ltb x variables) ↔ (x < variables) = (λ s. ltb→lt x variables s, λ h. lt→ltb x variables h) in
    let new : T (not (is_some (kind_in now x))) ↔ ((j : ℕ) → ¬ BoundIn j x sofar) =
    (λ s. (tell_none now sofar x u).0 ((unbound_iff (kind_in now x)).0 s), λ n. (unbound_iff (kind_in now x)).1 ((tell_none now sofar x u).1 n)) in
    let r = and_iff (is_kind b.kind && ltb x variables) (not (is_some (kind_in now x))) _ _ (and_iff (is_kind b.kind) (ltb x variables) _ _ (kind_iff b.kind) low) new in
    (λ s. let q = r.0 s in (q.0.0, q.0.1, q.1), λ q. r.1 ((q.0, q.1), q.2))

-- what a field binds, if it binds
binders_iff : (now : Kinds) (sofar : List Field) → Tell now sofar → (f : Field) → T (maybe (binder_of f) true (legal_binder now)) ↔ BindersOk sofar f
binders_iff now sofar u f = (
  λ s k x e. (binder_iff now sofar u (record { kind = k; variable = x })).0 (rw (binds_binder k x f e) at s),
  λ h. maybe-ind T (binder_of f) true (legal_binder now) (λ e. tt) (λ b e. (binder_iff now sofar u b).1 (h b.kind b.variable (binder_binds f b e))),
)

-- ---- the fields of an operation

-- `earlier`: the kinds of the variables that forms 2, 3 and 4 may use; `Parts`: what is then asked of the parts of an allowed form; `before`: the fields whose variables may not be bound again
module _ (allowed : List ℕ) (earlier : Kinds) (Parts : Field → Type 0) (parts : (f : Field) → FormIn allowed f → T (legal_parts earlier f) ↔ Parts f) (before : List Field) where
  abbrev Ok : (left : List Field) → Field → Type 0
  Ok left f = FormIn allowed f × (BindersOk (before ++ left) f × Parts f)

  field_iff : (now : Kinds) (left : List Field) → Tell now (before ++ left) → (f : Field) → T (is_in (form_of f) allowed && legal_field earlier now f) ↔ Ok left f
  unfolding legal_field
  field_iff now left u f =
      let a = is_in (form_of f) allowed in
      let b = maybe (binder_of f) true (legal_binder now) in
      let c = legal_parts earlier f in (
        λ s.
            let i = (in_iff (form_of f) allowed).0 (and_l a (b && c) s) in
            (i, ((binders_iff now (before ++ left) u f).0 (and_l b c (and_r a (b && c) s)), (parts f i).0 (and_r b c (and_r a (b && c) s)))),
        λ q. both a (b && c) ((in_iff (form_of f) allowed).1 q.0) (both b c ((binders_iff now (before ++ left) u f).1 q.1.0) ((parts f q.0).1 q.1.1)),
      )

  -- the kinds after a field
  after_field : (now : Kinds) (left : List Field) (f : Field) → Tell now (before ++ left) → Ok left f → Tell (bind_kind now f) (before ++ (left ++ (f ∷ [])))
  after_field now left f u o = rw (← append_assoc before left (f ∷ [])) (tell_bind now (before ++ left) f o.1.0 u)

  fields_to : (now : Kinds) (left : List Field) → Tell now (before ++ left) → (fs : List Field) → T (legal_fields allowed earlier now fs)
      → Throughout (λ more f. Ok (left ++ more) f) fs × Tell (bind_kinds now fs) (before ++ (left ++ fs))
  unfolding legal_fields bind_kinds
  fields_to now left u [] s = (throughout_nil _, rw (append-nil left) u)
  fields_to now left u (f ∷ fs) s =
      let a = is_in (form_of f) allowed && legal_field earlier now f in
      let c = legal_fields allowed earlier (bind_kind now f) fs in
      let o = (field_iff now left u f).0 (and_l a c s) in
      let r = fields_to (bind_kind now f) (left ++ (f ∷ [])) (after_field now left f u o) fs (and_r a c s) in (
        throughout_cons (λ more g. Ok (left ++ more) g) f fs (rw (append-nil left) o) (λ more right g e. rw (append_assoc left (f ∷ []) more) at (r.0 more right g e)),
        rw (append_assoc left (f ∷ []) fs) at r.1,
      )

  fields_from_lem : (now : Kinds) (left : List Field) → Tell now (before ++ left) → (fs : List Field) → Throughout (λ more f. Ok (left ++ more) f) fs → T (legal_fields allowed earlier now fs)
  unfolding legal_fields
  fields_from_lem now left u [] h = tt
  fields_from_lem now left u (f ∷ fs) h =
      let a = is_in (form_of f) allowed && legal_field earlier now f in
      let c = legal_fields allowed earlier (bind_kind now f) fs in
      let o = rw (append-nil left) at (throughout_head (λ more g. Ok (left ++ more) g) f fs h) in
      let later = throughout_tail (λ more g. Ok (left ++ more) g) f fs h in
      both a c ((field_iff now left u f).1 o)
      (fields_from_lem (bind_kind now f) (left ++ (f ∷ [])) (after_field now left f u o) fs (λ more right g e. rw (append_assoc left (f ∷ []) more) (later more right g e)))

  -- the fields are legal exactly if each is so, after those to its left
  pub each_iff : (now : Kinds) → Tell now before → (fs : List Field) → T (legal_fields allowed earlier now fs) ↔ Throughout (λ left f. FormIn allowed f × (BindersOk (before ++ left) f × Parts f)) fs
  each_iff now t fs = (λ s. (fields_to now [] (rw (append-nil before) t) fs s).0, λ h. fields_from_lem now [] (rw (append-nil before) t) fs h)

  -- and then the kinds after them are theirs too
  pub each_tell : (now : Kinds) → Tell now before → (fs : List Field) → T (legal_fields allowed earlier now fs) → Tell (bind_kinds now fs) (before ++ fs)
  each_tell now t fs s = (fields_to now [] (rw (append-nil before) t) fs s).1

-- in a branch: forms 2, 3 and 4 may use what earlier operations bound, and none of it may be bound again
module _ (allowed : List ℕ) (earlier : Kinds) (before : List Field) (t : Tell earlier before) where
  -- the fields are legal exactly if each is so, after those to its left
  pub fields_iff : (fs : List Field) → T (legal_fields allowed earlier earlier fs) ↔ Throughout (λ left f. FormIn allowed f × FieldOk before left f) fs
  fields_iff = each_iff allowed earlier (PartsOk before) (λ f i. parts_iff earlier before t f) before earlier t

  -- and then the kinds after them are theirs too
  pub fields_tell : (fs : List Field) → T (legal_fields allowed earlier earlier fs) → Tell (bind_kinds earlier fs) (before ++ fs)
  fields_tell = each_tell allowed earlier (PartsOk before) (λ f i. parts_iff earlier before t f) before earlier t
