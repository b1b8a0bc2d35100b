-- The variables of a legal branch: those that its operations bound, and no others, each hold a legal value of the kind at which it was bound. Assumes nothing.
use Rattle.std.specs.Prelude.{◌≡◌, refl, ℕ, zero, suc, not, List, [], ◌∷◌, map, length, get_or, set, replicate, T}
use Rattle.std.proofs.Common.{sym, ap, subst, ◌∙◌, arith, length-set, eqb→eq}
use Rattle.std.proofs.Math.Option
use Rattle.std.proofs.Math.Option.{Option, none, some, some-injective, none-ne-some}
use mathlib.Core.List.Memᴰ
use Rattle.basis.specs.Choice.{maybe, maybe-ind, is_some}
use Rattle.basis.specs.Logic.{and_l, and_r}
use Rattle.basis.specs.Lists.{is_in}
use Rattle.basis.specs.ListLaws.{Each, each_nil, each-cons}
use Rattle.basis.specs.Sizes.{variables}
use Rattle.model.specs.Value.{Value, value, whole, legal_value}
use Rattle.model.specs.Statement.{Field, actual, formal, reference, sum, difference, anonymous, ranged, Binder, binder_of}
use Rattle.model.specs.Legal.{Kinds, no_kinds, kind_in, form_of, summable, legal_parts, legal_field, bind_kind, bind_kinds, legal_fields}
use Rattle.model.specs.Matching.{Bindings, unbound, value_of, template_field, each_pair, same_kind, bind_field, bind}
use Rattle.model.specs.Execution.{made, made_all}
use Rattle.model.proofs.SumLaws.{plus_legal, minus_legal}
use Rattle.model.proofs.BinderLaws.{binder_kind, binding_barred, binds_none, kinds_left, legal_parts_lem}

-- a legal value
abbrev pub Legal : Value → Type 0
Legal v = T (legal_value v)

-- bound at a kind and holding a legal value of it, or neither
abbrev pub Fits : Option ℕ → Option Value → Type 0
Fits none none = Unit {0}
Fits none (some v) = ⊥
Fits (some k) none = ⊥
Fits (some k) (some v) = (v.kind ≡ k) × Legal v

-- each variable so
abbrev pub Agree : Kinds → Bindings → Type 0
Agree [] [] = Unit {0}
Agree [] (b ∷ bs) = ⊥
Agree (k ∷ ks) [] = ⊥
Agree (k ∷ ks) (b ∷ bs) = Fits k b × Agree ks bs

-- before a branch runs no variable is bound
pub agree_unbound : Agree no_kinds unbound
agree_unbound = go variables
  where
    go : (n : ℕ) → Agree (replicate n none) (replicate n none)
    go zero = tt
    go (suc n) = (tt, go n)

pub agree_at : (ks : Kinds) (bs : Bindings) (x : ℕ) → Agree ks bs → Fits (kind_in ks x) (get_or bs x none)
agree_at [] [] x a = tt
agree_at [] (b ∷ bs) x a = absurd a
agree_at (k ∷ ks) [] x a = absurd a
agree_at (k ∷ ks) (b ∷ bs) zero a = a.0
agree_at (k ∷ ks) (b ∷ bs) (suc x) a = agree_at ks bs x a.1

agree_set : (ks : Kinds) (bs : Bindings) (x k : ℕ) (v : Value) → v.kind ≡ k → Legal v → Agree ks bs → Agree (set ks x (some k)) (set bs x (some v))
agree_set [] [] x k v e l a = tt
agree_set [] (b ∷ bs) x k v e l a = absurd a
agree_set (j ∷ ks) [] x k v e l a = absurd a
agree_set (j ∷ ks) (b ∷ bs) zero k v e l a = ((e, l), a.1)
agree_set (j ∷ ks) (b ∷ bs) (suc x) k v e l a = (a.0, agree_set ks bs x k v e l a.1)

-- each variable is unbound or holds a legal value
abbrev pub LegalOr : Option Value → Type 0
LegalOr none = Unit {0}
LegalOr (some v) = Legal v

-- so the values are legal
pub agree_legal : (ks : Kinds) (bs : Bindings) → Agree ks bs → Each LegalOr bs
agree_legal [] [] a = each_nil LegalOr
agree_legal [] (b ∷ bs) a = absurd a
agree_legal (k ∷ ks) [] a = absurd a
agree_legal (k ∷ ks) (b ∷ bs) a = each-cons LegalOr b bs (go k b a.0) (agree_legal ks bs a.1)
  where
    go : (k : Option ℕ) (b : Option Value) → Fits k b → LegalOr b
    go none none f = tt
    go none (some v) f = absurd f
    go (some k) none f = absurd f
    go (some k) (some v) f = f.1

-- and there are as many variables as legality counts with
pub agree_length : (ks : Kinds) (bs : Bindings) → Agree ks bs → length bs ≡ length ks
agree_length [] [] a = refl
agree_length [] (b ∷ bs) a = absurd a
agree_length (k ∷ ks) [] a = absurd a
agree_length (k ∷ ks) (b ∷ bs) a = ap suc (agree_length ks bs a.1)

-- ---- what a template binds

agree_field : (at : Bindings) (f : Field) (v : Value) (ks : Kinds) (bs : Bindings) → T (same_kind (template_field at f) v) → Legal v → Agree ks bs → Agree (bind_kind ks f) (bind_field bs f v)
unfolding bind_kind bind_field same_kind
agree_field at f v ks bs t l a = go (binder_of f) refl
  where
    go : (o : Option Binder) → binder_of f ≡ o → Agree (maybe o ks (λ b. set ks b.variable (some b.kind))) (maybe o bs (λ b. set bs b.variable (some v)))
    go none q = a
    go (some b) q = agree_set ks bs b.variable b.kind v (sym (eqb→eq (template_field at f).kind v.kind t) ∙ binder_kind at f b q) l a

-- a template of a tuple's kinds and count binds legal values at its kinds
pub agree_bind : (at : Bindings) (fs : List Field) (vs : List Value) (ks : Kinds) (bs : Bindings)
    → length vs ≡ length fs → T (each_pair same_kind (map (template_field at) fs) vs) → Each Legal vs → Agree ks bs → Agree (bind_kinds ks fs) (bind bs fs vs)
unfolding bind_kinds bind each_pair
agree_bind at [] vs ks bs n t l a = a
agree_bind at (f ∷ fs) [] ks bs n t l a = absurd (omega arith)
agree_bind at (f ∷ fs) (v ∷ vs) ks bs n t l a =
    agree_bind at fs vs (bind_kind ks f) (bind_field bs f v) (omega arith) (and_r (same_kind (template_field at f) v) (each_pair same_kind (map (template_field at) fs) vs) t) (λ w i. l w (Memᴰ.tail i))
    (agree_field at f v ks bs (and_l (same_kind (template_field at f) v) (each_pair same_kind (map (template_field at) fs) vs) t) (l v (Memᴰ.head refl)) a)

bind_kind_length : (ks : Kinds) (f : Field) → length (bind_kind ks f) ≡ length ks
unfolding bind_kind
bind_kind_length ks f = maybe-ind (λ (js : Kinds). length js ≡ length ks) (binder_of f) ks _ (λ e. refl) (λ b e. length-set ks b.variable (some b.kind))

-- there are as many variables after binding as before
pub bind_kinds_length : (ks : Kinds) (fs : List Field) → length (bind_kinds ks fs) ≡ length ks
unfolding bind_kinds
bind_kinds_length ks [] = refl
bind_kinds_length ks (f ∷ fs) = bind_kinds_length (bind_kind ks f) fs ∙ bind_kind_length ks f

-- the tests of a first field and of the rest
pub fields_cons : (allowed : List ℕ) (earlier now : Kinds) (f : Field) (fs : List Field) → T (legal_fields allowed earlier now (f ∷ fs))
    → T (is_in (form_of f) allowed) × T (legal_field earlier now f) × T (legal_fields allowed earlier (bind_kind now f) fs)
unfolding legal_fields
fields_cons allowed earlier now f fs t = (search (and_l, and_r, t), search (and_l, and_r, t), search (and_l, and_r, t))

-- fields of which none may be of form 1 or 6 bind nothing
pub binds_nothing : (allowed : List ℕ) (earlier now ks : Kinds) (fs : List Field) → T (binding_barred allowed) → T (legal_fields allowed earlier now fs) → bind_kinds ks fs ≡ ks
unfolding bind_kinds
binds_nothing allowed earlier now ks [] barred t = refl
binds_nothing allowed earlier now ks (f ∷ fs) barred t =
    let h = fields_cons allowed earlier now f fs t in
    rw (kinds_left ks f (binds_none allowed f barred h.0)) (binds_nothing allowed earlier (bind_kind now f) ks fs barred h.2)

-- ---- what an out makes

bound_legal : (k : Option ℕ) (b : Option Value) → T (is_some k) → Fits k b → Legal (Option.get_or b (value whole 0))
unfolding is_some
bound_legal none b t f = absurd t
bound_legal (some k) none t f = absurd f
bound_legal (some k) (some v) t f = f.1

-- of a sum's variable and value: both are legal at the value's kind
pub summed : (k : Option ℕ) (b : Option Value) (v : Value) → T (summable k v) → Fits k b → Legal (value v.kind (Option.get_or b (value whole 0)).bits) × Legal v
unfolding summable
summed none b v t f = absurd t
summed (some k) none v t f = absurd f
summed (some k) (some u) v t f =
    let e : k ≡ v.kind = eqb→eq k v.kind (search (and_l, and_r, t)) in
    (subst (λ (n : ℕ). Legal (value n u.bits)) (f.0 ∙ e) f.1, search (and_l, and_r, t))

made_legal : (ks : Kinds) (bs : Bindings) (f : Field) (v : Value) → T (legal_parts ks f) → Agree ks bs → made bs f ≡ some v → Legal v
unfolding made legal_parts
made_legal ks bs (actual u) v t a e = subst Legal (some-injective u v e) t
made_legal ks bs (formal k x) v t a e = absurd (none-ne-some v e)
made_legal ks bs (reference x) v t a e = subst Legal (some-injective (value_of bs x) v e) (bound_legal (kind_in ks x) (get_or bs x none) t (agree_at ks bs x a))
made_legal ks bs (sum x u) v t a e =
    let h = summed (kind_in ks x) (get_or bs x none) u t (agree_at ks bs x a) in
    (plus_legal u.kind (value_of bs x).bits u.bits v h.0 h.1 e).0
made_legal ks bs (difference x u) v t a e =
    let h = summed (kind_in ks x) (get_or bs x none) u t (agree_at ks bs x a) in
    (minus_legal u.kind (value_of bs x).bits u.bits v h.0 h.1 e).0
made_legal ks bs (anonymous k) v t a e = absurd (none-ne-some v e)
made_legal ks bs (ranged k r x) v t a e = absurd (none-ne-some v e)

-- a legal value for each field
pub made_all_legal : (allowed : List ℕ) (ks now : Kinds) (bs : Bindings) (fs : List Field) (vs : List Value)
    → T (legal_fields allowed ks now fs) → Agree ks bs → made_all bs fs ≡ some vs → Each Legal vs × (length vs ≡ length fs)
unfolding made_all
made_all_legal allowed ks now bs [] vs t a e = rw (sym (some-injective [] vs e)) (each_nil Legal, refl)
made_all_legal allowed ks now bs (f ∷ fs) vs t a e =
    let h = fields_cons allowed ks now f fs t in
    go (made bs f) refl (made_all bs fs) e (λ v q. made_legal ks bs f v (legal_parts_lem ks now f h.1) a q) (λ us. made_all_legal allowed ks (bind_kind now f) bs fs us h.2 a)
  where
    go : (o : Option Value) → made bs f ≡ o → (r : Option (List Value)) → maybe o none (λ v. maybe r none (λ us. some (v ∷ us))) ≡ some vs
        → ((v : Value) → made bs f ≡ some v → Legal v) → ((us : List Value) → r ≡ some us → Each Legal us × (length us ≡ length fs)) → Each Legal vs × (length vs ≡ suc (length fs))
    go none q r e l later = absurd (none-ne-some vs e)
    go (some v) q none e l later = absurd (none-ne-some vs e)
    go (some v) q (some us) e l later =
        let h = later us refl in
        subst (λ (ws : List Value). Each Legal ws × (length ws ≡ suc (length fs))) (some-injective (v ∷ us) vs e) (each-cons Legal v us (l v q) h.0, ap suc h.1)
