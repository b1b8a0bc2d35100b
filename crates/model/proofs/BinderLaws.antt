-- What a field binds: the word for it, and what holds of a field by what it binds, whatever its form. Assumes nothing.
use Rattle.std.specs.Prelude.{◌≡◌, refl, ℕ, Bool, true, not, ◌&&◌, ◌⊎◌, List, set, T}
use Rattle.std.proofs.Common.{ap, inl, inr}
use Rattle.std.proofs.Math.Option.{Option, none, some, some-injective, none-ne-some}
use Rattle.std.proofs.Math.Dec.{T_not}
use Rattle.basis.specs.Choice.{maybe}
use Rattle.basis.specs.Logic.{and_l, and_r}
use Rattle.basis.specs.Lists.{is_in}
use Rattle.model.specs.Value.{Value, Range}
use Rattle.model.specs.Statement.{Field, actual, formal, reference, sum, difference, anonymous, ranged, Binder, binder_of}
use Rattle.model.specs.Legal.{Kinds, form_of, legal_binder, legal_parts, legal_field, bind_kind}
use Rattle.model.specs.Matching.{Bindings, template_field, bind_field}
use Rattle.model.proofs.CheckLaws.{Some}

-- "Form 1, kind, variable (0 to 15): binds"; form 6 "matches a value from lowest to highest, both included, and binds it"; no other form does
abbrev pub BindsAt : (kind variable : ℕ) → Field → Type 0
BindsAt k x f = (f ≡ formal k x) ⊎ ((r : Range) × (f ≡ ranged k r x))

-- some field binds the variable at the kind
abbrev pub BoundIn : (kind variable : ℕ) → List Field → Type 0
BoundIn k x fs = Some (BindsAt k x) fs

-- a field that binds, binds what its binder says
pub binder_binds : (f : Field) (b : Binder) → binder_of f ≡ some b → BindsAt b.kind b.variable f
unfolding binder_of
binder_binds (actual v) b e = absurd (none-ne-some b e)
binder_binds (formal k x) b e = inl (ap (λ (c : Binder). formal c.kind c.variable) (some-injective (record { kind = k; variable = x }) b e))
binder_binds (reference x) b e = absurd (none-ne-some b e)
binder_binds (sum x v) b e = absurd (none-ne-some b e)
binder_binds (difference x v) b e = absurd (none-ne-some b e)
binder_binds (anonymous k) b e = absurd (none-ne-some b e)
binder_binds (ranged k r x) b e = inr (r, ap (λ (c : Binder). ranged c.kind r c.variable) (some-injective (record { kind = k; variable = x }) b e))

-- and only such a field does
pub binds_binder : (k x : ℕ) (f : Field) → BindsAt k x f → binder_of f ≡ some (record { kind = k; variable = x })
unfolding binder_of
binds_binder k x f (inl e) = rw e
binds_binder k x f (inr (r, e)) = rw e

-- a template asks for a value of the binder's kind
pub binder_kind : (bs : Bindings) (f : Field) (b : Binder) → binder_of f ≡ some b → (template_field bs f).kind ≡ b.kind
unfolding template_field
binder_kind bs f b e = go (binder_binds f b e)
  where
    go : BindsAt b.kind b.variable f → (template_field bs f).kind ≡ b.kind
    go (inl q) = rw q
    go (inr (r, q)) = rw q

-- neither form 1 nor form 6 is among those allowed
abbrev pub binding_barred : (allowed : List ℕ) → Bool
binding_barred allowed = not (is_in 1 allowed) && not (is_in 6 allowed)

-- a field of a form that is allowed, where those that bind are not, binds nothing
pub binds_none : (allowed : List ℕ) (f : Field) → T (binding_barred allowed) → T (is_in (form_of f) allowed) → binder_of f ≡ none
binds_none allowed f barred t = go (binder_of f) refl
  where
    never : (b : Binder) → BindsAt b.kind b.variable f → ⊥
    never b (inl e) = T_not (is_in 1 allowed) (and_l (not (is_in 1 allowed)) (not (is_in 6 allowed)) barred) (unfold form_of in (rw e at t))
    never b (inr (r, e)) = T_not (is_in 6 allowed) (and_r (not (is_in 1 allowed)) (not (is_in 6 allowed)) barred) (unfold form_of in (rw e at t))

    go : (o : Option Binder) → binder_of f ≡ o → binder_of f ≡ none
    go none q = q
    go (some b) q = absurd (never b (binder_binds f b q))

-- ---- binding: a field that binds nothing leaves all variables, one that binds sets its own

pub kinds_left : (ks : Kinds) (f : Field) → binder_of f ≡ none → bind_kind ks f ≡ ks
unfolding bind_kind
kinds_left ks f e = rw e

pub kinds_set : (ks : Kinds) (f : Field) (b : Binder) → binder_of f ≡ some b → bind_kind ks f ≡ set ks b.variable (some b.kind)
unfolding bind_kind
kinds_set ks f b e = rw e

pub values_left : (bs : Bindings) (f : Field) (v : Value) → binder_of f ≡ none → bind_field bs f v ≡ bs
unfolding bind_field
values_left bs f v e = rw e

pub values_set : (bs : Bindings) (f : Field) (v : Value) (b : Binder) → binder_of f ≡ some b → bind_field bs f v ≡ set bs b.variable (some v)
unfolding bind_field
values_set bs f v b e = rw e

-- ---- a legal field

-- its parts are legal
pub legal_parts_lem : (earlier now : Kinds) (f : Field) → T (legal_field earlier now f) → T (legal_parts earlier f)
unfolding legal_field
legal_parts_lem earlier now f t = and_r (maybe (binder_of f) true (legal_binder now)) (legal_parts earlier f) t

-- and so is what it binds
pub legal_binder_lem : (earlier now : Kinds) (f : Field) (b : Binder) → binder_of f ≡ some b → T (legal_field earlier now f) → T (legal_binder now b)
unfolding legal_field
legal_binder_lem earlier now f b e t = rw e at (and_l (maybe (binder_of f) true (legal_binder now)) (legal_parts earlier f) t)
