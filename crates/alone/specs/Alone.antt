-- An operation by itself, read off bytes that are nothing more. Assumes nothing.
use Rattle.std.specs.Prelude as rust
use Rattle.std.specs.Prelude.{None, Some, IfSome, ◌≡◌, Bool, ◌&&◌, ◌⊎◌, length, take, drop, leb, eqb}
use Rattle.std.proofs.Math.Path.{refl, sym}
use Rattle.std.proofs.Common.{ap, ◌∙◌, arith, true≢false, inl, inr, length-drop, eq-eqb, ne_eqb}
use Prim.Native.Nat.{ℕ, zero, suc, ◌-◌, ◌≤◌, ◌<◌}
use Rattle.std.proofs.Math.Bool.{true, false, cond}
use Rattle.std.proofs.Math.Option.{Option, none, some, some-injective, none-ne-some}
use mathlib.Core.List.{List, [], ◌∷◌}
use Rattle.basis.specs.Choice.{maybe, is_some, provided}
use Rattle.basis.specs.Lists.{is_empty}
use Rattle.basis.specs.Sizes.{most_fields}
use Rattle.model.specs.Statement as model
use Rattle.model.specs.Statement.{always, lookup, deposit, transfer}
use Rattle.model.specs.Reading.{whole_of, operation}
use Rattle.model.specs.Legal.{no_kinds, is_space, field_count, legal_fields, legal_lookup, template_forms, fields_of}
use Rattle.model.specs.Meeting.{every_kind, lookup_alone, lookup_in}
use Rattle.statements.specs.At.{which, read_at, passed, read_at_some, read_at_none}
use Rattle.statements.specs.Operations.{suffix_operation}
use Rattle.statements.specs.Flat.{few_fields, operation_at, operation_of, operation_is, fields_are}
use Rattle.statements.specs.declared.Operation.{Operation}

-- an operation of codes 1 to 4 that is legal by itself
unfoldable pub lookup_legal : model.Operation → Bool
lookup_legal o = is_some (lookup_alone o)

-- space and fields of an operation as the code holds it
abbrev pub sought_by : Operation → ℕ × List model.Field
sought_by o = (o.from, fields_are (take o.count o.fields))

-- space and fields of one such operation, as the code gives it
abbrev pub alone_is : rust.Option Operation → Option (ℕ × List model.Field)
alone_is None = none
alone_is (Some o) = some (sought_by o)

-- what was read off some bytes: one such operation, or there is none
pub record ReadAlone (r : rust.Option Operation) (o : Option (ℕ × List model.Field)) : Type 0 where
  pub is : alone_is r ≡ o
  pub count : IfSome r (λ o. o.count ≤ most_fields)

-- ---- by the code of the operation

pub alone_true : (code from to : ℕ) (fs : List model.Field) → code ≡ 0 → lookup_alone (operation_of code from to fs) ≡ none
unfolding lookup_alone operation_of
alone_true code from to fs e = rw e

pub alone_body : (code from to : ℕ) (fs : List model.Field) → 5 ≤ code → lookup_alone (operation_of code from to fs) ≡ none
unfolding lookup_alone operation_of
alone_body zero from to fs h = absurd (omega arith)
alone_body (suc zero) from to fs h = absurd (omega arith)
alone_body (suc (suc zero)) from to fs h = absurd (omega arith)
alone_body (suc (suc (suc zero))) from to fs h = absurd (omega arith)
alone_body (suc (suc (suc (suc zero)))) from to fs h = absurd (omega arith)
alone_body (suc (suc (suc (suc (suc zero))))) from to fs h = refl
alone_body (suc (suc (suc (suc (suc (suc zero)))))) from to fs h = refl
alone_body (suc (suc (suc (suc (suc (suc (suc n))))))) from to fs h = refl

pub alone_lookup : (code from to : ℕ) (fs : List model.Field) → (code ≡ 0 → ⊥) → code < 5
    → lookup_alone (operation_of code from to fs) ≡ provided (legal_lookup every_kind no_kinds from fs) (from, fs)
unfolding lookup_alone operation_of
alone_lookup zero from to fs n h = absurd (n refl)
alone_lookup (suc zero) from to fs n h = refl
alone_lookup (suc (suc zero)) from to fs n h = refl
alone_lookup (suc (suc (suc zero))) from to fs n h = refl
alone_lookup (suc (suc (suc (suc zero)))) from to fs n h = refl
alone_lookup (suc (suc (suc (suc (suc m))))) from to fs n h = absurd (omega arith)

-- ---- the operation that all of the bytes are

-- more fields than a tuple has values
too_many : (o : model.Operation) → few_fields o ≡ false → lookup_alone o ≡ none
unfolding lookup_alone few_fields fields_of field_count provided
too_many always e = refl
too_many (lookup withdraws blocks s fs) e = rw e (go (is_space s) (leb 1 (length fs)))
  where
    x : ℕ × List model.Field
    x = (s, fs)

    go : (a c : Bool) → provided (a && (c && false) && legal_fields template_forms every_kind no_kinds fs) x ≡ none
    go true true = refl
    go true false = refl
    go false c = refl
too_many (deposit s fs) e = refl
too_many (transfer withdraws from to fs) e = refl

-- nothing is left exactly at the end
empty_at : (b : List ℕ) (end : ℕ) → end ≤ length b → is_empty (drop end b) ≡ eqb end (length b)
empty_at b end h = go (drop end b) (length-drop end b)
  where
    go : (l : List ℕ) → length l ≡ length b - end → is_empty l ≡ eqb end (length b)
    go [] e = unfold is_empty in sym (eq-eqb end (length b) (omega arith))
    go (x ∷ l) e = unfold is_empty in sym (ne_eqb end (length b) (λ q. omega (arith, e)))

none_whole : (t : Bool) (o : model.Operation) → few_fields o ≡ false → maybe (provided t o) none lookup_alone ≡ none
unfolding provided
none_whole true o e = too_many o e
none_whole false o e = refl

-- no operation
pub alone_none : (b : List ℕ) → none ≡ operation_at b 0 → none ≡ lookup_in b
unfolding lookup_in whole_of operation_at passed provided
alone_none b h = go (read_at operation b 0) refl h
  where
    many : (few : Bool) (x : model.Operation × ℕ) → none ≡ provided few x → few ≡ false
    many true x e = absurd (none-ne-some x e)
    many false x e = refl

    go : (o : Option (model.Operation × ℕ)) → read_at operation b 0 ≡ o → none ≡ maybe o none (λ x. provided (few_fields x.0) x) → none ≡ lookup_in b
    go none q e = rw (read_at_none operation b 0 q)
    go (some x) q e =
        let a = read_at_some operation suffix_operation b 0 x.0 x.1 q in
        rw a.reads (sym (none_whole (is_empty (drop x.1 b)) x.0 (many (few_fields x.0) x e)))

-- an operation, which is all of the bytes if it ends where they do
pub alone_read : (b : List ℕ) (o : model.Operation) (end : ℕ) → some (o, end) ≡ operation_at b 0 → cond (eqb end (length b)) (lookup_alone o) none ≡ lookup_in b
unfolding lookup_in whole_of operation_at passed provided
alone_read b o end h = go (read_at operation b 0) refl h
  where
    ends : (t : Bool) (p : model.Operation) → cond t (lookup_alone p) none ≡ maybe {B = Option (ℕ × List model.Field)} (cond t (some p) none) none lookup_alone
    ends true p = refl
    ends false p = refl

    same : (few : Bool) (x : model.Operation × ℕ) → some (o, end) ≡ provided few x → x ≡ (o, end)
    same true x e = some-injective x (o, end) (sym e)
    same false x e = absurd (none-ne-some (o, end) (sym e))

    go : (r : Option (model.Operation × ℕ)) → read_at operation b 0 ≡ r → some (o, end) ≡ maybe r none (λ x. provided (few_fields x.0) x) → cond (eqb end (length b)) (lookup_alone o) none ≡ lookup_in b
    go none q e = absurd (none-ne-some (o, end) (sym e))
    go (some x) q e =
        let a = read_at_some operation suffix_operation b 0 o end (q ∙ ap some (same (few_fields x.0) x e)) in
        rw (a.reads, empty_at b end a.within) (ends (eqb end (length b)) o)

-- ---- a legal one has the space and the fields that the code holds

by_code : (code from to : ℕ) (fs : List model.Field)
    → (lookup_alone (operation_of code from to fs) ≡ none) ⊎ (lookup_alone (operation_of code from to fs) ≡ provided (legal_lookup every_kind no_kinds from fs) (from, fs))
by_code code from to fs = go (which 5 code) (which code 0)
  where
    go : (5 ≤ code) ⊎ (code < 5) → (code ≤ 0) ⊎ (0 < code)
        → (lookup_alone (operation_of code from to fs) ≡ none) ⊎ (lookup_alone (operation_of code from to fs) ≡ provided (legal_lookup every_kind no_kinds from fs) (from, fs))
    go (inl l) z = inl (alone_body code from to fs l)
    go (inr l) (inl z) = inl (alone_true code from to fs (omega arith))
    go (inr l) (inr z) = inr (alone_lookup code from to fs (λ e. omega arith) l)

sought_legal : (o : Operation) → true ≡ lookup_legal (operation_is o) → lookup_alone (operation_is o) ≡ some (sought_by o)
unfolding lookup_legal operation_is is_some provided
sought_legal o t = go (by_code o.code o.from o.to (fields_are (take o.count o.fields)))
  where
    made : (x : Bool) (p : Option (ℕ × List model.Field)) → true ≡ is_some p → p ≡ cond x (some (sought_by o)) none → p ≡ some (sought_by o)
    made true p e q = q
    made false p e q = absurd (true≢false (e ∙ ap is_some q))

    go : (lookup_alone (operation_is o) ≡ none) ⊎ (lookup_alone (operation_is o) ≡ provided (legal_lookup every_kind no_kinds o.from (fields_are (take o.count o.fields))) (sought_by o))
        → lookup_alone (operation_is o) ≡ some (sought_by o)
    go (inl e) = absurd (true≢false (t ∙ ap is_some e))
    go (inr e) = made (legal_lookup every_kind no_kinds o.from (fields_are (take o.count o.fields))) (lookup_alone (operation_is o)) t e

-- ---- what the code answers

pub nothing_alone : (b : List ℕ) → none ≡ operation_at b 0 → ReadAlone None (lookup_in b)
nothing_alone b h = record { is = alone_none b h; count = tt }

module _ (b : List ℕ) (o : Operation) (end : ℕ) (h : some (operation_is o, end) ≡ operation_at b 0) where
  -- the bytes end elsewhere
  pub alone_spare : (end ≡ length b → ⊥) → ReadAlone None (lookup_in b)
  alone_spare n = record { is = rw (ne_eqb end (length b) n) at (alone_read b (operation_is o) end h); count = tt }

  -- it is none of codes 1 to 4, or not legal
  pub alone_illegal : end ≡ length b → false ≡ lookup_legal (operation_is o) → ReadAlone None (lookup_in b)
  unfolding lookup_legal is_some
  alone_illegal e f = record { is = go (lookup_alone (operation_is o)) f (rw (eq-eqb end (length b) e) at (alone_read b (operation_is o) end h)); count = tt }
    where
      go : (p : Option (ℕ × List model.Field)) → false ≡ is_some p → p ≡ lookup_in b → none ≡ lookup_in b
      go none f q = q
      go (some x) f q = absurd (true≢false (sym f))

  -- it is one
  pub alone_legal : end ≡ length b → o.count ≤ most_fields → true ≡ lookup_legal (operation_is o) → ReadAlone (Some o) (lookup_in b)
  alone_legal e l t = record { is = sym (sought_legal o t) ∙ rw (eq-eqb end (length b) e) at (alone_read b (operation_is o) end h); count = l }
