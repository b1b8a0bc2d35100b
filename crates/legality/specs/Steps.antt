-- Legal operations from position to position, with the kinds that they bind. Assumes nothing.
use Rattle.std.specs.Prelude.{◌≡◌, refl, ℕ, suc, ◌≤◌, Bool, true, false, ◌&&◌, cond, List, ◌∷◌, length, T}
use Rattle.std.proofs.Common.{sym, ap, ◌∙◌, arith}
use Rattle.std.proofs.Math.Option.{Option, none, some, some-injective, none-ne-some}
use Rattle.basis.specs.Choice.{maybe, provided}
use Rattle.basis.specs.Lists.{all}
use Rattle.model.specs.Statement.{Operation}
use Rattle.model.specs.Legal.{Kinds, bind_kinds, fields_of, legal_operation, legal_operations, is_guard, is_body_operation}
use Rattle.model.specs.Reading.{several, operation}
use Rattle.statements.specs.At.{read_at, passed, read_at_some}
use Rattle.statements.specs.Flat.{few_fields, operation_at}
use Rattle.statements.specs.Operations.{suffix_operation}
use Rattle.legality.specs.OperationLaws.{operation_step}
use Rattle.statements.specs.Ends.{end_at, ends_first}
use Rattle.walk.specs.LegalEnds.{legal_few}

-- where an operation may stand: as a guard, or in a body
unfoldable pub place_ok : (guard : Bool) → Operation → Bool
place_ok true o = is_guard o
place_ok false o = is_body_operation o

-- the kinds after the operation at a position, where it may stand there and is legal, and the position after it
unfoldable pub step_at : (guard : Bool) → Kinds → List ℕ → ℕ → Option (Kinds × ℕ)
step_at guard ks b at = maybe (operation_at b at) none (λ r. maybe (cond (place_ok guard r.0) (operation_step ks r.0) none) none (λ after. some (after, r.1)))

-- the operations of a body after the kinds that earlier ones bound
unfoldable pub body_legal : Kinds → List Operation → Bool
body_legal ks os = all is_body_operation os && legal_operations ks os

body_cons : (ks : Kinds) (o : Operation) (os : List Operation)
    → body_legal ks (o ∷ os) ≡ ((is_body_operation o && legal_operation ks o) && body_legal (bind_kinds ks (fields_of o)) os)
unfolding body_legal all legal_operations
body_cons ks o os = go (is_body_operation o) (all is_body_operation os) (legal_operation ks o)
  where
    go : (a c d : Bool) → (a && c && (d && legal_operations (bind_kinds ks (fields_of o)) os)) ≡ ((a && d) && (c && legal_operations (bind_kinds ks (fields_of o)) os))
    go true true true = refl
    go true true false = refl
    go true false true = refl
    go true false false = refl
    go false c d = refl

-- the operation at a position, then what is later
pub step_later : {A : Type 0} (guard : Bool) (ks : Kinds) (b : List ℕ) (at : ℕ) (later : Kinds → ℕ → Option A)
    → maybe (step_at guard ks b at) none (λ r. later r.0 r.1) ≡ maybe (read_at operation b at) none (λ r. cond (place_ok guard r.0 && legal_operation ks r.0) (later (bind_kinds ks (fields_of r.0)) r.1) none)
unfolding step_at operation_at operation_step passed provided
step_later {A} guard ks b at later = go (read_at operation b at)
  where
    next : Operation × ℕ → Option (Kinds × ℕ)
    next r = maybe (cond (place_ok guard r.0) (operation_step ks r.0) none) none (λ after. some (after, r.1))

    after : Operation × ℕ → Option A
    after r = later (bind_kinds ks (fields_of r.0)) r.1

    stands : (r : Operation × ℕ) (p l : Bool) → maybe {A = Kinds × ℕ} (maybe {A = Kinds} (cond p (cond l (some (bind_kinds ks (fields_of r.0))) none) none) none (λ after. some (after, r.1))) none (λ r. later r.0 r.1) ≡ cond (p && l) (after r) none
    stands r true true = refl
    stands r true false = refl
    stands r false l = refl

    -- a legal operation has few fields
    test : (r : Operation × ℕ) (f p l : Bool) → (T l → T f) → maybe (next r) none (λ r. later r.0 r.1) ≡ cond (p && l) (after r) none
        → maybe (maybe (cond f (some r) none) none next) none (λ r. later r.0 r.1) ≡ cond (p && l) (after r) none
    test r true p l h e = e
    test r false true true h e = absurd (h tt)
    test r false true false h e = refl
    test r false false l h e = refl

    go : (o : Option (Operation × ℕ)) → maybe (maybe (maybe o none (λ r. cond (few_fields r.0) (some r) none)) none next) none (λ r. later r.0 r.1) ≡ maybe o none (λ r. cond (place_ok guard r.0 && legal_operation ks r.0) (after r) none)
    go none = refl
    go (some r) = test r (few_fields r.0) (place_ok guard r.0) (legal_operation ks r.0) (legal_few ks r.0) (stands r (place_ok guard r.0) (legal_operation ks r.0))

-- the operations of a body: one, then the rest
pub body_turn : (ks : Kinds) (m : ℕ) (b : List ℕ) (at : ℕ)
    → end_at (several operation (suc m)) (body_legal ks) b at ≡ maybe (step_at false ks b at) none (λ r. end_at (several operation m) (body_legal r.0) b r.1)
unfolding place_ok
body_turn ks m b at =
    ends_first operation suffix_operation (body_legal ks) (λ o. is_body_operation o && legal_operation ks o) (λ o. body_legal (bind_kinds ks (fields_of o))) (body_cons ks) m b at
    ∙ sym (step_later false ks b at (λ k n. end_at (several operation m) (body_legal k) b n))

-- the position after an operation is within the bytes
pub step_within : (guard : Bool) (ks after : Kinds) (b : List ℕ) (at end : ℕ) → step_at guard ks b at ≡ some (after, end) → end ≤ length b
unfolding step_at operation_at passed provided
step_within guard ks after b at end e = go (read_at operation b at) refl e
  where
    same : (x : Operation × ℕ) (o : Option Kinds) → maybe {B = Option (Kinds × ℕ)} o none (λ z. some (z, x.1)) ≡ some (after, end) → x.1 ≡ end
    same x none q = absurd (none-ne-some (after, end) q)
    same x (some z) q = ap (λ (p : Kinds × ℕ). p.1) (some-injective (z, x.1) (after, end) q)

    few : (f : Bool) (x : Operation × ℕ)
        → maybe {B = Option (Kinds × ℕ)} (cond f (some x) none) none (λ r. maybe {B = Option (Kinds × ℕ)} (cond (place_ok guard r.0) (operation_step ks r.0) none) none (λ z. some (z, r.1))) ≡ some (after, end) → x.1 ≡ end
    few true x q = same x (cond (place_ok guard x.0) (operation_step ks x.0) none) q
    few false x q = absurd (none-ne-some (after, end) q)

    go : (o : Option (Operation × ℕ)) → read_at operation b at ≡ o
        → maybe {B = Option (Kinds × ℕ)} (maybe o none (λ r. provided (few_fields r.0) r)) none (λ r. maybe {B = Option (Kinds × ℕ)} (cond (place_ok guard r.0) (operation_step ks r.0) none) none (λ z. some (z, r.1))) ≡ some (after, end) → end ≤ length b
    go none q e = absurd (none-ne-some (after, end) e)
    go (some x) q e = let k = read_at_some operation suffix_operation b at x.0 x.1 q in omega (arith, k.within, few (few_fields x.0) x e)
