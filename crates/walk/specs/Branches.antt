-- A branch read in its parts, its guard, a count and that many operations; and where it ends. Assumes nothing.
use Rattle.std.proofs.Math.Path.{◌≡◌, refl}
use Rattle.std.proofs.Common.{sym, ap, ◌∙◌, arith, inl, inr, lt-ltb, le-ltb}
use Rattle.std.specs.Prelude.{ℕ, ◌+◌, ◌-◌, ◌≤◌, ◌<◌, Bool, ◌&&◌, ◌⊎◌, drop, get_or, ltb}
use Rattle.std.proofs.Math.Bool.{true, false, cond}
use Rattle.std.proofs.Math.Option.{Option, none, some}
use mathlib.Core.List.{List}
use Rattle.std.proofs.Math.ListN.{length}
use Rattle.basis.specs.Choice.{maybe, provided}
use Rattle.basis.specs.Sizes.{count_width}
use Rattle.model.specs.Statement.{Operation, Branch}
use Rattle.model.specs.Reading.{◌>>=◌, give, several, counted, operation, branch}
use Rattle.model.proofs.ReadBack.{several_length}
use Rattle.statements.specs.At.{which, placed, read_at, Suffix, suffix_at, suffix_last, suffix_then, suffix_counted}
use Rattle.statements.specs.Ends.{end_at, end_of, end_of_lem}
use Rattle.statements.specs.Fixed.{fixed_byte}
use Rattle.statements.specs.Operations.{suffix_operation}

pub suffix_branch : Suffix branch
unfolding branch
suffix_branch = suffix_then operation _ suffix_operation (λ g. suffix_last (counted operation) (λ os. record { guard = g; body = os }) (suffix_counted operation suffix_operation))

-- a guard and what was read of a body
unfoldable with_body : Operation → Option (List Operation × List ℕ) → Option (Branch × List ℕ)
with_body g none = none
with_body g (some r) = some (record { guard = g; body = r.0 }, r.1)

branch_one : (s rest : List ℕ) (g : Operation) → operation s ≡ some (g, rest) → branch s ≡ with_body g (counted operation rest)
unfolding branch ◌>>=◌ give with_body
branch_one s rest g e = rw e (go (counted operation rest))
  where
    go : (o : Option (List Operation × List ℕ)) → maybe o none (λ r. some (record { guard = g; body = r.0 }, r.1)) ≡ with_body g o
    go none = refl
    go (some r) = refl

branch_no : (s : List ℕ) → operation s ≡ none → branch s ≡ none
unfolding branch ◌>>=◌
branch_no s e = rw e

-- the count and the operations
counted_one : (b : List ℕ) (at : ℕ) → at + count_width ≤ length b → counted operation (drop at b) ≡ several operation (get_or b at 0) (drop (at + count_width) b)
unfolding counted ◌>>=◌
counted_one b at h = rw (fixed_byte.enough b at h)

counted_no : (b : List ℕ) (at : ℕ) → length b < at + count_width → counted operation (drop at b) ≡ none
unfolding counted ◌>>=◌
counted_no b at h = rw (fixed_byte.short b at h)

-- ---- where a branch ends

-- operations with their count before them, where the count and the operations pass a test
unfoldable pub counted_end : (many : ℕ → Bool) (ok : List Operation → Bool) → List ℕ → ℕ → Option ℕ
counted_end many ok b at = cond (ltb at (length b)) (cond (many (get_or b at 0)) (end_at (several operation (get_or b at 0)) ok b (at + count_width)) none) none

-- a test of a branch: of its guard, of its operation count, and of its operations, which may hang on the guard
module _ (ok : Branch → Bool) (first : Operation → Bool) (many : ℕ → Bool) (more : Operation → List Operation → Bool)
    (parts : (g : Operation) (os : List Operation) → ok (record { guard = g; body = os }) ≡ (first g && (many (length os) && more g os))) where
  after_guard : (g : Operation) (b : List ℕ) (at : ℕ) → end_of ok b (with_body g (counted operation (drop at b))) ≡ cond (first g) (counted_end many (more g) b at) none
  unfolding counted_end with_body provided
  after_guard g b at = past (which (at + count_width) (length b))
    where
      neither : (t : Bool) → ◌≡◌ {A = Option ℕ} none (cond t none none)
      neither true = refl
      neither false = refl

      not_read : (t u : Bool) → ◌≡◌ {A = Option ℕ} none (cond t (cond u none none) none)
      not_read true u = neither u
      not_read false u = refl

      tests : (t u v : Bool) (end : ℕ) → provided (t && (u && v)) end ≡ cond t (cond u (provided v end) none) none
      tests true true v end = refl
      tests true false v end = refl
      tests false u v end = refl

      bodies : (n : ℕ) (o : Option (List Operation × List ℕ)) → several operation n (drop (at + count_width) b) ≡ o → end_of ok b (with_body g o) ≡ cond (first g) (cond (many n) (end_of (more g) b o) none) none
      bodies n none q = not_read (first g) (many n)
      bodies n (some r) q =
          let l : length r.0 ≡ n = several_length operation n (drop (at + count_width) b) r.1 r.0 q in
          rw (parts g r.0, l) (tests (first g) (many n) (more g r.0) (length b - length r.1))

      past : (at + count_width ≤ length b) ⊎ (length b < at + count_width) → end_of ok b (with_body g (counted operation (drop at b))) ≡ cond (first g) (counted_end many (more g) b at) none
      past (inl l) =
          rw (counted_one b at l, lt-ltb at (length b) (omega arith), end_of_lem (several operation (get_or b at 0)) (more g) b (at + count_width))
          (bodies (get_or b at 0) (several operation (get_or b at 0) (drop (at + count_width) b)) refl)
      past (inr l) = rw (counted_no b at l, le-ltb at (length b) (omega arith)) (neither (first g))

  -- a branch ends where its counted operations do, after its guard
  pub branch_ends : (b : List ℕ) (at : ℕ) → end_at branch ok b at ≡ maybe (read_at operation b at) none (λ r. cond (first r.0) (counted_end many (more r.0) b r.1) none)
  unfolding read_at
  branch_ends b at = end_of_lem branch ok b at ∙ go (operation (drop at b)) refl
    where
      go : (o : Option (Operation × List ℕ)) → operation (drop at b) ≡ o → end_of ok b (branch (drop at b)) ≡ maybe (placed b o) none (λ r. cond (first r.0) (counted_end many (more r.0) b r.1) none)
      go none q = rw (branch_no (drop at b) q)
      go (some r) q =
          rw (branch_one (drop at b) r.1 r.0 q)
          (ap (λ (s : List ℕ). end_of ok b (with_body r.0 (counted operation s))) (sym (suffix_at operation suffix_operation b at r.0 r.1 q)) ∙ after_guard r.0 b (length b - length r.1))

-- the counted operations, in code
module _ (many : ℕ → Bool) (ok : List Operation → Bool) (b : List ℕ) (at : ℕ) where
  pub no_count : length b ≤ at → none ≡ counted_end many ok b at
  unfolding counted_end
  no_count l = rw (le-ltb at (length b) l)

  pub too_many : at < length b → many (get_or b at 0) ≡ false → none ≡ counted_end many ok b at
  unfolding counted_end
  too_many l e = rw (lt-ltb at (length b) l, e)

  pub counted_body : at < length b → many (get_or b at 0) ≡ true → (count : ℕ) (end : Option ℕ) → count ≡ get_or b at 0 → end ≡ end_at (several operation count) ok b (at + count_width) → end ≡ counted_end many ok b at
  unfolding counted_end
  counted_body l e count end c h = h ∙ rw (lt-ltb at (length b) l, e, c)
