-- Things of one sort that stand in some bytes from a position on, one after the other, and each pass a test. Assumes nothing.
use Rattle.std.specs.Prelude.{◌≡◌, refl, ℕ, suc, ◌-◌, ◌≤◌, Bool, List, [], ◌∷◌, length, drop, T}
use Rattle.std.proofs.Common.{sym, ap, subst, ◌∙◌, arith}
use Rattle.std.proofs.Math.Option.{some, some-injective}
use Rattle.basis.specs.Choice.{maybe}
use Rattle.basis.specs.Logic.{and_l, and_r}
use Rattle.basis.specs.Lists.{all}
use Rattle.model.specs.Reading.{Reader, ◌>>=◌, give, several}
use Rattle.model.proofs.ReadBack.{then_some}
use Rattle.statements.specs.At.{Suffix, suffix_at}

-- so many things from a position on, and the bytes left after them
unfoldable pub items_at : {A : Type 0} → Reader A → List ℕ → (at count : ℕ) → List A
items_at p b at count = maybe (several p count (drop at b)) [] (λ r. r.0)

unfoldable pub left_at : {A : Type 0} → Reader A → List ℕ → (at count : ℕ) → List ℕ
left_at p b at count = maybe (several p count (drop at b)) [] (λ r. r.1)

-- they stand there, and each passes
pub record Stands {A : Type 0} (p : Reader A) (ok : A → Bool) (b : List ℕ) (at count : ℕ) : Type 0 where
  pub reads : several p count (drop at b) ≡ some (items_at p b at count, left_at p b at count)
  pub pass : T (all ok (items_at p b at count))

-- what is read there stands there
pub record StandAs {A : Type 0} (p : Reader A) (ok : A → Bool) (b : List ℕ) (at count : ℕ) (l : List A) (rest : List ℕ) : Type 0 where
  pub stands : Stands p ok b at count
  pub items : items_at p b at count ≡ l
  pub left : left_at p b at count ≡ rest

pub stand_as : {A : Type 0} (p : Reader A) (ok : A → Bool) (b : List ℕ) (at count : ℕ) (l : List A) (rest : List ℕ) → several p count (drop at b) ≡ some (l, rest) → T (all ok l) → StandAs p ok b at count l rest
unfolding items_at left_at
stand_as {A} p ok b at count l rest e t =
    let i : items_at p b at count ≡ l = rw e in
    let r : left_at p b at count ≡ rest = rw e in
    record { stands = record { reads = e ∙ (λ k. some (sym i k, sym r k)); pass = subst (λ (x : List A). T (all ok x)) (sym i) t }; items = i; left = r }

pub none_left : {A : Type 0} (p : Reader A) (b : List ℕ) (at : ℕ) → left_at p b at 0 ≡ drop at b
unfolding left_at several give
none_left p b at = refl

pub no_items : {A : Type 0} (p : Reader A) (b : List ℕ) (at : ℕ) → items_at p b at 0 ≡ []
unfolding items_at several give
no_items p b at = refl

-- one thing at a position, then the others
pub record First {A : Type 0} (p : Reader A) (ok : A → Bool) (b : List ℕ) (at count : ℕ) : Type 0 where
  pub item : A
  pub end : ℕ
  pub within : end ≤ length b
  pub reads : p (drop at b) ≡ some (item, drop end b)
  pub passes : T (ok item)
  pub items : items_at p b at (suc count) ≡ item ∷ items_at p b end count
  pub left : left_at p b at (suc count) ≡ left_at p b end count
  pub later : Stands p ok b end count

pub first_of : {A : Type 0} (p : Reader A) (sf : Suffix p) (ok : A → Bool) (b : List ℕ) (at count : ℕ) → Stands p ok b at (suc count) → First p ok b at count
unfolding several give all
first_of {A} p sf ok b at count h =
    let all_items : List A = items_at p b at (suc count) in
    let rest : List ℕ = left_at p b at (suc count) in
    let r = then_some p (λ x. several p count >>= λ k. give (x ∷ k)) (drop at b) (all_items, rest) h.reads in
    let q = then_some (several p count) (λ k. give (r.item ∷ k)) r.left (all_items, rest) r.later in
    let same = some-injective (r.item ∷ q.item, q.left) (all_items, rest) q.later in
    let parts : r.item ∷ q.item ≡ all_items = ap (λ (x : List A × List ℕ). x.0) same in
    let left : q.left ≡ rest = ap (λ (x : List A × List ℕ). x.1) same in
    let end : ℕ = length b - length r.left in
    let stop : drop end b ≡ r.left = suffix_at p sf b at r.item r.left r.first in
    let t : T (all ok (r.item ∷ q.item)) = subst (λ (x : List A). T (all ok x)) (sym parts) h.pass in
    let y = stand_as p ok b end count q.item q.left (ap (several p count) stop ∙ q.first) (and_r (ok r.item) (all ok q.item) t) in
    record {
      item = r.item;
      end = end;
      within = omega arith;
      reads = r.first ∙ ap (λ (s : List ℕ). some (r.item, s)) (sym stop);
      passes = and_l (ok r.item) (all ok q.item) t;
      items = sym parts ∙ ap (λ (x : List A). r.item ∷ x) (sym y.items);
      left = sym left ∙ sym y.left;
      later = y.stands;
    }
