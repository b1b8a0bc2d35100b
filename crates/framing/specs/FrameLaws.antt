-- A record's bytes: their parts, and the checks 2 to 5. Assumes nothing.
use Rattle.std.specs.Prelude.{◌≡◌, Bool, cond, List, length, take, drop, eqb, None, Some}
use Rattle.std.specs.Prelude as code
use Rattle.std.proofs.Math.Path.{refl, sym, ap}
use Rattle.std.proofs.Common.{◌∙◌, true≢false}
use Prim.Native.Nat.{ℕ, suc, ◌+◌, ◌-◌, ◌≤◌, ◌<◌}
use native.Mathlib.Omega.{arith}
use Rattle.std.proofs.Math.Bool.{true, false}
use Rattle.std.proofs.Math.Option.{Option, none, some, some-injective, none-ne-some}
use borrow.Author.Tests.{eqb-true, ne_eqb, le-leb, lt-leb, lt-ltb, le-ltb}
use Rattle.basis.specs.Choice.{maybe, provided, is_some, first_number}
use Rattle.basis.specs.Numbers.{number_at}
use Rattle.basis.specs.Sizes.{mark_width, length_at, length_width, position_at, position_width, body_at, reply_size}
use Rattle.model.specs.Step as model
use Rattle.model.specs.Step.{Record, mark_of, record_of}
use Rattle.calls.specs.Calls.{number_of, in_turn, refusal_at}
use Rattle.framing.specs.declared.Mark.{Mark}
use Rattle.framing.specs.Marks.{mark_is}

-- ---- a record that was read

-- the parts of a record that was read
pub record Parts (x : List ℕ) (r : Record) : Type 0 where
  pub marked : mark_of (take mark_width x) ≡ some r.mark
  pub size : length x ≡ body_at + number_at length_at length_width x
  pub position : number_at position_at position_width x ≡ r.position
  pub body : drop body_at x ≡ r.body

pub record_parts : (x : List ℕ) (r : Record) → record_of x ≡ some r → Parts x r
unfolding record_of provided
record_parts x r e = go (mark_of (take mark_width x)) refl e
  where
    sized : (m : model.Mark) → mark_of (take mark_width x) ≡ some m → (t : Bool) → eqb (length x) (body_at + number_at length_at length_width x) ≡ t
        → cond t (some (record { mark = m; position = number_at position_at position_width x; body = drop body_at x })) none ≡ some r → Parts x r
    sized m q false f e = absurd (none-ne-some r e)
    sized m q true f e =
        let k = some-injective (record { mark = m; position = number_at position_at position_width x; body = drop body_at x }) r e in
        record { marked = q ∙ ap (λ (y : Record). some y.mark) k; size = eqb-true (length x) (body_at + number_at length_at length_width x) f; position = ap (λ (y : Record). y.position) k; body = ap (λ (y : Record). y.body) k }

    go : (o : Option model.Mark) → mark_of (take mark_width x) ≡ o → maybe o none (λ m. cond (eqb (length x) (body_at + number_at length_at length_width x)) (some (record { mark = m; position = number_at position_at position_width x; body = drop body_at x })) none) ≡ some r → Parts x r
    go none q e = absurd (none-ne-some r e)
    go (some m) q e = sized m q (eqb (length x) (body_at + number_at length_at length_width x)) refl e

-- ---- check 3

pub record_short : (x : List ℕ) → length x < body_at → false ≡ is_some (record_of x)
unfolding record_of provided is_some
record_short x h =
    let e : eqb (length x) (body_at + number_at length_at length_width x) ≡ false = ne_eqb (length x) (body_at + number_at length_at length_width x) (λ q. omega arith) in
    rw e (go (mark_of (take mark_width x)))
  where
    go : (o : Option model.Mark) → false ≡ is_some (maybe {B = Option Record} o none (λ m. none))
    go none = unfold is_some in refl
    go (some m) = unfold is_some in refl

pub record_unmarked : (x : List ℕ) (o : code.Option Mark) → mark_is o ≡ mark_of (take mark_width x) → code.is_some o ≡ false → false ≡ is_some (record_of x)
unfolding record_of is_some
record_unmarked x None e z = sym (rw (← e) refl)
record_unmarked x (Some m) e z = absurd (true≢false z)

pub record_sized : (x : List ℕ) (o : code.Option Mark) (w : ℕ) → mark_is o ≡ mark_of (take mark_width x) → code.is_some o ≡ true → w ≡ number_at length_at length_width x → eqb (length x) (body_at + w) ≡ is_some (record_of x)
unfolding record_of
record_sized x None w e z ew = absurd (true≢false (sym z))
record_sized x (Some m) w e z ew = rw (ew, ← e) (test (eqb (length x) (body_at + number_at length_at length_width x)) _)
  where
    test : (t : Bool) (r : Record) → t ≡ is_some (provided t r)
    test true r = unfold is_some provided in refl
    test false r = unfold is_some provided in refl

-- a record's bytes are long enough for its position
pub some_long : (x : List ℕ) (q : Bool) → q ≡ is_some (record_of x) → q ≡ true → body_at ≤ length x
some_long x q f t = go (record_of x) refl (sym f ∙ t)
  where
    go : (o : Option Record) → record_of x ≡ o → is_some o ≡ true → body_at ≤ length x
    go none w t = unfold is_some in absurd (true≢false (sym t))
    go (some m) w t = omega (arith, (record_parts x m w).size)

-- ---- checks 4 and 5

module _ (last n : ℕ) where
  pub turn_4 : n ≤ last → some 4 ≡ in_turn last (some n)
  unfolding in_turn first_number
  turn_4 h = sym (rw (le-leb n last h))

  pub turn_5 : last < n → 1 < n - last → some 5 ≡ in_turn last (some n)
  unfolding in_turn first_number
  turn_5 h k = let l : suc last < n = omega arith in sym (rw (lt-leb n last h, lt-ltb (suc last) n l))

  pub turn_next : last < n → n - last ≤ 1 → none ≡ in_turn last (some n)
  unfolding in_turn first_number
  turn_next h k = let l : n ≤ suc last = omega arith in sym (rw (lt-leb n last h, le-ltb (suc last) n l))

-- ---- checks 2 to 5

module _ (last : ℕ) (x y : List ℕ) where
  pub at_2 : length y < reply_size → some 2 ≡ refusal_at last x y
  unfolding refusal_at
  at_2 h = sym (rw (lt-ltb (length y) reply_size h))

  pub at_3 : (q : Bool) → reply_size ≤ length y → q ≡ is_some (record_of x) → q ≡ false → some 3 ≡ refusal_at last x y
  unfolding refusal_at number_of in_turn
  at_3 q h f k = sym (rw (le-ltb (length y) reply_size h) (go (record_of x) (sym f ∙ k)))
    where
      go : (o : Option Record) → is_some o ≡ false → in_turn last (maybe o none (λ r. some r.position)) ≡ some 3
      go none t = unfold in_turn in refl
      go (some m) t = unfold is_some in absurd (true≢false t)

  pub at_turn : (q : Bool) (n : ℕ) (k : Option ℕ) → reply_size ≤ length y → q ≡ is_some (record_of x) → q ≡ true → n ≡ number_at position_at position_width x → k ≡ in_turn last (some n) → k ≡ refusal_at last x y
  unfolding refusal_at number_of
  at_turn q n k h f t en ek = ek ∙ sym (rw (le-ltb (length y) reply_size h) (go (record_of x) refl (sym f ∙ t)))
    where
      go : (o : Option Record) → record_of x ≡ o → is_some o ≡ true → in_turn last (maybe o none (λ r. some r.position)) ≡ in_turn last (some n)
      go none w t = unfold is_some in absurd (true≢false (sym t))
      go (some m) w t = ap (λ (p : ℕ). in_turn last (some p)) (sym (en ∙ (record_parts x m w).position))
