-- An operation as the code holds it, by its code. Assumes nothing.
use Rattle.std.specs.Prelude.{◌≡◌, Bool, ◌⊎◌, List}
use Rattle.std.proofs.Math.Path.{refl}
use Prim.Native.Nat.{ℕ, zero, suc, ◌+◌, ◌-◌, ◌≤◌, ◌<◌}
use Rattle.std.proofs.Common.{arith, inl, inr}
use Rattle.std.proofs.Math.Bool.{true, false}
use Rattle.std.proofs.Math.Option.{some, none-ne-some}
use Rattle.basis.specs.Sizes.{most_tuples, space_numbers}
use Rattle.model.specs.Statement as Model
use Rattle.model.specs.Statement.{always, lookup, deposit, transfer}
use Rattle.model.specs.Matching.{Tuple, Bindings, unbound}
use Rattle.model.specs.Execution.{Result, done, sought, perform}
use Rattle.statements.specs.declared.Operation.{Operation}
use Rattle.statements.specs.Flat.{operation_of, operation_is}
use Rattle.bindings.specs.declared.Vars.{Vars}
use Rattle.bindings.specs.Fields.{fields_in}
use Rattle.tuples.specs.Section.{tuples_of}
use Rattle.walk.specs.Choosing.{Finds, is_true, finds}
use Rattle.operations.specs.Performing.{Leaves, look_up, OldestAt, oldest_at, after_taking, CanDeposit}

-- what an operation needs to be performed: an out what its tuple needs, move and copy a space number
abbrev pub CanPerform : Bindings → Model.Operation → Type 0
CanPerform bs always = Unit {0}
CanPerform bs (lookup withdraws blocks s fs) = Unit {0}
CanPerform bs (deposit s fs) = CanDeposit bs s fs
CanPerform bs (transfer withdraws from to fs) = to < space_numbers

pub leaves_as : (x y : Result) (outcome n : ℕ) (v : Vars) (p : List ℕ) → x ≡ y → Leaves x outcome n v p → Leaves y outcome n v p
leaves_as x y outcome n v p e h = rw (← e) h

module _ (o : Operation) where
  -- code 5
  pub code_out : o.code ≡ 5 → deposit o.from (fields_in o) ≡ operation_is o
  unfolding operation_is operation_of
  code_out e = rw e

  -- code 6
  pub code_move : o.code ≡ 6 → transfer true o.from o.to (fields_in o) ≡ operation_is o
  unfolding operation_is operation_of
  code_move e = rw e

  -- code 7
  pub code_copy : 5 ≤ o.code → (o.code ≡ 5 → ⊥) → (o.code ≡ 6 → ⊥) → transfer false o.from o.to (fields_in o) ≡ operation_is o
  unfolding operation_is operation_of
  code_copy a b c = go o.code refl a b c
    where
      go : (n : ℕ) → o.code ≡ n → 5 ≤ n → (n ≡ 5 → ⊥) → (n ≡ 6 → ⊥) → transfer false o.from o.to (fields_in o) ≡ operation_is o
      go zero q a b c = absurd (omega arith)
      go (suc zero) q a b c = absurd (omega arith)
      go (suc (suc zero)) q a b c = absurd (omega arith)
      go (suc (suc (suc zero))) q a b c = absurd (omega arith)
      go (suc (suc (suc (suc zero)))) q a b c = absurd (omega arith)
      go (suc (suc (suc (suc (suc zero))))) q a b c = absurd (b refl)
      go (suc (suc (suc (suc (suc (suc zero)))))) q a b c = absurd (c refl)
      go (suc (suc (suc (suc (suc (suc (suc n))))))) q a b c = rw q

  module _ (bs : Bindings) (ts : List Tuple) where
    -- code 0
    pub code_true : o.code ≡ 0 → done bs ts ≡ perform (operation_is o) bs ts
    unfolding operation_is operation_of perform
    code_true e = rw e

    -- codes 1 and 2
    pub code_in : (o.code ≡ 0 → ⊥) → o.code < 3 → look_up true bs o.from (fields_in o) ts ≡ perform (operation_is o) bs ts
    unfolding operation_is operation_of perform look_up
    code_in a b = go o.code refl a b
      where
        go : (n : ℕ) → o.code ≡ n → (n ≡ 0 → ⊥) → n < 3 → look_up true bs o.from (fields_in o) ts ≡ perform (operation_is o) bs ts
        go zero q a b = absurd (a refl)
        go (suc zero) q a b = rw q
        go (suc (suc zero)) q a b = rw q
        go (suc (suc (suc n))) q a b = absurd (omega arith)

    -- codes 3 and 4
    pub code_rd : 3 ≤ o.code → o.code < 5 → look_up false bs o.from (fields_in o) ts ≡ perform (operation_is o) bs ts
    unfolding operation_is operation_of perform look_up
    code_rd a b = go o.code refl a b
      where
        go : (n : ℕ) → o.code ≡ n → 3 ≤ n → n < 5 → look_up false bs o.from (fields_in o) ts ≡ perform (operation_is o) bs ts
        go zero q a b = absurd (omega arith)
        go (suc zero) q a b = absurd (omega arith)
        go (suc (suc zero)) q a b = absurd (omega arith)
        go (suc (suc (suc zero))) q a b = rw q
        go (suc (suc (suc (suc zero)))) q a b = rw q
        go (suc (suc (suc (suc (suc n))))) q a b = absurd (omega arith)

-- ---- a guard

-- the room for tuples after a guard of a code: in and inp make room for one more
unfoldable pub room_after : (code n : ℕ) → ℕ
room_after zero n = most_tuples - n
room_after (suc zero) n = most_tuples - n + 1
room_after (suc (suc zero)) n = most_tuples - n + 1
room_after (suc (suc (suc k))) n = most_tuples - n

pub room_true : (code n : ℕ) → code ≡ 0 → most_tuples - n ≡ room_after code n
unfolding room_after
room_true code n e = rw e

pub room_in : (code n : ℕ) → (code ≡ 0 → ⊥) → code < 3 → most_tuples - n + 1 ≡ room_after code n
unfolding room_after
room_in zero n a b = absurd (a refl)
room_in (suc zero) n a b = refl
room_in (suc (suc zero)) n a b = refl
room_in (suc (suc (suc k))) n a b = absurd (omega arith)

pub room_rd : (code n : ℕ) → 3 ≤ code → most_tuples - n ≡ room_after code n
unfolding room_after
room_rd zero n a = absurd (omega arith)
room_rd (suc zero) n a = absurd (omega arith)
room_rd (suc (suc zero)) n a = absurd (omega arith)
room_rd (suc (suc (suc k))) n a = refl

-- it is what the tuples after the guard leave of 512
pub room_taken : (code n i m : ℕ) → i < n → n ≤ most_tuples → (code ≡ 0 → ⊥) → code < 3 → m ≡ after_taking true n → m + room_after code n ≡ most_tuples
unfolding after_taking
room_taken code n i m low few a b e = omega (arith, room_in code n a b)

pub room_left : (code n m : ℕ) → n ≤ most_tuples → 3 ≤ code → m ≡ after_taking false n → m + room_after code n ≡ most_tuples
unfolding after_taking
room_left code n m few a e = omega (arith, room_rd code n a)

-- what a guard that is not true finds
sought_at : (ts : List Tuple) (g : Model.Operation) (i : ℕ) → Finds ts g i → (g ≡ always) ⊎ ((t : Tuple) × (sought g unbound ts ≡ some (record { index = i; item = t })))
sought_at ts g i is_true = inl refl
sought_at ts g i (finds {o} {j} {t} e) = inr (t, e)

-- it is in, inp, rd or rdp, and the tuple at its index is the oldest match
pub guard_at : (o : Operation) (p : List ℕ) (n i : ℕ) → Finds (tuples_of p n) (operation_is o) i → (o.code ≡ 0 → ⊥) → (o.code < 5) × OldestAt unbound o.from (fields_in o) p n i
unfolding operation_is operation_of
guard_at o p n i f z = go o.code z (sought_at (tuples_of p n) (operation_is o) i f)
  where
    at : (w b : Bool) → (lookup w b o.from (fields_in o) ≡ always) ⊎ ((t : Tuple) × (sought (lookup w b o.from (fields_in o)) unbound (tuples_of p n) ≡ some (record { index = i; item = t }))) → OldestAt unbound o.from (fields_in o) p n i
    at w b (inl e) = let z : ◌≡◌ {A = ℕ} 0 1 = cc in absurd (omega arith)
    at w b (inr f) = oldest_at unbound o.from (fields_in o) p n i f.0 f.1

    go : (k : ℕ) → (k ≡ 0 → ⊥) → (operation_of k o.from o.to (fields_in o) ≡ always) ⊎ ((t : Tuple) × (sought (operation_of k o.from o.to (fields_in o)) unbound (tuples_of p n) ≡ some (record { index = i; item = t }))) → (k < 5) × OldestAt unbound o.from (fields_in o) p n i
    go zero z f = absurd (z refl)
    go (suc zero) z f = (omega arith, at true true f)
    go (suc (suc zero)) z f = (omega arith, at true false f)
    go (suc (suc (suc zero))) z f = (omega arith, at false true f)
    go (suc (suc (suc (suc zero)))) z f = (omega arith, at false false f)
    go (suc (suc (suc (suc (suc zero))))) z (inl e) = let z : ◌≡◌ {A = ℕ} 0 1 = cc in absurd (omega arith)
    go (suc (suc (suc (suc (suc zero))))) z (inr f) = absurd (none-ne-some _ f.1)
    go (suc (suc (suc (suc (suc (suc zero)))))) z (inl e) = let z : ◌≡◌ {A = ℕ} 0 1 = cc in absurd (omega arith)
    go (suc (suc (suc (suc (suc (suc zero)))))) z (inr f) = absurd (none-ne-some _ f.1)
    go (suc (suc (suc (suc (suc (suc (suc k))))))) z (inl e) = let z : ◌≡◌ {A = ℕ} 0 1 = cc in absurd (omega arith)
    go (suc (suc (suc (suc (suc (suc (suc k))))))) z (inr f) = absurd (none-ne-some _ f.1)
