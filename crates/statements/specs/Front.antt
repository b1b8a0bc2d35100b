-- What stands before the fields of an operation, and the operation as it is read after it or passed over. Assumes nothing.
use Rattle.std.specs.Prelude as code
use Rattle.std.specs.Prelude.{◌≡◌, Bool, true, length, take, get_or, None, Some, T}
use Rattle.std.proofs.Math.Path.{refl, sym, ap}
use Rattle.std.proofs.Common.{◌∙◌}
use Prim.Native.Nat.{ℕ, zero, suc, ◌+◌, ◌≤◌, ◌<◌}
use native.Mathlib.Omega.{arith}
use Rattle.std.proofs.Math.Option.{Option, none, some, map}
use mathlib.Core.List.{List, [], ◌∷◌}
use Rattle.basis.specs.Choice.{maybe, is_some, provided}
use Rattle.basis.specs.Lists.{all}
use Rattle.basis.specs.Numbers.{number_at}
use Rattle.basis.specs.Sizes.{code_width, count_width, space_width, most_fields}
use Rattle.model.specs.Statement as model
use Rattle.model.specs.Statement.{always, lookup, deposit, transfer, spaces_of}
use Rattle.model.specs.Reading.{give, several, field}
use Rattle.statements.specs.At.{read_at, passed, passed_none, ended, read_as, some_read_at}
use Rattle.statements.specs.Ends.{end_at}
use Rattle.statements.specs.Fields.{field_end, field_parts, field_read_lem}
use Rattle.statements.specs.Flat.{codes, fields_are, fields_read, operation_of, few_fields, operation_at}
use Rattle.statements.specs.Operations.{fields_made, after_code, named_width, second_space, after_short, after_there, operation_always, fields_few, fields_many}
use Rattle.statements.specs.declared.Bare.{Bare}
use Rattle.statements.specs.declared.Field.{Field}
use Rattle.statements.specs.declared.Front.{Front}

-- ---- what stands before the fields

-- the operation of a front: its fields stand from a position on
unfoldable pub after_front : Front → List ℕ → Option (model.Operation × ℕ)
after_front f b = maybe (read_at (several field f.count) b f.at) none (λ r. some (operation_of f.bare.code f.bare.from f.bare.to r.0, r.1))

-- a front is that of this operation, of one of the eight codes, with at most as many fields as a tuple has values
pub record FrontOf (f : Front) (b : List ℕ) (o : Option (model.Operation × ℕ)) : Type 0 where
  pub is : after_front f b ≡ o
  pub code : f.bare.code < codes
  pub count : f.count ≤ most_fields
  pub within : f.at ≤ length b

-- a front was read so, or there is no operation
abbrev pub Fronts : code.Option Front → List ℕ → Option (model.Operation × ℕ) → Type 0
Fronts None b o = none ≡ o
Fronts (Some f) b o = FrontOf f b o

pub fronts_as : (f : code.Option Front) (b : List ℕ) (o same : Option (model.Operation × ℕ)) → Fronts f b o → o ≡ same → Fronts f b same
fronts_as None b o same h e = h ∙ e
fronts_as (Some f) b o same h e = record { is = h.is ∙ e; code = h.code; count = h.count; within = h.within }

-- ---- an operation without its fields

unfoldable pub bare : model.Operation → model.Operation
bare always = always
bare (lookup withdraws blocks s fs) = lookup withdraws blocks s []
bare (deposit s fs) = deposit s []
bare (transfer withdraws from to fs) = transfer withdraws from to []

-- with the position after it
unfoldable pub bare_at : Option (model.Operation × ℕ) → Option (model.Operation × ℕ)
bare_at o = map (λ r. (bare r.0, r.1)) o

pub some_bare : (o : Option (model.Operation × ℕ)) → T (is_some o) → T (is_some (bare_at o))
unfolding bare_at is_some
some_bare none t = absurd t
some_bare (some r) t = tt

-- what the code passed over
abbrev pub bare_is : code.Option (Bare × ℕ) → Option (model.Operation × ℕ)
bare_is r = read_as (λ o. operation_of o.code o.from o.to []) r

-- ---- where fields end

-- a test that every field passes
abbrev pub every : model.Field → Bool
every f = true

pub field_end_lem : (b : List ℕ) (at : ℕ) → field_end b at ≡ end_at field every b at
unfolding end_at ended passed provided
field_end_lem b at = rw (field_read_lem b at) (go (field_end b at))
  where
    go : (end : Option ℕ) → end ≡ ended (passed every (maybe end none (λ x. some (field_parts b at, x))))
    go none = unfold ended passed in refl
    go (some x) = unfold ended passed provided in refl

all_every : (l : List model.Field) → all every l ≡ true
unfolding all
all_every [] = refl
all_every (f ∷ l) = all_every l

pub fields_end : (count : ℕ) (b : List ℕ) (at : ℕ) → end_at (several field count) (all every) b at ≡ ended (read_at (several field count) b at)
unfolding end_at
fields_end count b at = go (read_at (several field count) b at)
  where
    go : (o : Option (List model.Field × ℕ)) → ended (passed (all every) o) ≡ ended o
    go none = unfold passed in refl
    go (some r) = unfold passed provided in rw (all_every r.0)

-- ---- the front

-- true has no more bytes
pub front_always : (f : Front) (b : List ℕ) (at : ℕ) → at < length b → get_or b at 0 ≡ 0 → f.at ≡ at + code_width → f.bare.code ≡ 0 → f.count ≡ 0 → FrontOf f b (operation_at b at)
unfolding after_front several give operation_of
front_always f b at h z e c n =
    let read : read_at (several field 0) b (at + code_width) ≡ some ([], at + code_width) = some_read_at (several field 0) b (at + code_width) [] (at + code_width) refl (omega arith) in
    record { is = rw (e, c, n, read) (sym (operation_always b at h z)); code = omega arith; count = omega arith; within = omega arith }

-- after a code: its spaces, of a width together, and the field count
module _ (b : List ℕ) (at code : ℕ) (some : 0 < code) (few : code < codes) (width : ℕ) (wide : width ≡ named_width code) where
  pub front_short : length b < at + (width + count_width) → none ≡ passed few_fields (read_at (after_code code) b at)
  front_short h = sym (passed_none few_fields _ (after_short b at code some few (omega (arith, wide))))

  after : (from to : ℕ) → at + width < length b → from ≡ number_at at space_width b → to ≡ second_space b at code
      → passed few_fields (read_at (fields_made (operation_of code from to)) b (at + width)) ≡ passed few_fields (read_at (after_code code) b at)
  after from to h e f = rw wide (after_there b at code some few from to (omega (arith, wide)) e f)

  pub front_many : at + width < length b → most_fields < get_or b (at + width) 0 → none ≡ passed few_fields (read_at (after_code code) b at)
  front_many h m = sym (fields_many code (number_at at space_width b) (second_space b at code) b (at + width) some h m) ∙ after (number_at at space_width b) (second_space b at code) h refl refl

  pub front_there : (f : Front) → at + width < length b → f.at ≡ at + width + count_width → f.bare.code ≡ code → f.bare.from ≡ number_at at space_width b → f.bare.to ≡ second_space b at code
      → f.count ≡ get_or b (at + width) 0 → f.count ≤ most_fields → FrontOf f b (passed few_fields (read_at (after_code code) b at))
  unfolding after_front
  front_there f h e c from to n m =
      record {
        is = rw (e, c, n) (fields_few code f.bare.from f.bare.to b (at + width) some h (omega arith) ∙ after f.bare.from f.bare.to h from to);
        code = omega arith;
        count = m;
        within = omega arith;
      }

-- without its fields an operation is that of its code and spaces
pub bare_of_lem : (code from to : ℕ) (fs : List model.Field) → bare (operation_of code from to fs) ≡ operation_of code from to []
unfolding operation_of bare
bare_of_lem zero from to fs = refl
bare_of_lem (suc zero) from to fs = refl
bare_of_lem (suc (suc zero)) from to fs = refl
bare_of_lem (suc (suc (suc zero))) from to fs = refl
bare_of_lem (suc (suc (suc (suc zero)))) from to fs = refl
bare_of_lem (suc (suc (suc (suc (suc zero))))) from to fs = refl
bare_of_lem (suc (suc (suc (suc (suc (suc zero)))))) from to fs = refl
bare_of_lem (suc (suc (suc (suc (suc (suc (suc n))))))) from to fs = refl

-- its fields name no space
pub spaces_bare : (o : model.Operation) → spaces_of (bare o) ≡ spaces_of o
unfolding bare spaces_of
spaces_bare always = refl
spaces_bare (lookup withdraws blocks s fs) = refl
spaces_bare (deposit s fs) = refl
spaces_bare (transfer withdraws from to fs) = refl

-- the fields of a front are read, or their end is found
module _ (f : Front) (b : List ℕ) (o : Option (model.Operation × ℕ)) (h : FrontOf f b o) where
  pub fields_read_lem : (r : code.Option (List Field × ℕ)) → fields_read f.count r ≡ read_at (several field f.count) b f.at
      → read_as (λ fs. operation_of f.bare.code f.bare.from f.bare.to (fields_are (take f.count fs))) r ≡ o
  unfolding after_front
  fields_read_lem r e = go r ∙ ap (λ (x : Option (List model.Field × ℕ)). maybe {B = Option (model.Operation × ℕ)} x none (λ y. some (operation_of f.bare.code f.bare.from f.bare.to y.0, y.1))) e ∙ h.is
    where
      go : (r : code.Option (List Field × ℕ))
          → read_as (λ fs. operation_of f.bare.code f.bare.from f.bare.to (fields_are (take f.count fs))) r ≡ maybe {B = Option (model.Operation × ℕ)} (fields_read f.count r) none (λ y. some (operation_of f.bare.code f.bare.from f.bare.to y.0, y.1))
      go None = refl
      go (Some r) = refl

  pub fields_passed : (end : Option ℕ) → end ≡ ended (read_at (several field f.count) b f.at) → maybe {B = Option (model.Operation × ℕ)} end none (λ x. some (operation_of f.bare.code f.bare.from f.bare.to [], x)) ≡ bare_at o
  unfolding after_front bare_at ended
  fields_passed end e = rw (e, ← h.is) (go (read_at (several field f.count) b f.at))
    where
      go : (x : Option (List model.Field × ℕ)) → maybe {B = Option (model.Operation × ℕ)} (ended x) none (λ z. some (operation_of f.bare.code f.bare.from f.bare.to [], z))
          ≡ bare_at (maybe {B = Option (model.Operation × ℕ)} x none (λ y. some (operation_of f.bare.code f.bare.from f.bare.to y.0, y.1)))
      go none = unfold ended bare_at in refl
      go (some y) = unfold ended bare_at in rw (bare_of_lem f.bare.code f.bare.from f.bare.to y.0)
