-- What the flat structs are: a field by its form, an operation by its code, with its first `count` fields. Assumes nothing.
use Rattle.std.specs.Prelude as code
use Rattle.std.specs.Prelude.{◌≡◌, ℕ, ◌≤◌, ◌<◌, Bool, true, false, List, [], ◌∷◌, map, length, take, get_or, T, leb, ltb, IfSome}
use Rattle.std.proofs.Math.Option.{Option}
use Rattle.basis.specs.Lists.{all}
use Rattle.basis.specs.Sizes.{most_fields}
use Rattle.model.specs.Value.{value, range}
use Rattle.model.specs.Statement as model
use Rattle.model.specs.Statement.{actual, formal, reference, sum, difference, anonymous, ranged, always, lookup, deposit, transfer}
use Rattle.model.specs.Legal.{fields_of}
use Rattle.model.specs.Reading.{operation}
use Rattle.statements.specs.At.{read_at, passed, read_as}
use Rattle.statements.specs.declared.Field.{Field}
use Rattle.statements.specs.declared.Operation.{Operation}

-- "Codes: 0 true .. 7 copy"
abbrev pub codes : ℕ
codes = 8

-- "Fields: form 0 .. Form 5", and form 6
abbrev pub forms : ℕ
forms = 7

-- a field of one of the seven forms
unfoldable pub has_form : Field → Bool
has_form f = ltb f.form forms

-- a field of a form, of its parts
unfoldable pub field_of : (form kind variable bits highest : ℕ) → model.Field
field_of form k x n m = get_or (actual (value k n) ∷ formal k x ∷ reference x ∷ sum x (value k n) ∷ difference x (value k n) ∷ anonymous k ∷ []) form (ranged k (range n m) x)

unfoldable pub field_is : Field → model.Field
field_is f = field_of f.form f.kind f.variable f.bits f.highest

unfoldable pub fields_are : List Field → List model.Field
fields_are fs = map field_is fs

-- an operation of a code, of its parts
unfoldable pub operation_of : (code from to : ℕ) → List model.Field → model.Operation
operation_of code from to fs =
    get_or
    (always
    ∷ lookup true true from fs
    ∷ lookup true false from fs
    ∷ lookup false true from fs
    ∷ lookup false false from fs
    ∷ deposit from fs
    ∷ transfer true from to fs
    ∷ [])
    code (transfer false from to fs)

unfoldable pub operation_is : Operation → model.Operation
operation_is o = operation_of o.code o.from o.to (fields_are (take o.count o.fields))

-- what the code read, and the position after it
abbrev pub field_read : code.Option (Field × ℕ) → Option (model.Field × ℕ)
field_read r = read_as field_is r

abbrev pub fields_read : ℕ → code.Option (List Field × ℕ) → Option (List model.Field × ℕ)
fields_read n r = read_as (λ fs. fields_are (take n fs)) r

abbrev pub read_is : code.Option (Operation × ℕ) → Option (model.Operation × ℕ)
read_is r = read_as operation_is r

-- one of the eight codes, and at most as many fields as there is room for, of the seven forms
pub record Formed (o : Operation) : Type 0 where
  pub code : o.code < codes
  pub count : o.count ≤ most_fields
  pub formed : T (all has_form (take o.count o.fields))

-- an operation was read so, or there is none
pub record Reads (r : code.Option (Operation × ℕ)) (o : Option (model.Operation × ℕ)) : Type 0 where
  pub is : read_is r ≡ o
  pub parts : IfSome r (λ x. Formed x.0)

-- at most as many fields as a tuple has values
unfoldable pub few_fields : model.Operation → Bool
few_fields o = leb (length (fields_of o)) most_fields

-- the operation at a position, and the position after it
unfoldable pub operation_at : List ℕ → ℕ → Option (model.Operation × ℕ)
operation_at b at = passed few_fields (read_at operation b at)
