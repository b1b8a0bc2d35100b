-- What a template binds at a tuple's values, field by field. Assumes nothing.
use Rattle.std.specs.Prelude.{◌≡◌, ℕ, ◌+◌, ◌≤◌, ◌<◌, List, length, take, drop, get_or, set, Some}
use Rattle.std.proofs.Common.{sym, arith}
use Rattle.std.proofs.Math.Option.{some}
use Rattle.std.proofs.Math.Seq.{set_out}
use Rattle.basis.specs.Sizes.{variables, most_fields}
use Rattle.model.specs.Value.{Value, value}
use Rattle.model.specs.Statement as Model
use Rattle.model.specs.Statement.{binder_of}
use Rattle.model.specs.Matching.{Bindings, bind_field, bind}
use Rattle.model.proofs.BinderLaws.{values_set}
use Rattle.statements.specs.declared.Field.{Field}
use Rattle.statements.specs.Flat.{field_is, fields_are}
use Rattle.statements.specs.Binds.{binder_in}
use Rattle.tuples.specs.Section.{tuple_at}
use Rattle.tuples.specs.Entry.{value_at, value_in, values_from}
use Rattle.tuples.specs.PlaceLaws.{values_of_lem, from_first, from_next}
use Rattle.bindings.specs.Fields.{fields_drop, fields_past}
use Rattle.values.specs.declared.Scalar.{Scalar}
use Rattle.values.specs.Meaning.{scalar_is}
use Rattle.bindings.specs.declared.Vars.{Vars}
use Rattle.bindings.specs.Variables.{bindings, bindings_of, bindings_set, bindings_length}

-- ---- one field

module _ (v : Vars) (f : Field) (u : Scalar) where
  -- it binds
  pub binds : (y : ℕ) → binder_of (field_is f) ≡ some (binder_in f) → y ≡ f.variable
      → bindings (set v.values y (Some u)) ≡ bind_field (bindings_of v) (field_is f) (scalar_is u)
  binds y e q = rw (values_set (bindings_of v) (field_is f) (scalar_is u) (binder_in f) e, ← q) (bindings_set v.values y u)

  -- no such variable
  pub binds_past : (y : ℕ) → length v.values ≡ variables → binder_of (field_is f) ≡ some (binder_in f) → y ≡ f.variable → variables ≤ y → bindings_of v ≡ bind_field (bindings_of v) (field_is f) (scalar_is u)
  binds_past y n e q h =
      let past : length (bindings_of v) ≤ y = omega (arith, bindings_length v.values) in
      rw (values_set (bindings_of v) (field_is f) (scalar_is u) (binder_in f) e, ← q) (sym (set_out (bindings_of v) y (some (scalar_is u)) past))

-- ---- all of them

-- before the first: the values of the tuple
pub bind_first : (bs : Bindings) (fs : List Model.Field) (p : List ℕ) (i n : ℕ) → length (tuple_at p i).values ≡ n → n ≤ most_fields
    → bind bs fs (tuple_at p i).values ≡ bind bs (drop 0 fs) (values_from p i n 0)
bind_first bs fs p i n e h = rw (from_first p i n, values_of_lem p i n e h)

-- one field bound, the rest to bind
pub bind_turn : (bs bs' : Bindings) (l : List Field) (d : Field) (p : List ℕ) (i n j kind bits : ℕ) → j < n → n ≤ length l
    → kind ≡ (value_in p i j).kind → bits ≡ (value_in p i j).bits → bs' ≡ bind_field bs (field_is (get_or l j d)) (value kind bits)
    → bind bs (drop j (fields_are (take n l))) (values_from p i n j)
    ≡ bind bs' (drop (j + 1) (fields_are (take n l))) (values_from p i n (j + 1))
unfolding bind value_at
bind_turn bs bs' l d p i n j kind bits h k e q b = rw (fields_drop l n j d h k, from_next p i n j h, b, e, q)

-- after the last
pub bind_last : (bs : Bindings) (l : List Field) (vs : List Value) (n : ℕ) → n ≤ length l → bind bs (drop n (fields_are (take n l))) vs ≡ bs
unfolding bind
bind_last bs l vs n h = rw (fields_past l n h)
