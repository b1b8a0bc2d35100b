-- An entry field by field: which values its fields may have. Assumes nothing.
use Rattle.std.specs.Prelude.{ℕ, Bool, ◌&&◌, cond, eqb, ltb}
use Rattle.model.specs.Value.{Value, legal_value}

unfoldable pub is_zero : Value → Bool
is_zero v = eqb v.kind 0 && eqb v.bits 0

-- a used field has a legal value; "All unused bytes are zero"
unfoldable pub field_ok : (used : Bool) → Value → Bool
field_ok used v = cond used (legal_value v) (is_zero v)

-- of the field at index f where `count` are used
abbrev pub field_ok_at : (count f : ℕ) → Value → Bool
field_ok_at count f v = field_ok (ltb f count) v
