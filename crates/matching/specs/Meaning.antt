-- What the code of matching holds and answers: a template, which condition fails first, the tuple found. Assumes nothing.
use Rattle.std.specs.Prelude as code
use Rattle.std.specs.Prelude.{None, Some, Ok, Err}
use Rattle.std.specs.Prelude.{ℕ, zero, suc, Bool, false, List, [], ◌∷◌, get_or}
use Rattle.std.proofs.Math.Option.{Option, none, some}
use Rattle.basis.specs.Choice.{provided}
use Rattle.basis.specs.Lists.{Found}
use Rattle.model.specs.Value.{range}
use Rattle.model.specs.Matching.{Tuple, TemplateField, Template, Mismatch, no_mismatch, in_count, in_kinds, in_values}
use Rattle.matching.specs.declared.Template as asked
use Rattle.matching.specs.declared.Mismatch as answer
use Rattle.matching.specs.declared.Mismatch.TheVariants.{Count, Kinds, Values}
use Rattle.tuples.specs.Section.{tuple_at}

-- a field: its kind and, where one is given, its range
abbrev pub template_field_is : (kind : ℕ) (given : Bool) (lowest highest : ℕ) → TemplateField
template_field_is k g l h = record { kind = k; given = provided g (range l h) }

-- field f of four lists, and so many fields from f on
abbrev pub template_field_at : (kinds : List ℕ) (given : List Bool) (lowest highest : List ℕ) → ℕ → TemplateField
template_field_at ks gs ls hs f = template_field_is (get_or ks f 0) (get_or gs f false) (get_or ls f 0) (get_or hs f 0)

unfoldable pub template_fields_from : (kinds : List ℕ) (given : List Bool) (lowest highest : List ℕ) (f count : ℕ) → List TemplateField
template_fields_from ks gs ls hs f zero = []
template_fields_from ks gs ls hs f (suc n) = template_field_at ks gs ls hs f ∷ template_fields_from ks gs ls hs (suc f) n

abbrev pub template_is : asked.Template → Template
template_is t = record { space = t.space; fields = template_fields_from t.kinds t.given t.lowest t.highest 0 t.count }

-- which condition an answer of the code names; its number is `mismatch_number` of that
unfoldable pub mismatch_is : code.Result (Unit {0}) answer.Mismatch → Mismatch
mismatch_is (Ok u) = no_mismatch
mismatch_is (Err Count) = in_count
mismatch_is (Err Kinds) = in_kinds
mismatch_is (Err Values) = in_values

-- the tuple found in a section, with its index
unfoldable pub found_is : List ℕ → code.Option ℕ → Option (Found Tuple)
found_is p None = none
found_is p (Some i) = some (record { index = i; item = tuple_at p i })
