-- What the loop of `wellformed::fields_ok` keeps. Assumes nothing.
use mathlib.Core.Path.{◌≡◌}
use Rattle.basis.specs.Sizes.{most_fields}
use Rattle.tuples.specs.Entry.{values_in, values_from, each_field}
use Rattle.wellformed.specs.Fields.{field_ok_at}
use Rattle.wellformed.proofs.fields_ok.Given as goal

abbrev pub invariant-loop-f : goal.invariant-loop-f
invariant-loop-f l = each_field (field_ok_at l.count) 0 (values_in l.tuples l.i most_fields) ≡ each_field (field_ok_at l.count) l.f (values_from l.tuples l.i most_fields l.f)
