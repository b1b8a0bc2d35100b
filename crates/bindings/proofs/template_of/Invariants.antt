-- `bindings::template_of` meets its contract. Assumes nothing.
use mathlib.Core.Path.{◌≡◌}
use mathlib.Core.List.{map}
use lib.ListN.{length, take}
use Rattle.basis.specs.Sizes.{most_fields}
use Rattle.model.specs.Matching.{template_field}
use Rattle.matching.specs.Meaning.{template_fields_from}
use Rattle.statements.specs.Flat.{fields_are}
use Rattle.bindings.specs.Variables.{bindings_of}
use Rattle.bindings.proofs.template_of.Given as goal

abbrev pub invariant-loop-i : goal.invariant-loop-i
invariant-loop-i l = (template_fields_from l.kinds l.given l.lowest l.highest 0 l.i ≡ map (template_field (bindings_of l.v)) (fields_are (take l.i l.op.fields)))
    × (length l.kinds ≡ most_fields)
    × (length l.given ≡ most_fields)
    × (length l.lowest ≡ most_fields)
    × (length l.highest ≡ most_fields)
