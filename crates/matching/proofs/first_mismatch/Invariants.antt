-- `matching::first_mismatch` meets its contract. Assumes nothing.
use Prim.Native.Nat.{◌≤◌}
use mathlib.Core.Path.{◌≡◌}
use Rattle.model.specs.Matching.{same_kind, same_value}
use Rattle.matching.specs.SearchLaws.{pairs_from}
use Rattle.matching.proofs.first_mismatch.Given as goal

-- what is left to test says what all of it does
abbrev pub invariant-kinds : goal.invariant-kinds
invariant-kinds l = (pairs_from same_kind l.template l.tuples l.i l.template.count 0 ≡ pairs_from same_kind l.template l.tuples l.i l.template.count l.k) × (l.k ≤ l.template.count)

abbrev pub invariant-values : goal.invariant-values
invariant-values l = (pairs_from same_value l.template l.tuples l.i l.template.count 0 ≡ pairs_from same_value l.template l.tuples l.i l.template.count l.f) × (l.f ≤ l.template.count)
