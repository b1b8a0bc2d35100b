-- `matching::may_match` meets its contract. Assumes nothing.
use Prim.Native.Nat.{◌≤◌}
use Rattle.matching.proofs.may_match.Given as goal

abbrev pub invariant-values : goal.invariant-values
invariant-values l = l.e ≤ l.template.count
