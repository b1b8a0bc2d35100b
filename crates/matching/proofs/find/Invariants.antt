-- `matching::find` meets its contract. Assumes nothing.
use mathlib.Core.Path.{◌≡◌}
use Rattle.basis.specs.Lists.{first}
use Rattle.model.specs.Matching.{is_match}
use Rattle.tuples.specs.Section.{tuples_of}
use Rattle.matching.specs.Meaning.{template_is}
use Rattle.matching.specs.SearchLaws.{searched}
use Rattle.matching.proofs.find.Given as goal

abbrev pub invariant-loop-i : goal.invariant-loop-i
invariant-loop-i l = first (is_match (template_is l.template)) (tuples_of l.tuples l.n) ≡ searched (is_match (template_is l.template)) l.tuples l.n l.i
