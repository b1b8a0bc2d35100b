-- Whether one guard holds: what the search for its tuple answers. Assumes nothing.
use Rattle.std.specs.Prelude as code
use Rattle.std.specs.Prelude.{None, Some, ◌≡◌, ℕ, true, false, List, T}
use Rattle.std.proofs.Math.Path.{refl, sym}
use Rattle.std.proofs.Common.{ap, ◌∙◌}
use Rattle.basis.specs.Choice.{is_some}
use Rattle.basis.specs.Lists.{first}
use Rattle.basis.specs.ListLaws.{first_any}
use Rattle.model.specs.Legal.{is_guard}
use Rattle.model.specs.Matching.{Bindings, unbound, template, is_match}
use Rattle.model.specs.Execution.{holds}
use Rattle.statements.specs.declared.Operation.{Operation}
use Rattle.statements.specs.Flat.{operation_is}
use Rattle.tuples.specs.Section.{tuples_of}
use Rattle.matching.specs.declared.Template.{Template}
use Rattle.matching.specs.Meaning.{template_is, found_is}
use Rattle.bindings.specs.Fields.{fields_in}
use Rattle.guards.specs.Searching.{guard_template}

found_some : (p : List ℕ) (r : code.Option ℕ) → code.is_some r ≡ is_some (found_is p r)
unfolding found_is is_some
found_some p None = refl
found_some p (Some i) = refl

-- a guard that is not true, its template, and the tuple that was looked for
module _ (o : Operation) (p : List ℕ) (n : ℕ) (bs : Bindings) (t : Template) (r : code.Option ℕ) (g : T (is_guard (operation_is o))) (z : o.code ≡ 0 → ⊥) (eb : bs ≡ unbound) (et : template_is t ≡ template bs o.from (fields_in o)) (er : found_is p r ≡ first (is_match (template_is t)) (tuples_of p n)) where
  found_is_lem : is_some (found_is p r) ≡ holds (tuples_of p n) (operation_is o)
  found_is_lem =
      ap is_some er ∙ first_any (is_match (template_is t)) (tuples_of p n)
      ∙ sym (guard_template o (tuples_of p n) t g z (et ∙ ap (λ (x : Bindings). template x o.from (fields_in o)) eb))

  -- whether one was found
  pub found_holds : code.is_some r ≡ holds (tuples_of p n) (operation_is o)
  found_holds = found_some p r ∙ found_is_lem
