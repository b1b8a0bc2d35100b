-- `writer::forms_ok` meets its contract. Assumes nothing.
use Rattle.std.proofs.Common.{◌≡◌, Bool, List, [], ◌∷◌, ◌&&◌, refl, ap, ◌∙◌, rules, tests}
use Rattle.std.specs.List.{list_all}
use Rattle.std.proofs.lemmas.Iterator.{YieldsList-from_slice}
use Rattle.std.proofs.lemmas.Iterator.Search.{all_from_yields_List}
use Rattle.basis.specs.Lists.{all}
use Rattle.statements.specs.Flat.{has_form}
use Rattle.writer.proofs.forms_ok.Goals as goal

-- the library's word for the same test
list_all_is : {A : Type 0} (p : A → Bool) (l : List A) → list_all p l ≡ all p l
unfolding all
list_all_is p [] = refl
list_all_is p (a ∷ l) = ap (λ (b : Bool). p a && b) (list_all_is p l)

pub returns : goal.returns
unfolding has_form
returns c =
    let fields = c.args.fields.now in
    all_from_yields_List has_form _ _ _ c.all.ensures.ran (YieldsList-from_slice fields cc) (λ x b q k. search (rules, tests)) ∙ list_all_is has_form fields
