-- `alone::refers_to` meets its contract. Assumes nothing.
use Rattle.std.proofs.Common.{rules, tests, ◌∙◌, take, eqb}
use Rattle.std.proofs.lemmas.Iterator.{YieldsList-from_slice}
use Rattle.std.proofs.lemmas.Iterator.Search.{any_from_yields_List}
use Rattle.alone.specs.Tests.{refers_told}
use Rattle.alone.proofs.refers_to.Goals as goal

pub returns : goal.returns
returns c = let fs = take c.args.op.count c.args.op.fields in
    any_from_yields_List (λ f. eqb f.form 2) _ _ _ c.any.ensures.ran (YieldsList-from_slice fs cc) (λ x b q k. search (rules, tests)) ∙ refers_told fs
