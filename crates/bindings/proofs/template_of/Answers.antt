-- `bindings::template_of` meets its contract. Assumes nothing.
use borrow.Author.Rules.{rules}
use mathlib.Core.Path.{◌≡◌, refl, ap}
use mathlib.Core.List.{List}
use Prim.Native.Nat.{◌<◌}
use native.Mathlib.Omega.{arith}
use lib.ListN.{length}
use Rattle.basis.specs.Sizes.{most_fields}
use Rattle.model.specs.Matching.{TemplateField}
use Rattle.matching.specs.Meaning.{template_fields_from}
use Rattle.statements.specs.Flat.{fields_are}
use Rattle.bindings.specs.Variables.{bindings_of}
use Rattle.bindings.specs.Templates.{ask_turn}
use Rattle.bindings.specs.Fields.{length_mapped}
use Rattle.bindings.proofs.template_of.Goals as goal

pub loop-i-init : goal.loop-i-init
unfolding fields_are template_fields_from
loop-i-init c = (refl, refl, refl, refl, refl)

pub loop-i-preserved : goal.loop-i-preserved
loop-i-preserved c =
    let at = c.loop-i in
    let six : length c.args.op.fields ≡ most_fields = search (rules, length_mapped) in
    let few : at.i < most_fields = search rules in (
      ask_turn (bindings_of c.args.v) c.args.op.fields _ at.kinds at.given at.lowest at.highest at.i
          c.asked-a.result.kind c.asked-a.result.given c.asked-a.result.lowest c.asked-a.result.highest
          (omega arith) (omega arith) (omega arith) (omega arith) (omega arith) at.invariant.0 c.asked-a.ensures,
      search rules,
      search rules,
      search rules,
      search rules,
    )

pub returns : goal.returns
returns c =
    let end : c.loop-i.i ≡ c.args.op.count = omega (arith, c.loop-i.auto.i-end, c.loop-i-test.false) in
    (ap (λ (fs : List TemplateField). record { space = c.args.op.from; fields = fs }) (rw end at c.loop-i.invariant.0), c.requires)
