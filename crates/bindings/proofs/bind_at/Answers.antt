-- `bindings::bind_at` meets its contract. Assumes nothing.
use borrow.Author.Rules.{rules}
use mathlib.Core.Path.{◌≡◌, sym, ◌∙◌}
use Prim.Native.Nat.{◌≤◌}
use native.Mathlib.Omega.{arith}
use lib.ListN.{length}
use Rattle.basis.specs.Sizes.{most_fields}
use Rattle.bindings.specs.Fields.{fields_in, length_mapped}
use Rattle.bindings.specs.Variables.{bindings_of}
use Rattle.bindings.specs.Binding.{bind_first, bind_turn, bind_last}
use Rattle.bindings.proofs.bind_at.Goals as goal
use Rattle.bindings.proofs.bind_at.Goals.{Start}

few : (c : Start) → c.args.op.count ≤ length c.args.op.fields
few c = let six : length c.args.op.fields ≡ most_fields = search (rules, length_mapped) in omega (arith, c.requires.0)

pub loop-j-init : goal.loop-j-init
loop-j-init c = bind_first (bindings_of c.args.v) (fields_in c.args.op) c.args.tuples.now c.args.i c.args.op.count c.requires.2 c.requires.0

pub loop-j-preserved : goal.loop-j-preserved
loop-j-preserved c =
    c.loop-j.invariant ∙ bind_turn (bindings_of c.loop-j.w) (bindings_of c.bind_field.new.v) c.args.op.fields _ c.args.tuples.now c.args.i c.args.op.count c.loop-j.j
    c.kind.result c.bits.result c.loop-j-test.true (few (goal.at.loop-j-preserved c).Start) c.kind.ensures c.bits.ensures c.bind_field.ensures

pub returns : goal.returns
returns c =
    let end : c.loop-j.j ≡ c.args.op.count = omega (arith, c.loop-j.auto.j-end, c.loop-j-test.false) in
    sym (rw end at c.loop-j.invariant ∙ bind_last (bindings_of c.loop-j.w) c.args.op.fields _ c.args.op.count (few (goal.at.returns c).Start))
