-- `walk::last_count` meets its contract. Assumes nothing.
use mathlib.Core.Path.{sym, ap, ◌∙◌}
use native.Mathlib.Omega.{arith}
use Rattle.basis.specs.Choice.{given, some_given}
use Rattle.basis.specs.Logic.{true_is}
use Rattle.basis.specs.NumberLaws.{bytes_of_lem}
use Rattle.model.specs.Legal.{legal_body}
use Rattle.walk.specs.LastCount.{reached_start, reached_stands, reached_there, reached_turn, reached_last}
use Rattle.walk.specs.Walk.{body_is}
use Rattle.walk.proofs.last_count.Goals as goal

pub bounds-b-3 : goal.bounds-b-3
bounds-b-3 c = omega (arith, (body_is c.args.b.now (true_is (legal_body c.args.b.now) c.requires)).long)

pub loop-init : goal.loop-init
loop-init c = reached_start c.args.b.now c.size-count.result (true_is (legal_body c.args.b.now) c.requires) c.size-count.ensures.0

pub unwrap-at-requires : goal.unwrap-at-requires
unwrap-at-requires c = some_given c.branch_end.result _ c.branch_end.ensures (reached_stands c.args.b.now c.size-count.result c.loop.at c.loop.counter c.loop-test.true c.loop.invariant)

pub loop-preserved : goal.loop-preserved
loop-preserved c = let e = c.unwrap-at.ensures in
    reached_turn c.args.b.now c.size-count.result c.loop.at c.loop.counter c.unwrap-at.result (bytes_of_lem c.args.b.now (λ k. (c.type_inv.b k).fits)) c.loop-test.true c.loop.invariant
    (ap given (sym e) ∙ c.branch_end.ensures)

pub standing_bare-requires : goal.standing_bare-requires
standing_bare-requires c = reached_there c.args.b.now c.size-count.result c.loop.at c.loop.counter c.loop.invariant

pub returns : goal.returns
returns c =
    reached_last c.args.b.now c.size-count.result c.loop.at c.loop.counter c.standing_bare.result (bytes_of_lem c.args.b.now (λ k. (c.type_inv.b k).fits)) (true_is (legal_body c.args.b.now) c.requires) c.loop-test.false c.loop.invariant c.standing_bare.ensures
