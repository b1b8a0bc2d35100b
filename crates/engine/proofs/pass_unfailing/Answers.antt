-- `engine::pass_unfailing` meets its contract. Assumes nothing.
use mathlib.Core.Path.{sym, ◌∙◌}
use Prim.Native.Nat.{◌<◌}
use native.Mathlib.Omega.{arith}
use Rattle.basis.specs.Logic.{true_is}
use Rattle.engine.specs.Unfailing.{pass_out, pass_move}
use Rattle.engine.proofs.pass_unfailing.Goals as goal

-- a move
pub returns-then-code-eq-MOVE : goal.returns-then-code-eq-MOVE
returns-then-code-eq-MOVE c = let a = c.args in pass_move a.body.now a.at a.room c.standing_bare-end.result c.standing_bare-end.ensures c.if-code-eq-MOVE.true

-- an out
pub returns : goal.returns
returns c =
    let a = c.args in
    let pos : 0 < a.room = omega (arith, c.if-room-eq0.false) in
    pass_out a.body.now a.at a.room c.standing_operation-end.result c.standing_operation-end.ensures c.if-code-ne-OUT.false pos (true_is _ (sym c.makes_no_sum.ensures ∙ c.if-not-makes_no_sum.false))
