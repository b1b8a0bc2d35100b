-- `names::pass_branch` meets its contract. Assumes nothing.
use mathlib.Core.Path.{sym, subst}
use Prim.Native.Nat.{◌+◌}
use native.Mathlib.Omega.{arith}
use Rattle.basis.specs.Sizes.{count_width}
use Rattle.walk.specs.Walk.{Operations}
use Rattle.names.specs.Named.{guard_hit, guard_on}
use Rattle.names.proofs.pass_branch.Goals as goal

pub returns-then-operation_names : goal.returns-then-operation_names
returns-then-operation_names c = guard_hit _ c.args.body.now c.args.guard c.args.end _ c.operation_names.ensures c.if-operation_names.true

pub pass_operations-requires : goal.pass_operations-requires
pass_operations-requires c = (subst (Operations c.args.body.now (c.args.end + count_width)) (sym c.size.ensures.0) c.requires.1, omega (arith, c.requires.0), c.requires.2, c.requires.3)

pub returns : goal.returns
returns c = guard_on _ c.args.body.now c.args.guard c.args.end _ c.operation_names.ensures c.if-operation_names.false _ _ c.size.ensures.0 c.pass_operations.ensures
