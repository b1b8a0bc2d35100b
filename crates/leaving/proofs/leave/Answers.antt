-- `leaving::leave` meets its contract. Assumes nothing.
use native.Mathlib.Omega.{arith}
use mathlib.Core.Path.{sym, ◌∙◌}
use Rattle.leaving.specs.LeavingLaws.{row, few, in_row, gone}
use Rattle.leaving.proofs.leave.Goals as goal

pub copy_body-size-requires : goal.copy_body-size-requires
copy_body-size-requires c =
    let b = c.args.state.now in
    let i = c.args.i in
    (row b i c.requires.0 c.requires.1, few b i c.requires.0 c.requires.1, (in_row b i c.requires.0 c.requires.1).size, c.requires.2)

pub position-position-requires : goal.position-position-requires
position-position-requires c = omega (arith, row c.args.state.now c.args.i c.requires.0 c.requires.1)

pub leave-requires : goal.leave-requires
leave-requires c = (c.requires.0, omega (arith, c.requires.1))

pub shape_of-state : goal.shape_of-state
shape_of-state c =
    c.leave.ensures.long ∙ sym c.requires.0.long

pub shape_of-body : goal.shape_of-body
shape_of-body c = c.copy_body-size.auto.body

pub returns : goal.returns
returns c =
    gone c.args.state.now c.args.i c.requires.0 c.requires.1 _ _ _ _ c.leave.ensures c.position-position.ensures c.copy_body-size.ensures.0 c.copy_body-size.ensures.1
