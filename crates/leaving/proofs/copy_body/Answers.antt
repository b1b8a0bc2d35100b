-- `leaving::copy_body` meets its contract. Assumes nothing.
use Prim.Native.Nat.{◌≤◌}
use native.Mathlib.Omega.{arith}
use Rattle.basis.specs.Sizes.{most_body}
use Rattle.leaving.specs.LeavingLaws.{copied}
use Rattle.leaving.proofs.copy_body.Goals as goal

pub body_length-size-requires : goal.body_length-size-requires
body_length-size-requires c = c.requires.0

pub body_at-requires : goal.body_at-requires
body_at-requires c = c.requires.1

pub copy_part-requires : goal.copy_part-requires
copy_part-requires c = (omega arith, omega arith)

pub returns : goal.returns
returns c =
    let pre = c.requires in
    let small : c.body_length-size.result ≤ most_body = omega arith in
    (small, copied _ _ _ _ _ _ pre.0 small pre.3 c.body_length-size.ensures.0 c.body_at.ensures c.copy_part.ensures)
