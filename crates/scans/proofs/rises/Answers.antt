-- `scans::rises` meets its contract. Assumes nothing.
use mathlib.Core.Path.{◌≡◌, ◌∙◌}
use Prim.Native.Nat.{◌+◌, ◌*◌, ◌<◌, ◌≤◌}
use native.Mathlib.Omega.{arith}
use mathlib.Core.List.{[]}
use mathlib.Core.Bool.{◌&&◌, false}
use lib.ListN.{length, get_or}
use lib.Dec.{leb}
use Rattle.std.proofs.Common.{rules}
use Rattle.basis.specs.Lists.{pieces}
use Rattle.basis.specs.Numbers.{number_at}
use Rattle.sections.specs.RowLaws.{pieces_length, number_of_row}
use Rattle.scans.specs.Tests.{climb_start, climb_out, climb_more, climb_end}
use Rattle.scans.proofs.rises.Goals as goal
use Rattle.scans.proofs.rises.Goals.{After-field}

pub loop-i-init : goal.loop-i-init
loop-i-init c = climb_start _ _ _ _

-- a turn: the number that was read is that of the row
module _ (c : After-field) where
  inside : c.loop-i.i < length (pieces c.args.n c.args.size c.args.rows.now)
  inside = omega (arith, c.loop-i-test.true, pieces_length c.args.n c.args.size c.args.rows.now)

  abbrev row : number_at (c.loop-i.i * c.args.size + c.args.at) c.args.w c.args.rows.now ≡ number_at c.args.at c.args.w (get_or (pieces c.args.n c.args.size c.args.rows.now) c.loop-i.i [])
  row = number_of_row c.args.n c.args.size c.args.rows.now c.loop-i.i c.args.at c.args.w c.loop-i-test.true c.requires.1

pub returns-then-not-contains : goal.returns-then-not-contains
returns-then-not-contains c =
    let t = (goal.at.returns-then-not-contains c).After-field in
    let out : (leb c.loop-i.low c.field.result && leb c.field.result c.args.most) ≡ false = search rules in
    climb_out _ _ _ _ [] _ _ c.loop-i.invariant _ (inside t) (c.field.ensures ∙ row t) out

pub loop-i-preserved : goal.loop-i-preserved
loop-i-preserved c =
    let t = (goal.at.loop-i-preserved c).After-field in
    let l : c.loop-i.low ≤ c.field.result = search rules in
    let h : c.field.result ≤ c.args.most = search rules in
    climb_more _ _ _ _ [] _ _ c.loop-i.invariant _ (inside t) (c.field.ensures ∙ row t) l h

pub returns : goal.returns
returns c =
    climb_end _ _ _ _ [] _ _ c.loop-i.invariant (omega (arith, pieces_length c.args.n c.args.size c.args.rows.now, c.loop-i-test.false))
