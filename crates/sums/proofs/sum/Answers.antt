-- `sums::sum` meets its contract. Assumes nothing.
use borrow.Author.Rules.{rules}
use mathlib.Core.Path.{◌∙◌}
use lib.Dec.{T}
use lib.Ieee.{binary32, fits}
use Rattle.sums.proofs.Sums.{whole_row, metres_row, name_row, metres_legal}
use Rattle.sums.proofs.sum.Goals as goal

pub sum_metres-requires : goal.sum_metres-requires
sum_metres-requires c =
    let m = c.in-Metres-Metres in
    metres_legal c.args.a c.args.b c.requires m.x m.y m.is-0 m.is-1

pub returns-then-subtract : goal.returns-then-subtract
returns-then-subtract c =
    let w = c.in-Whole-Whole in
    c.subtract_whole.ensures ∙ whole_row c.args.subtract c.args.a c.args.b c.requires w.x w.y _ w.is-0 w.is-1 (rw c.if-subtract.true)

pub returns-else-subtract : goal.returns-else-subtract
returns-else-subtract c =
    let w = c.in-Whole-Whole in
    c.add_whole.ensures ∙ whole_row c.args.subtract c.args.a c.args.b c.requires w.x w.y _ w.is-0 w.is-1 (rw c.if-subtract.false)

pub returns-in-Metres-Metres : goal.returns-in-Metres-Metres
returns-in-Metres-Metres c =
    let m = c.in-Metres-Metres in
    let f : T (fits binary32 m.x) = search rules in
    let g : T (fits binary32 m.y) = search rules in
    c.sum_metres.ensures ∙ metres_row c.args.subtract c.args.a c.args.b c.requires m.x m.y f g m.is-0 m.is-1

pub returns-in_default-3 : goal.returns-in_default-3
returns-in_default-3 c = name_row c.args.subtract c.args.a c.args.b c.requires c.in_default.field-0-0 c.in_default.is-0
