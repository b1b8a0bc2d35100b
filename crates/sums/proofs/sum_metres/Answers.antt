-- `sums::sum_metres` meets its contract: the bits of the result are those of the rounded one. Assumes nothing.
use borrow.Author.Rules.{rules}
use mathlib.Core.Path.{◌∙◌}
use lib.Dec.{T}
use lib.Ieee.{binary32, add, sub, fits}
use lib.Ieee.Fits.{add-fits, sub-fits}
use Rattle.sums.proofs.Rounded.{has_bits, sum_asks, by_bits}
use Rattle.sums.proofs.sum_metres.Goals as goal

pub float_to_bits-a : goal.float_to_bits-a
float_to_bits-a c =
    let f : T (fits binary32 c.args.x) = search rules in
    has_bits c.args.x f c.requires.0

pub float_to_bits-b : goal.float_to_bits-b
float_to_bits-b c =
    let f : T (fits binary32 c.args.y) = search rules in
    has_bits c.args.y f c.requires.1

pub subtract-requires : goal.subtract-requires
subtract-requires c =
    let facts = sum_asks c.args.x c.args.y c.requires.0 c.requires.1 in
    record { sign_bound = facts.0; sign_bound_2 = facts.1.0; fact = facts.1.1 }

pub add-requires : goal.add-requires
add-requires c =
    let facts = sum_asks c.args.x c.args.y c.requires.0 c.requires.1 in
    record { sign_bound = facts.0; sign_bound_2 = facts.1.0; fact = facts.1.1 }

pub returns-then-subtract : goal.returns-then-subtract
returns-then-subtract c =
    let f : T (fits binary32 c.args.x) = search rules in
    let g : T (fits binary32 c.args.y) = search rules in
    rw c.if-subtract.true (c.finite_metres.ensures ∙ by_bits (sub binary32) c.args.x c.args.y c.subtract.result f g (sub-fits binary32 c.args.x c.args.y) c.subtract.ensures)

pub returns-else-subtract : goal.returns-else-subtract
returns-else-subtract c =
    let f : T (fits binary32 c.args.x) = search rules in
    let g : T (fits binary32 c.args.y) = search rules in
    rw c.if-subtract.false (c.finite_metres-else-subtract.ensures ∙ by_bits (add binary32) c.args.x c.args.y c.add.result f g (add-fits binary32 c.args.x c.args.y) c.add.ensures)
