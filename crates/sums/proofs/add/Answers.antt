-- `sums::add` meets its contract: both operands are read as values of the kind. Assumes nothing.
use mathlib.Core.Path.{◌≡◌, ◌∙◌}
use Rattle.model.specs.Value.{value}
use Rattle.values.specs.Meaning.{value_is}
use Rattle.values.specs.Answers.{read_is_lem, read_illegal}
use Rattle.sums.proofs.Sums.{alike}
use Rattle.sums.proofs.add.Goals as goal
use Rattle.sums.proofs.add.Goals.{In_ok-y}

first : (c : In_ok-y) → value_is c.in_ok-x.x ≡ value c.args.kind c.args.a
first c = read_is_lem (value c.args.kind c.args.a) c.read_value.result c.read_value.ensures c.in_ok-x.x c.in_ok-x.was

second : (c : In_ok-y) → value_is c.in_ok-y.y ≡ value c.args.kind c.args.b
second c = read_is_lem (value c.args.kind c.args.b) c.read_value-2.result c.read_value-2.ensures c.in_ok-y.y c.in_ok-y.was

pub returns-in_err-x : goal.returns-in_err-x
returns-in_err-x c =
    absurd (rw (read_illegal (value c.args.kind c.args.a) c.read_value.result c.read_value.ensures c.in_err-x.was) at c.requires.0)

pub returns-in_err-y : goal.returns-in_err-y
returns-in_err-y c =
    absurd (rw (read_illegal (value c.args.kind c.args.b) c.read_value-2.result c.read_value-2.ensures c.in_err-y.was) at c.requires.1)

pub sum-requires : goal.sum-requires
sum-requires c = alike c.args.kind c.args.a c.args.b c.in_ok-x.x c.in_ok-y.y (first c) (second c) c.requires.0 c.requires.1

pub returns : goal.returns
returns c =
    let at = (goal.at.returns c).In_ok-y in
    c.sum.ensures ∙ rw (first at, second at)
