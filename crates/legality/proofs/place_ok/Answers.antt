-- `legality::place_ok` meets its contract. Assumes nothing.
use Rattle.std.proofs.Common.{◌∙◌, le-leb}
use Rattle.legality.specs.Places.{place_by, place_low, place_high}
use Rattle.legality.proofs.place_ok.Goals as goal

pub returns-then-guard : goal.returns-then-guard
unfolding place_by
returns-then-guard c = rw c.if-guard.true

pub returns-then-code-ge-OUT : goal.returns-then-code-ge-OUT
returns-then-code-ge-OUT c = le-leb 5 c.args.code c.if-code-ge-OUT.true ∙ rw c.if-guard.false (place_high c.args.code c.if-code-ge-OUT.true)

pub returns-else-code-ge-OUT : goal.returns-else-code-ge-OUT
returns-else-code-ge-OUT c = rw c.if-guard.false (place_low c.args.code c.if-code-ge-OUT.false)
