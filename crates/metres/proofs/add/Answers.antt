-- `metres::add` meets its contract: the larger operand comes first. Assumes nothing.
use mathlib.Core.Path.{sym, ap, ◌∙◌}
use lib.IntN.{+ℤ_comm}
use Rattle.rounding.specs.Parts.{scaled, bits_of}
use Rattle.rounding.specs.Binary32.{add_bits}
use Rattle.metres.proofs.add.Goals as goal

pub returns-then-a-b : goal.returns-then-a-b
returns-then-a-b c =
    c.onto.ensures ∙ ap bits_of (+ℤ_comm (scaled c.args.b) (scaled c.args.a)) ∙ sym (add_bits c.args.a c.args.b c.ranges.a.fits c.requires.sign_bound c.requires.sign_bound_2 c.requires.fact)

pub returns-else-a-b : goal.returns-else-a-b
returns-else-a-b c =
    c.onto-else-a-b.ensures ∙ sym (add_bits c.args.a c.args.b c.ranges.a.fits c.requires.sign_bound c.requires.sign_bound_2 c.requires.fact)
