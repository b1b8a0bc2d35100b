-- `bodies::head_legal` meets its contract. Assumes nothing.
use Rattle.std.proofs.Common.{◌∙◌, lt-ltb, le-ltb}
use Rattle.basis.specs.Sizes.{hosts, most_branches}
use Rattle.bodies.specs.BodyLaws.{range_told, head_ok}
use Rattle.bodies.proofs.head_legal.Goals as goal

pub returns-then-host-lt-HOSTS : goal.returns-then-host-lt-HOSTS
unfolding head_ok
returns-then-host-lt-HOSTS c = rw (lt-ltb c.args.host hosts c.if-host-lt-HOSTS.true) (rw (c.new.ensures.start, c.new.ensures.end, c.new.ensures.exhausted) at c.contains.ensures.value ∙ range_told 1 c.args.count most_branches)

pub returns-else-host-lt-HOSTS : goal.returns-else-host-lt-HOSTS
unfolding head_ok
returns-else-host-lt-HOSTS c = rw (le-ltb c.args.host hosts c.if-host-lt-HOSTS.false)
