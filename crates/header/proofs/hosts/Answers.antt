-- `header::hosts` meets its contract. Assumes nothing.
use mathlib.Core.Path.{ap, ◌∙◌}
use Rattle.basis.specs.Numbers.{bits}
use Rattle.basis.specs.Sizes.{hosts}
use Rattle.header.specs.RowLaws.{hosts_say}
use Rattle.header.proofs.hosts.Goals as goal

pub returns : goal.returns
returns c = (ap (bits hosts) c.word2.ensures ∙ hosts_say _, c.word2.ensures)
