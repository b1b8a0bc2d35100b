-- `standing::host_is_up` meets its contract. Assumes nothing.
use mathlib.Core.Path.{ap, ◌∙◌}
use mathlib.Core.Bool.{Bool, false}
use mathlib.Core.List.{List}
use lib.ListN.{get_or}
use Rattle.model.specs.Run.{host_up}
use Rattle.standing.proofs.host_is_up.Goals as goal

pub returns : goal.returns
unfolding host_up
returns c =
    c.has_host.ensures ∙ ap (λ (up : List Bool). get_or up c.args.host false) c.hosts.ensures.0
