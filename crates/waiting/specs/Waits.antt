-- What "The state buffer" asks of a waiting statement. Assumes nothing.
use Rattle.std.specs.Prelude.{ℕ, Bool, false, not, ◌&&◌, List, get_or}
use Rattle.basis.specs.Lists.{all, any}
use Rattle.model.specs.Statement.{Statement, spaces_named}
use Rattle.model.specs.Matching.{Tuple}
use Rattle.model.specs.Execution.{ready, can_wait}
use Rattle.model.specs.Run.{Space, Waiting, is_open, is_denied}
use Rattle.names.specs.Asks.{asks}
use Rattle.names.specs.declared.SpaceTest.TheVariants.{Shut}

-- "names only spaces open to that process"
abbrev pub open_to_it : List Space → Waiting → Bool
open_to_it ss w = all (λ n. is_open ss n && not (is_denied ss w.statement.process n)) (spaces_named w.statement)

-- "of an up host", the same, "has an in or rd guard"
unfoldable pub may_wait : (up : List Bool) → List Space → Waiting → Bool
may_wait up ss w = get_or up w.statement.host false && (open_to_it ss w && can_wait w.statement)

-- "no guard that holds"
abbrev pub unready : List Tuple → Waiting → Bool
unready ts w = not (ready ts w.statement)

-- all of them
abbrev pub keeps_waiting : (up : List Bool) → List Space → List Tuple → Waiting → Bool
keeps_waiting up ss ts w = may_wait up ss w && unready ts w

-- all but the host, of a process and a statement, as the code asks for them
unfoldable pub waits : List Space → List Tuple → (process : ℕ) → Statement → Bool
waits ss ts p st = not (any (asks ss (Shut p)) (spaces_named st)) && (can_wait st && not (ready ts st))
