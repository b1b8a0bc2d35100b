-- `bindings::no_vars` meets its contract. Assumes nothing.
use Rattle.bindings.specs.Variables.{bindings_none}
use Rattle.bindings.proofs.no_vars.Goals as goal

pub returns : goal.returns
returns c = bindings_none
