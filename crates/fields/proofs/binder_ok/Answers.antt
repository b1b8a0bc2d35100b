-- `fields::binder_ok` meets its contract. Assumes nothing.
use Rattle.std.proofs.Common.{arith, lt-ltb, le-ltb}
use Rattle.std.proofs.lemmas.Grind.{common_steps}
use Rattle.model.specs.Value.{is_kind}
use Rattle.model.specs.Legal.{legal_binder}
use Rattle.fields.specs.FieldLaws.{some_given}
use Rattle.fields.proofs.binder_ok.Goals as goal

pub returns-then-size-lt-VARIABLES : goal.returns-then-size-lt-VARIABLES
unfolding legal_binder is_kind
returns-then-size-lt-VARIABLES c = let k = some_given c.kind_at.result in grind (arith, common_steps, lt-ltb, le-ltb)

pub returns-else-size-lt-VARIABLES : goal.returns-else-size-lt-VARIABLES
unfolding legal_binder is_kind
returns-else-size-lt-VARIABLES c = grind (arith, common_steps, lt-ltb, le-ltb)
