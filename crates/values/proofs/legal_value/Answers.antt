-- `values::legal_value` meets its contract. Assumes nothing.
use mathlib.Core.Path.{◌∙◌}
use Rattle.model.specs.Value.{value}
use Rattle.values.specs.Answers.{read_some}
use Rattle.values.proofs.legal_value.Goals as goal

pub returns : goal.returns
returns c =
    c.is_some.ensures ∙ read_some (value c.args.kind c.args.bits) c.read_value.result c.read_value.ensures
