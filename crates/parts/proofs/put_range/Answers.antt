-- `parts::put_range` meets its contract. Assumes nothing.
use mathlib.Core.Path.{◌∙◌}
use Rattle.parts.specs.Fields.{range_put}
use Rattle.parts.proofs.put_range.Goals as goal

pub returns : goal.returns
returns c =
    let same = c.put_value.auto.t in
    range_put c.args.f c.args.t.now _ _ c.args.at _ c.requires same (c.put4.auto.d ∙ same) c.put_value.ensures c.put4.ensures
