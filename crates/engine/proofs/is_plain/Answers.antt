-- `engine::is_plain` meets its contract. Assumes nothing.
use mathlib.Core.Path.{◌≡◌, sym, ◌∙◌}
use mathlib.Core.Bool.{true, false, ◌||◌}
use lib.Dec.{eqb}
use Rattle.std.proofs.Common.{rules}
use Rattle.engine.specs.Unfailing.{plain_form}
use Rattle.engine.proofs.is_plain.Goals as goal

pub returns-in-0 : goal.returns-in-0
returns-in-0 c = let h : true ≡ (eqb c.args.f.form 0 || eqb c.args.f.form 2) = search rules in h ∙ sym (plain_form c.args.f)

pub returns-in_default : goal.returns-in_default
returns-in_default c = let h : false ≡ (eqb c.args.f.form 0 || eqb c.args.f.form 2) = search rules in h ∙ sym (plain_form c.args.f)
