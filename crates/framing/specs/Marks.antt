-- The code's marks as those of the definitions. Assumes nothing.
use Rattle.std.specs.Prelude as code
use Rattle.std.specs.Prelude.{None, Some}
use Rattle.std.proofs.Math.Option.{Option, none, some}
use Rattle.model.specs.Step as model
use Rattle.model.specs.Step.{RV, CR, MO, MS, DS, AG}
use Rattle.framing.specs.declared.Mark.{Mark}
use Rattle.framing.specs.declared.Mark.TheVariants.{Recover, Crash, Monitor, Open, Close, Statement}

abbrev pub marked : Mark → model.Mark
marked Recover = RV
marked Crash = CR
marked Monitor = MO
marked Open = MS
marked Close = DS
marked Statement = AG

-- none for an unknown one
abbrev pub mark_is : code.Option Mark → Option model.Mark
mark_is None = none
mark_is (Some m) = some (marked m)
