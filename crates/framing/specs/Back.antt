-- What a record is turned back with, by number. Assumes nothing.
use Rattle.std.specs.Prelude.{ℕ, Ok, Err}
use Rattle.std.specs.Prelude as code
use Rattle.std.proofs.Math.Option.{Option, none, some}
use Rattle.framing.specs.declared.TurnedBack.{TurnedBack}
use Rattle.framing.specs.declared.TurnedBack.TheVariants.{NoState, ShortReply, NoRecord, Taken, Ahead}

abbrev pub number_of : TurnedBack → ℕ
number_of NoState = 1
number_of ShortReply = 2
number_of NoRecord = 3
number_of Taken = 4
number_of Ahead = 5

-- the number that a call is turned back with, if it is
abbrev pub back : code.Result Unit TurnedBack → Option ℕ
back (Ok u) = none
back (Err b) = some (number_of b)
