-- The refusals by number. Assumes nothing.
use Rattle.std.specs.Prelude.{ℕ}
use Rattle.std.specs.Prelude as code
use Rattle.std.specs.Prelude.{Ok, Err}
use Rattle.order.specs.declared.Refusal.{Refusal}
use Rattle.order.specs.declared.Refusal.TheVariants.{Malformed, HostDown, HostUp, ProcessWaits, NotOpen, Denied, NoRoom, QueueFull, UsedUp, InUse, NoMatch, OffRange, CannotWait}

-- 6 to 17 in the order of the checks, and 18
abbrev pub number_of : Refusal → ℕ
number_of Malformed = 6
number_of HostDown = 7
number_of HostUp = 8
number_of ProcessWaits = 9
number_of NotOpen = 10
number_of Denied = 11
number_of NoRoom = 12
number_of QueueFull = 13
number_of UsedUp = 14
number_of InUse = 15
number_of NoMatch = 16
number_of OffRange = 17
number_of CannotWait = 18

-- the number that checks come to, 0 where none refuses
abbrev pub told : code.Result Unit Refusal → ℕ
told (Ok u) = 0
told (Err r) = number_of r
