-- What can be added to the filled bytes, and what a refusal of it says. Assumes nothing.
use Rattle.std.specs.Prelude.{◌≡◌, true, false, ◌&&◌, List, ℕ, Result, Ok, Err}
use Rattle.basis.specs.Choice.{is_some}
use Rattle.statements.specs.declared.Operation.{Operation}
use Rattle.writer.specs.declared.Reason.TheVariants.{Malformed}
use Rattle.writer.specs.declared.WriteError.{WriteError}
use Rattle.writer.specs.Writer.{is_handed, held}

-- the filled bytes are a legal body, and the parts an operation; else it is malformed
abbrev pub Addable : List ℕ → ℕ → Operation → Result (Unit {0}) WriteError → Type 0
Addable buffer fill o (Ok done) = (is_some (held buffer fill) ≡ true) × (is_handed o ≡ true)
Addable buffer fill o (Err e) = (e ≡ record { reason = Malformed; fill = fill }) × ((is_some (held buffer fill) && is_handed o) ≡ false)
