-- What a record has come to before rule 7. Assumes nothing.
use Rattle.std.specs.Prelude.{◌≡◌, ◌≢◌, ℕ, ◌≤◌, List, Ok, Err}
use Rattle.std.specs.Prelude as code
use Rattle.std.proofs.Math.Option.{Option, none, some}
use Rattle.basis.specs.Choice.{maybe, first_number}
use Rattle.basis.specs.Sizes.{most_reply}
use Rattle.model.specs.Run.{Run}
use Rattle.model.specs.Step.{Request, checks, malformed, effect, handled}
use Rattle.layout.specs.Stored.{Turned}
use Rattle.handling.specs.declared.Refused.{Refused}

-- no check refuses, and the effect is there with its reply
pub record Took (o : Option Request) (s : Run) (buffer state out : List ℕ) (count : ℕ) : Type 0 where
  pub request : Request
  pub asked : o ≡ some request
  pub passes : first_number (checks s request) ≡ none
  pub turned : Turned (effect s request) buffer state out count
  pub short : count ≤ most_reply

-- a check refuses what is asked, 6 where nothing is
abbrev pub Refuses : Option Request → Run → Type 0
Refuses none s = Unit {0}
Refuses (some q) s = first_number (checks s q) ≢ none

-- a check refuses, and the one reply says so; or all but rule 7 is done
abbrev pub Answers : Option Request → Run → (buffer state out : List ℕ) → code.Result ℕ Refused → Type 0
Answers o s buffer state out (Err r) = Refuses o s × Turned (maybe o (malformed s) (handled s)) buffer state out r.size
Answers o s buffer state out (Ok n) = Took o s buffer state out n
