-- A branch of a body that was chosen, and the tuple that its guard finds, as the code tells them. Assumes nothing.
use Rattle.std.specs.Prelude as code
use Rattle.std.specs.Prelude.{◌≡◌, ℕ, ◌+◌, List, drop, T, None, Some}
use Rattle.std.proofs.Math.Option.{Option, none, some}
use Rattle.basis.specs.Lists.{Found}
use Rattle.model.specs.Statement.{Operation, always, Branch}
use Rattle.model.specs.Reading.{branch}
use Rattle.model.specs.Legal.{legal_branch}
use Rattle.model.specs.Matching.{Tuple, unbound}
use Rattle.model.specs.Execution.{sought}
use Rattle.walk.specs.declared.Choice.{Choice}

-- a legal branch that stands at a position
pub record Chosen (b : List ℕ) (at : ℕ) (br : Branch) : Type 0 where
  pub rest : List ℕ
  pub reads : branch (drop at b) ≡ some (br, rest)
  pub legal : T (legal_branch br)

-- a guard "finds a tuple or is true": the oldest match is the tuple at this index
pub data Finds (ts : List Tuple) : (guard : Operation) (index : ℕ) → Type 0 where
  is_true : {j : ℕ} → Finds ts always j
  finds : {o : Operation} {j : ℕ} {t : Tuple} → sought o unbound ts ≡ some (record { index = j; item = t }) → Finds ts o j

-- the branch that the code chose, its number counted from 1, and the tuple that its guard finds
pub record Picks (b : List ℕ) (ts : List Tuple) (o : Option (Found Branch)) (c : Choice) : Type 0 where
  pub index : ℕ
  pub item : Branch
  pub is : o ≡ some (record { index = index; item = item })
  pub number : c.branch ≡ index + 1
  pub stands : Chosen b c.at item
  pub guard : Finds ts item.guard c.tuple

-- the choice as the code tells it, or there is none
abbrev pub Chooses : List ℕ → List Tuple → Option (Found Branch) → code.Option Choice → Type 0
Chooses b ts o None = o ≡ none
Chooses b ts o (Some c) = Picks b ts o c
