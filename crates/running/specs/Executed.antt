-- A statement that runs and is answered. Assumes nothing.
use Rattle.std.specs.Prelude.{◌≡◌, ℕ, List, [], ◌∷◌, T}
use Rattle.std.proofs.Math.Option.{Option, some}
use Rattle.basis.specs.Choice.{maybe}
use Rattle.basis.specs.ListLaws.{Each}
use Rattle.model.specs.Value.{Value}
use Rattle.model.specs.Statement.{Statement, spaces_named}
use Rattle.model.specs.Legal.{legal_body}
use Rattle.model.specs.Execution.{chosen, Executed, attempt, tuples_after}
use Rattle.model.specs.Run.{Run, with_tuples, is_open, outcome_of, values_of, ran_reply, Turn}
use Rattle.layout.specs.Stored.{Stored, statement_of}
use Rattle.walk.specs.Choosing.{Picks}
use Rattle.walk.specs.declared.Choice.{Choice}

-- no turn: the run as it is, and no reply
unfoldable pub still : Run → Turn
still s = record { run = s; replies = [] }

-- a legal body whose statement names open spaces only
pub record MayRun (s : Run) (body : List ℕ) : Type 0 where
  pub legal : T (legal_body body)
  pub opened : Each (λ (n : ℕ). T (is_open s.spaces n)) (spaces_named (statement_of body))

-- a statement runs where a guard of it holds, and is answered at a position
unfoldable pub executed : Run → (position : ℕ) → Statement → Turn
executed s p st = maybe (attempt s.tuples st) (still s) (λ e. record { run = with_tuples s (tuples_after s.tuples e.result); replies = ran_reply p st e ∷ [] })

-- a branch of it was chosen on the tuples of a run
abbrev pub Picked : Run → (body : List ℕ) → Choice → Type 0
Picked s body c = Picks body s.tuples (chosen s.tuples (statement_of body)) c

-- what a statement's attempt left in a state, and what it is answered with
pub record Left (s : Run) (o : Option Executed) (state : List ℕ) (branch outcome : ℕ) (values : List (ℕ × Value)) : Type 0 where
  pub stored : Stored state (with_tuples s (maybe o s.tuples (λ e. tuples_after s.tuples e.result)))
  pub runs : branch ≡ maybe o 0 (λ e. e.branch)
  pub answers : (e : Executed) → o ≡ some e → (outcome ≡ outcome_of e.result) × (values ≡ values_of e.result)
