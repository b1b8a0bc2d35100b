-- A statement with no guard that holds, answered. Assumes nothing.
use Rattle.std.specs.Prelude.{◌≡◌, ℕ, ◌<◌, Bool, true, [], ◌∷◌, ◌++◌, Ok, Err}
use Rattle.std.specs.Prelude as code
use Rattle.basis.specs.Sizes.{most_waiting}
use Rattle.model.specs.Statement.{Statement}
use Rattle.model.specs.Run.{Run, with_waiting, Turn}
use Rattle.model.specs.Step.{refused}
use Rattle.order.specs.declared.Refusal.{Refusal}
use Rattle.order.specs.Told.{number_of}

-- where nothing refuses it, it waits as the youngest, without a reply
abbrev pub answered_by : code.Result Unit Refusal → Run → Statement → Turn
answered_by (Ok u) s st = record { run = with_waiting s (s.waiting ++ (record { position = s.last; statement = st } ∷ [])); replies = [] }
answered_by (Err r) s st = refused s st.host st.process (number_of r)

-- it has a guard to wait with, and there is room in the queue
pub record Waits (can_wait : Bool) (waiting : ℕ) : Type 0 where
  pub blocks : can_wait ≡ true
  pub room : waiting < most_waiting
