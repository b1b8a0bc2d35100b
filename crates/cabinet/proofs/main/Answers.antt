-- `cabinet::main` meets its contract. Assumes nothing.
use Rattle.std.specs.Prelude.{ℕ, replicate}
use Rattle.std.proofs.lemmas.List.{length-replicate}
use Rattle.basis.specs.Sizes.{state_size}
use Rattle.cabinet.specs.PrintedLaws.{fresh_leaves}
use Rattle.cabinet.proofs.main.Goals as goal

pub take_all-requires-clause-fresh_state : goal.take_all-requires-clause-fresh_state
take_all-requires-clause-fresh_state c = fresh_leaves c.replica_fresh.result (replicate state_size 0) c.replica_fresh.new.state (length-replicate {A = ℕ} state_size 0) c.replica_fresh.ensures
