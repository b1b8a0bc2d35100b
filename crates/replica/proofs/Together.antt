-- What is proved of the functions for C, beside the claim over two replicas. Assumes nothing.
use Rattle.calls.specs.TwoReplicas.{Demand3}
use Rattle.calls.proofs.Theorem.{theorem}
use Rattle.replica.proofs.replica_fresh.Statement.{statement as FreshMeets}
use Rattle.replica.proofs.replica_fresh.Met.{met as fresh_meets}
use Rattle.replica.proofs.replica_take.Statement.{statement as TakeMeets}
use Rattle.replica.proofs.replica_take.Met.{met as take_meets}

-- `replica_fresh` meets its contract, which is `fresh_call`; `replica_take` meets its own, which is `take_call`; and the claim over two replicas, whose calls and restarts are these two definitions, holds.
pub record Together : Type 2 where
  pub fresh : {M : Type 1} → FreshMeets M
  pub take : {M : Type 1} → TakeMeets M
  pub two : Demand3

pub together : Together
together = record { fresh = fresh_meets; take = take_meets; two = theorem }
